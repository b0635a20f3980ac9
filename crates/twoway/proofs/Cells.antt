-- The counts from which Type III takes X'X are those of the design's own cells.
use Prim.Native.Nat.{ℕ, zero, suc, ◌+◌, ◌*◌, ◌/◌, ◌%◌, ◌<◌, ◌≤◌, min}
use mathlib.Core.Path.{◌≡◌, refl, sym, ap, ◌∙◌}
use mathlib.Core.Bool.{Bool, true, false, cond, ◌&&◌}
use mathlib.Core.List.{List, [], ◌∷◌}
use native.Mathlib.Omega.{arith}
use borrow.Author.Tests.{eqb-true, eqb-false, eq-eqb, ne_eqb}
use lib.Dec.{eqb}
use lib.Ieee.{Float}
use lib.ListN.{length, get_or}
use Rattle.base.proofs.Bounds.{row_end}
use Rattle.twoway_checks.specs.Cells.{cell}
use Rattle.twoway_normal.specs.Counted.{cell_of, cells_of, cell_at, counts_of}
use Rattle.twoway_normal.specs.Inner.{Fitting}
use Rattle.twoway_normal.proofs.Counted.{counts_tell}
use Rattle.twoway_normal.proofs.Tallies.{sum_to, hit}
use Rattle.twoway_normal.proofs.Ways.{row_of_lem, column_of_lem}

first_out : (h : ℕ → ℕ) (n : ℕ) → sum_to h (suc n) ≡ h 0 + sum_to (λ r. h (suc r)) n
unfolding sum_to
first_out h zero = omega arith
first_out h (suc n) = omega (arith, first_out h n)

same_sum : (g h : ℕ → ℕ) (n : ℕ) → ((r : ℕ) → g r ≡ h r) → sum_to g n ≡ sum_to h n
unfolding sum_to
same_sum g h zero e = refl
same_sum g h (suc n) e = rw (same_sum g h n e, e n)

-- is a reading with the codes u and v one of cell (i, j)?
abbrev here : ℕ → ℕ → ℕ → ℕ → ℕ
here i j u v = cond (eqb u i && eqb v j) 1 0

one_longer : (t : Bool) (x : Float) (ys : List Float) → length (cond t (x ∷ ys) ys) ≡ cond t 1 0 + length ys
one_longer true x ys = omega arith
one_longer false x ys = omega arith

-- as many readings as are there
cell_length : (i j : ℕ) (xs : List Float) (us vs : List ℕ) → length us ≡ length xs → length vs ≡ length xs → length (cell i j xs us vs) ≡ sum_to (λ r. here i j (get_or us r 0) (get_or vs r 0)) (length xs)
unfolding cell sum_to
cell_length i j [] us vs p q = refl
cell_length i j (x ∷ xs) [] vs p q = absurd (omega arith)
cell_length i j (x ∷ xs) (u ∷ us) [] p q = absurd (omega arith)
cell_length i j (x ∷ xs) (u ∷ us) (v ∷ vs) p q =
    one_longer (eqb u i && eqb v j) x (cell i j xs us vs)
    ∙ ap (λ (n : ℕ). here i j u v + n) (cell_length i j xs us vs (omega arith) (omega arith))
    ∙ sym (first_out (λ r. here i j (get_or (u ∷ us) r 0) (get_or (v ∷ vs) r 0)) (length xs))

-- a reading's number is that of cell (i, j) exactly where its codes are i and j
same_cell : (a b i j u v : ℕ) → i < a → j < b → hit (i * (b + 1) + j) (cell_of a b u v) ≡ here i j u v
same_cell a b i j u v h k = go (eqb u i) (eqb v j) refl refl
  where
    rows : cell_of a b u v ≡ i * (b + 1) + j → (min u a ≡ i) × (min v b ≡ j)
    rows e =
        let l : min v b < b + 1 = omega arith in
        let m : j < b + 1 = omega arith in
        (sym (row_of_lem (min u a) (b + 1) (min v b) l) ∙ ap (λ (c : ℕ). c / (b + 1)) e ∙ row_of_lem i (b + 1) j m, sym (column_of_lem (min u a) (b + 1) (min v b) l) ∙ ap (λ (c : ℕ). c % (b + 1)) e ∙ column_of_lem i (b + 1) j m)

    go : (s t : Bool) → eqb u i ≡ s → eqb v j ≡ t → hit (i * (b + 1) + j) (cell_of a b u v) ≡ here i j u v
    go true true p q =
        let y : min u a ≡ i = omega (arith, eqb-true u i p) in
        let z : min v b ≡ j = omega (arith, eqb-true v j q) in
        rw (p, q, y, z, eq-eqb (i * (b + 1) + j) (i * (b + 1) + j) refl)
    go true false p q = rw (p, q, ne_eqb (cell_of a b u v) (i * (b + 1) + j) (λ e. omega (arith, rows e, eqb-false v j q)))
    go false t p q = rw (p, ne_eqb (cell_of a b u v) (i * (b + 1) + j) (λ e. omega (arith, rows e, eqb-false u i p)))

-- cell (i, j) of the design
pub counts_are_cells : (xs : List Float) (us vs : List ℕ) (a b : ℕ) → Fitting xs us vs a b → (i j : ℕ) → i < a → j < b → get_or (counts_of us vs a b) (i * (b + 1) + j) 0 ≡ length (cell i j xs us vs)
counts_are_cells xs us vs a b f i j h k =
    let r : i * (b + 1) + (b + 1) ≤ cells_of a b = row_end i (a + 1) (b + 1) (omega arith) (omega arith) in
    counts_tell xs us vs a b f (i * (b + 1) + j) (omega (arith, r))
    ∙ same_sum (λ r. hit (i * (b + 1) + j) (cell_at us vs a b r)) (λ r. here i j (get_or us r 0) (get_or vs r 0)) (length xs) (λ r. same_cell a b i j (get_or us r 0) (get_or vs r 0) h k)
    ∙ sym (cell_length i j xs us vs f.codes_a f.codes_b)
