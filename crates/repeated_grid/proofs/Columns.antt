-- The conditions are added up row by row: each place gets its own condition's readings, subject after subject.
use mathlib.Core.Path.{◌≡◌, refl, sym, ap, ◌∙◌}
use mathlib.Core.Logic.{inl, inr}
use mathlib.Core.List.{List}
use Prim.Native.Nat.{ℕ, ◌+◌, ◌*◌, ◌≤◌, ◌<◌}
use native.Mathlib.Nat.{eq-or-lt_of_le}
use native.Mathlib.Omega.{arith}
use lib.Ieee.{Float, nan}
use lib.ListN.{length, get_or, drop, replicate, length-set, length-replicate, length-drop, get_or-replicate}
use lib.Seq.{get_or-set_same, get_or-set_other, get_or-take, get_or-drop, length-take-le}
use Rattle.base.specs.Lists.{part}
use Rattle.base.specs.Loop.{loop, turns}
use Rattle.base.proofs.Loops.{loop_length}
use Rattle.base.proofs.Walks.{walks, last_turn}
use Rattle.float.specs.Words.{◌⊕◌, minus_zero}
use Rattle.repeated_grid.specs.Table.{condition_step, condition_sum}
use Rattle.repeated_grid.specs.Inner.{Fitting, add_at, row_added, row_step, column_sums}
use Rattle.repeated_grid.proofs.Rows.{row_within}

pub added_length : (row sums : List Float) → length (row_added row sums) ≡ length sums
unfolding row_added
added_length row sums = loop_length 0 (length row) (add_at row) (λ j m. length-set m j _) sums

-- place j of a row is added to place j, and to no other
module _ (row sums : List Float) (j : ℕ) (room : length row ≤ length sums) (l : j < length row) where
  abbrev Known : ℕ → List Float → Type 0
  Known q s = (length s ≡ length sums) × (q ≤ j → get_or s j nan ≡ get_or sums j nan) × (j < q → get_or s j nan ≡ get_or sums j nan ⊕ get_or row j nan)

  next : (q : ℕ) (s : List Float) → q < length row → Known q s → Known (q + 1) (add_at row q s)
  next q s h p = (
    length-set s q _ ∙ p.0,
    λ b. get_or-set_other s q j _ nan (λ e. omega arith) ∙ p.1 (omega arith),
    λ b. elim (eq-or-lt_of_le b) [
      | inl e ↦ let d : j ≡ q = omega arith in rw d (get_or-set_same s q _ nan (omega (arith, p.0)) ∙ rw (← d) (ap (λ (x : Float). x ⊕ get_or row j nan) (p.1 (omega arith))))
      | inr e ↦ get_or-set_other s q j _ nan (λ z. omega arith) ∙ p.2 (omega arith)
    ],
  )

  pub row_added_lem : get_or (row_added row sums) j nan ≡ get_or sums j nan ⊕ get_or row j nan
  unfolding row_added
  row_added_lem = (walks (add_at row) Known (length row) next 0 sums (omega arith) (refl, λ b. refl, λ b. absurd (omega arith))).2 l

-- place j of row i is the reading that stands at i * k + j
part_at : (a k j : ℕ) (xs : List Float) → j < k → get_or (part a k xs) j nan ≡ get_or xs (a + j) nan
unfolding part
part_at a k j xs l = get_or-take k (drop a xs) j nan l ∙ get_or-drop a xs j nan

part_length : (a k : ℕ) (xs : List Float) → a + k ≤ length xs → length (part a k xs) ≡ k
unfolding part
part_length a k xs h = length-take-le k (drop a xs) (rw length-drop (omega arith))

module _ (xs : List Float) (n k : ℕ) (f : Fitting xs n k) (j : ℕ) (l : j < k) where
  abbrev Summed : ℕ → List Float → Type 0
  Summed i s = (length s ≡ 12) × (get_or s j nan ≡ loop 0 i (condition_step xs k j) minus_zero)

  turn : (i : ℕ) (s : List Float) → i < n → Summed i s → Summed (i + 1) (row_step xs k i s)
  turn i s h p =
      let w = row_within xs n k f i h in
      let e = part_length (i * k) k xs w in (
        added_length (part (i * k) k xs) s ∙ p.0,
        row_added_lem (part (i * k) k xs) s j (omega (arith, e, p.0, f.conditions)) (omega (arith, e))
            ∙ rw (part_at (i * k) k j xs l, p.1) (sym (last_turn (condition_step xs k j) i minus_zero)),
      )

  -- each condition's sum stands in its place
  pub column_sum : get_or (column_sums xs n k) j nan ≡ condition_sum xs n k j
  unfolding column_sums condition_sum loop turns
  column_sum = (walks (row_step xs k) Summed n turn 0 (replicate 12 minus_zero) (omega arith) (length-replicate 12 minus_zero, first)).1
    where
      first : get_or (replicate 12 minus_zero) j nan ≡ minus_zero
      first = get_or-replicate 12 j minus_zero nan (omega (arith, f.conditions))
