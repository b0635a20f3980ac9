-- Laws of the lines of cells, and of the search for a count that differs.
use mathlib.Core.Path.{◌≡◌, refl, sym, ◌∙◌}
use mathlib.Core.Bool.{Bool, true, false, cond, not}
use mathlib.Core.List.{List, [], ◌∷◌}
use Prim.Native.Nat.{ℕ, ◌+◌, ◌-◌, ◌*◌, ◌≤◌, ◌<◌}
use native.Mathlib.Omega.{arith}
use lib.Dec.{eqb}
use denote.Ref.{Bor}
use Rattle.std.specs.Prelude.{Option, None, Some}
use Rattle.std.specs.Option.{unwrap_or, option_map}
use Rattle.std.specs.List.{find}
use lib.Ieee.{Float, nan}
use lib.ListN.{length, get_or, take, drop, replicate, length-set, length-take, length-drop}
use lib.Seq.{length-take-le, get_or-take, get_or-drop}
use Rattle.base.proofs.Loops.{loop_length}
use Rattle.float.specs.Words.{plus_zero}
use Rattle.base.proofs.Bounds.{product_le}
use Rattle.twoway_balanced.specs.Squares.{unlike, margin_step, mean_margins}

-- the margins have six places
pub margins_length : (ms : List Float) (m e d n : ℕ) → length (mean_margins ms m e d n) ≡ 6
unfolding mean_margins
margins_length ms m e d n = loop_length 0 m (margin_step ms e d n) (λ i out. length-set out i _) (replicate 6 plus_zero)

pub taken : (k : ℕ) (out : List Float) (ms : List Float) (m e d n : ℕ) → k ≤ 6 → out ≡ mean_margins ms m e d n → k ≡ length (take k out)
taken k out ms m e d n h q = sym (length-take-le k out (rw (q, margins_length ms m e d n) h))

module _ (a b : ℕ) (rows : a ≤ 6) (columns : b ≤ 6) where
  pub few_cells : a * b ≤ 36
  few_cells = product_le 6 6 rows columns

-- the first that is found not to be n, and n where none is
pub unlike_found : (n : ℕ) (ns : List ℕ) → unwrap_or (find (λ m. not (eqb m n)) ns) n ≡ unlike n ns
unfolding unlike
unlike_found n [] = refl
unlike_found n (m ∷ ms) = go (eqb m n) (unlike_found n ms)
  where
    go : (b : Bool) → unwrap_or (find (λ k. not (eqb k n)) ms) n ≡ unlike n ms → unwrap_or (cond (not b) (Some m) (find (λ k. not (eqb k n)) ms)) n ≡ cond b (unlike n ms) m
    go true e = e
    go false e = refl

-- what a reference that was found, or the one beside it, shows
pub shown_or : (r : Option (Bor ℕ)) (d : Bor ℕ) → (unwrap_or r d).now ≡ unwrap_or (option_map (λ x. x.now) r) d.now
shown_or None d = refl
shown_or (Some x) d = refl

-- cell i of the b cells from s on
module _ (ms : List Float) (s b i : ℕ) (fits : s + b ≤ length ms) (h : i < length (take (s + b - s) (drop s ms))) where
  pub among_row : i < b
  among_row = let t = simp (length-take, length-drop) at h in omega (arith, t)

  pub row_at : get_or (take (s + b - s) (drop s ms)) i nan ≡ get_or ms (s + i) nan
  row_at = get_or-take (s + b - s) (drop s ms) i nan (omega (arith, among_row)) ∙ get_or-drop s ms i nan

-- there are b of them
pub row_long : (ms : List Float) (s b : ℕ) → s + b ≤ length ms → length (take (s + b - s) (drop s ms)) ≡ b
row_long ms s b fits = simp (length-take, length-drop) (omega arith)
