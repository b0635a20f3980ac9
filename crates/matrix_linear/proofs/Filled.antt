-- Zeros put into a row: place by place, as the definition says, and all at once, as the library does.
use Prim.Native.Nat.{ℕ, ◌+◌, ◌≤◌}
use mathlib.Core.Path.{◌≡◌, sym, ap, ◌∙◌}
use mathlib.Core.List.{List}
use native.Mathlib.Omega.{arith}
use lib.Ieee.{Float, nan}
use lib.ListN.{length, set, replicate, length-replicate, get_or-replicate}
use lib.Seq.{paste}
use Rattle.std.proofs.lemmas.List.Edits.{paste_none, paste_more}
use Rattle.base.specs.Loop.{loop}
use Rattle.base.proofs.Walks.{walks}
use Rattle.float.specs.Words.{plus_zero}
use Rattle.matrix_linear.specs.Inverse.{zero_at}

-- n zeros from place a on
pub zero_row : (w : List Float) (a n : ℕ) → a + n ≤ length w → paste w a (replicate n plus_zero) n ≡ loop 0 n (zero_at a) w
zero_row w a n room =
    sym (walks (zero_at a) (λ j s. s ≡ paste w a (replicate n plus_zero) j) n
    (λ j s l e. rw e (ap (set (paste w a (replicate n plus_zero) j) (a + j)) (sym (get_or-replicate {A = Float} n j plus_zero nan l)) ∙ paste_more w a (replicate n plus_zero) j nan (omega arith) (rw length-replicate l)))
    0 w (omega arith) (paste_none w a (replicate n plus_zero)))
