-- The error's sum of squares has a clear sign, whatever the cells hold.
use Prim.Native.Nat.{ℕ, zero-le}
use mathlib.Core.List.{List}
use lib.Ieee.{Float, nan}
use lib.ListN.{get_or}
use Rattle.base.proofs.Loops.{keeps}
use Rattle.float.specs.Words.{plus_zero}
use Rattle.float.proofs.Clear.{Clear, zero_clear}
use Rattle.stats.proofs.Squares.{squares_clear}
use Rattle.twoway_means.specs.Table.{cell_at, error_step, ss_error}

pub error_clear : (cs : List (List Float)) (means : List Float) (k : ℕ) → Clear (ss_error cs means k)
unfolding ss_error
error_clear cs means k = keeps Clear 0 k (error_step cs means) (λ c t h p. squares_clear (get_or means c nan) (cell_at cs c) t p) plus_zero zero-le zero_clear
