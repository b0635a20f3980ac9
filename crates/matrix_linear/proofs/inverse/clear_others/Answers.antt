-- A turn is one call of `clear_other`, which is the definition's step; the definition's turn for row col itself changes nothing, and has no turn here.
use mathlib.Core.Path.{◌∙◌}
use native.Mathlib.Omega.{arith}
use Rattle.matrix_linear.proofs.Columns.{own_row}
use Rattle.base.proofs.Loops.{ends}
use Rattle.matrix_linear.proofs.inverse.clear_others.Goals as goal

pub returns : goal.returns
returns c = ends _ _ _ _ _ c.loop-r-2.invariant.1 (omega arith) ∙ own_row c.args.n c.args.w c.args.col c.loop-r.r c.loop-r.m c.loop-r.invariant.2 (omega arith) c.requires.0
