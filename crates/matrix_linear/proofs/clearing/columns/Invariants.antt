-- No more columns were skipped than there were, and what is left to count gives the whole.
use Rattle.std.proofs.Common.{◌≤◌, ◌≡◌}
use Rattle.base.specs.Loop.{loop}
use Rattle.matrix_linear.specs.Inner.{counted, column_by}
use Rattle.matrix_linear.proofs.clearing.columns.Given as goal

abbrev pub invariant-loop-col : goal.invariant-loop-col
invariant-loop-col g l =
    (l.skipped ≤ l.col) × (loop l.col l.n (counted (column_by g.C.Clearing.by l.n l.w) l.n l.w) (l.m, l.skipped) ≡ loop 0 l.n (counted (column_by g.C.Clearing.by l.n l.w) l.n l.w) (l.initial.m, 0))
