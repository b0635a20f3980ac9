-- The pivot is looked at where the swap has put it. A skipped column stays as the swap left it and is counted, any other is cleared.
use Rattle.std.proofs.Common.{sym, ◌∙◌, arith}
use Rattle.matrix_linear.specs.Inner.{column_by}
use Rattle.matrix_linear.proofs.Columns.{left_alone, gone_on, counts}
use Rattle.matrix_linear.proofs.clearing.column.Goals as goal

pub returns-then-skips : goal.returns-then-skips
returns-then-skips g c =
    let small = sym c.skips.ensures ∙ c.if-skips.true in
    counts _ _ _ _ c.pivot.ensures (column_by g.C.Clearing.by _ _) _ _ small (left_alone _ _ _ _ c.pivot.ensures g.C.Clearing.by small) (omega arith) (omega arith)

pub returns : goal.returns
returns g c =
    let large = sym c.skips.ensures ∙ c.if-skips.false in
    counts _ _ _ _ c.pivot.ensures (column_by g.C.Clearing.by _ _) _ _ large (gone_on _ _ _ _ c.pivot.ensures g.C.Clearing.by large c.clear.ensures) (omega arith) (omega arith)
