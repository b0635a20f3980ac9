-- Every field is its own method's answer on the same cells.
use Rattle.std.proofs.Common.{arith}
use native.Mathlib.Nat.{mul-one}
use Rattle.base.proofs.Places.{row_line, column_line}
use Rattle.twoway_means.proofs.Places.{few_cells, count-is}
use Rattle.twoway_means.proofs.table.Goals as goal

pub margins-requires : goal.margins-requires
margins-requires c = (c.requires.rows, (few_cells _ _ _ _ c.requires, rw (c.new-cells.ensures, count-is _ _ _ _ c.requires) (row_line _ _)))

pub margins-requires-2 : goal.margins-requires-2
margins-requires-2 c = (c.requires.columns, (omega (arith, c.requires.columns, mul-one c.args.b), rw (c.new-cells.ensures, count-is _ _ _ _ c.requires) (column_line _ _)))

pub returns : goal.returns
returns c =
    rw (c.ss_error.ensures, c.margins-2.ensures, c.margins.ensures, c.means-means.ensures, c.new-cells.ensures, count-is _ _ _ _ c.requires)
