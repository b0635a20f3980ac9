-- What is left to put from row g on, laid over each column, gives the whole column.
use mathlib.Core.Path.{◌≡◌}
use lib.ListN.{length}
use mathlib.Core.List.{map}
use Rattle.base.specs.Lists.{over}
use Rattle.base.proofs.Fills.{fill}
use Rattle.oneway.specs.Summary.{size_of, row_mean}
use Rattle.oneway.proofs.summary.put_columns.Given as goal

abbrev pub invariant-loop-g : goal.invariant-loop-g
invariant-loop-g l =
    (length l.sizes ≡ length l.initial.sizes) × (length l.means ≡ length l.initial.means)
    × (fill size_of l.rows l.sizes l.g ≡ over (map size_of l.rows) l.initial.sizes)
    × (fill row_mean l.rows l.means l.g ≡ over (map row_mean l.rows) l.initial.means)
