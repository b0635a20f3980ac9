-- The rows of what is left, laid over the places from group g on, give the rows of all.
use mathlib.Core.Path.{◌≡◌}
use mathlib.Core.List.{map}
use lib.ListN.{length, drop}
use Rattle.base.specs.Lists.{total, cut, over}
use Rattle.oneway_rows.proofs.Laid.{laying}
use Rattle.oneway.proofs.Summaries.{told_row}
use Rattle.oneway.proofs.summary.put_means.Given as goal

abbrev pub invariant-loop-g : goal.invariant-loop-g
invariant-loop-g l =
    (total (drop l.g l.sizes) ≡ length l.rest) × (length l.out ≡ length l.initial.out) × (laying told_row l.sizes l.g l.rest l.out ≡ over (map told_row (cut l.sizes l.readings)) l.initial.out)
