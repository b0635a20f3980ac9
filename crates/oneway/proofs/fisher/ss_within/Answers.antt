-- What each row adds, added up in the rows' order from -0.0 (`summed`).
use Rattle.std.proofs.Common.{rules}
use Rattle.oneway.specs.Fisher.{within_of}
use Rattle.stats.proofs.Chains.{summed}
use Rattle.oneway.proofs.fisher.ss_within.Goals as goal

pub returns : goal.returns
returns c = summed within_of c.args.rows.now c.canon.ensures c.sum.ensures.ran c.map.ensures.source c.iter.ensures.rest c.map.ensures.closure (λ x r q k. search rules)
