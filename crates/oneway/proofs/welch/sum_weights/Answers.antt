-- What each row adds, added up in the rows' order from -0.0 (`summed`).
use Rattle.std.proofs.Common.{rules}
use Rattle.oneway.specs.Welch.{weight_in}
use Rattle.stats.proofs.Chains.{summed}
use Rattle.oneway.proofs.welch.sum_weights.Goals as goal

pub returns : goal.returns
returns c = summed weight_in c.args.rows.now c.canon.ensures c.sum.ensures.ran c.map.ensures.source c.iter.ensures.rest c.map.ensures.closure (λ x r q k. search rules)
