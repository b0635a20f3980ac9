-- The squared distances are added up in the order of the readings, from -0.0 (`summed`).
use Rattle.std.proofs.Common.{rules}
use Rattle.stats.specs.Sums.{sq_dist}
use Rattle.stats.proofs.Chains.{summed}
use Rattle.stats.proofs.sq_dev.Goals as goal

pub returns : goal.returns
returns c = summed (sq_dist c.args.mean) c.args.readings.now c.canon.ensures c.sum.ensures.ran c.map.ensures.source c.iter.ensures.rest c.map.ensures.closure (λ x r q k. search rules)
