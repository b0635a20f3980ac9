-- The squares are added up in the order of the values, from -0.0 (`summed`).
use Rattle.std.proofs.Common.{rules, refl}
use Rattle.float.specs.Words.{square}
use Rattle.stats.proofs.Chains.{summed}
use Rattle.repeated_sphericity.proofs.epsilons.square_sum.Goals as goal

pub returns : goal.returns
returns c = summed square c.args.values.now refl c.sum.ensures.ran c.map.ensures.source c.iter.ensures.rest c.map.ensures.closure (λ x r q k. search rules)
