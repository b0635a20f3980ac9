-- Memory that is wiped.
use Rattle.std.specs.Prelude.{ℕ, min, List, ◌++◌, length, drop, replicate, Float}
use Rattle.base.specs.Limits.{scratch_places}
use Rattle.float.specs.Words.{plus_zero}

-- k places of +0.0
unfoldable pub zeros : ℕ → List Float
zeros k = replicate k plus_zero

-- the first 6,400 places, or all where there are fewer, are +0.0; the others stay
unfoldable pub wiped : List Float → List Float
wiped work = zeros (min scratch_places (length work)) ++ drop scratch_places work
