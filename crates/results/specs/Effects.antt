-- The sums of squares of two factors and their interaction where there are none, and the columns that were skipped where none was.
use Rattle.float.specs.Words.{plus_zero}
use Rattle.results.specs.declared.Effects.{Effects}
use Rattle.results.specs.declared.Skips.{Skips}

-- nothing was skipped
abbrev pub no_skips : Skips
no_skips = record { solver = 0; inverse = 0; block_a = 0; block_b = 0; block_ab = 0 }

-- nothing but zeros
abbrev pub no_effects : Effects
no_effects = record { ss_a = plus_zero; ss_b = plus_zero; ss_ab = plus_zero; skips = no_skips }
