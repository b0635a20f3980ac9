-- The library's swap of two places is the definition's step.
use Rattle.std.specs.Prelude.{ℕ, ◌+◌, ◌<◌, ◌≡◌, List, [], ◌∷◌, Float, length}
use Rattle.std.specs.List.{swap}
use Rattle.std.proofs.Common.{arith}
use Rattle.std.proofs.lemmas.List.{get_or_default}
use lib.Ieee.{nan}
use Rattle.matrix_linear.specs.Rows.{swap_at}

pub swap_step : (m : List Float) (p q j : ℕ) → p + j < length m → q + j < length m → swap m (p + j) (q + j) ≡ swap_at p q j m
swap_step [] p q j a b = absurd (omega (arith, a))
swap_step (x ∷ xs) p q j a b = rw (get_or_default (x ∷ xs) (p + j) x nan a, get_or_default (x ∷ xs) (q + j) x nan b)
