-- What the code keeps between its steps. No public contract cites these words.
use Rattle.std.specs.Prelude.{ℕ, ◌*◌, ◌≤◌, List, Float, length, ◌≡◌}
use Rattle.results.specs.declared.Effects.{Effects}
use Rattle.lent.specs.Wiping.{wiped}
use Rattle.twoway.specs.Anova.{squares_of}

-- what the table asks, so that counts fit
pub record Small (xs : List Float) (a b : ℕ) : Type 0 where
  pub least_a : 1 ≤ a
  pub least_b : 1 ≤ b
  pub most_a : a ≤ 6
  pub most_b : b ≤ 6
  pub enough : a * b ≤ length xs
  pub most : length xs ≤ 512

-- what the effects ask of a design that passed the checks
pub record Ready (xs : List Float) (us vs ns : List ℕ) (a b : ℕ) (scratch : List Float) : Type 0 where
  pub least_a : 2 ≤ a
  pub most_a : a ≤ 6
  pub least_b : 2 ≤ b
  pub most_b : b ≤ 6
  pub codes_a : length us ≡ length xs
  pub codes_b : length vs ≡ length xs
  pub few : length xs ≤ 512
  pub room : 6400 ≤ length scratch
  pub some : 1 ≤ length ns

-- with them, the scratch wiped
abbrev pub squares_left : List Float → List ℕ → List ℕ → ℕ → ℕ → List Float → List ℕ → List Float → List Float × Effects
squares_left xs us vs a b ms ns scratch = (wiped scratch, squares_of xs us vs a b ms ns)
