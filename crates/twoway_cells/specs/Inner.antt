-- What the code keeps between its steps. No public contract cites these words.
use Rattle.std.specs.Prelude.{ℕ, ◌≤◌, ◌≡◌, List, Float, length}
use Rattle.twoway_checks.specs.Inner.{Coded, keys, tally}

-- readings that can be laid into the scratch
pub record Tallied (xs : List Float) (us vs : List ℕ) (b : ℕ) (ns : List ℕ) (scratch : List Float) : Type 0 where
  pub coded : Coded us vs b
  pub same : length us ≡ length xs
  pub counts : ns ≡ tally (keys b us vs)
  pub room : length xs ≤ length scratch
