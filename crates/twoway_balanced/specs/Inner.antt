-- What the code keeps between its steps. No public contract cites these words.
use Rattle.std.specs.Prelude.{ℕ, ◌*◌, ◌≤◌, ◌≡◌, List, Float, length}

pub record Fitting (ms : List Float) (r a b : ℕ) : Type 0 where
  pub rows : a ≤ 6
  pub columns : b ≤ 6
  pub most : r ≤ 512
  pub all : length ms ≡ a * b
