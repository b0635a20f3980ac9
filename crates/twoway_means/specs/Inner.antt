-- What the code keeps between its steps. No public contract cites these words.
use Rattle.std.specs.Prelude.{ℕ, ◌*◌, ◌≤◌, ◌≡◌, List, Float, length, take}
use Rattle.base.specs.Lists.{total}
use Rattle.twoway_cells.specs.Starts.{starts_of}

-- cells with ns readings lie in the readings xs, and begin where ss says
pub record Laid (ns ss : List ℕ) (xs : List Float) : Type 0 where
  pub few : length ns ≤ 36
  pub starts : ss ≡ starts_of ns
  pub most : length xs ≤ 512
  pub room : total ns ≤ length xs

-- what a table that fits leaves known
pub record Fitting (ns : List ℕ) (xs : List Float) (a b : ℕ) : Type 0 where
  pub counts : a * b ≤ length ns
  pub rows : a ≤ 6
  pub columns : b ≤ 6
  pub most : length xs ≤ 512
  pub room : total (take (a * b) ns) ≤ length xs
