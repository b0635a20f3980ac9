-- What the code keeps between its steps. No public contract cites these words.
use Rattle.std.specs.Prelude.{ℕ, ◌*◌, ◌≤◌, ◌≡◌, List, Float, length}
use Rattle.base.specs.Limits.{most_subjects, most_conditions}

-- n subjects by k conditions, whose readings and means are all there
pub record Laid (n k : ℕ) (xs ms : List Float) : Type 0 where
  pub low_n : 2 ≤ n
  pub high_n : n ≤ most_subjects
  pub low_k : 2 ≤ k
  pub high_k : k ≤ most_conditions
  pub all : length xs ≡ n * k
  pub each : k ≤ length ms
