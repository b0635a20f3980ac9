-- What the code keeps between its steps. No public contract cites these words.
use Rattle.std.specs.Prelude.{ℕ, ◌≤◌}
use Rattle.base.specs.Limits.{most_subjects, most_conditions}

-- sizes that are taken
pub record Taken (n k : ℕ) : Type 0 where
  pub few_subjects : n ≤ most_subjects
  pub some_conditions : 3 ≤ k
  pub few_conditions : k ≤ most_conditions
