-- What the code keeps between its steps. No public contract cites these words.
use Rattle.std.specs.Prelude.{ℕ, ◌*◌, ◌≤◌, ◌≡◌, Bool, ◌&&◌, List, eqb, Float, length, get_or, replicate}
use Rattle.base.specs.declared.Refusal.{Refusal}
use Rattle.base.specs.Limits.{most_subjects, most_conditions, most_readings}
use Rattle.base.specs.Refusals.{refuse, when, unless, ◌or_else◌}
use Rattle.stats.specs.Sums.{has_nan}

-- subject number i, where there are k conditions: a row of another length, or a NaN, which is looked for only where `nans` says that there may be one
abbrev pub sought_fault : ℕ → Bool → ℕ → List Float → Refusal
sought_fault k nans i row =
    unless (eqb (length row) k) (refuse 9 i (length row))
    or_else when (nans && has_nan row) (refuse 4 i 0)

-- what all the checks leave known of xs, of n subjects and k conditions
pub record Passed (xs : List Float) (ns : List ℕ) (n k : ℕ) : Type 0 where
  pub subjects : n ≡ length ns
  pub conditions : k ≡ get_or ns 0 0
  pub low_n : 2 ≤ n
  pub high_n : n ≤ most_subjects
  pub low_k : 2 ≤ k
  pub high_k : k ≤ most_conditions
  pub few : length xs ≤ most_readings
  pub all : length xs ≡ n * k
  pub rows : ns ≡ replicate n k
