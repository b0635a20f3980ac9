-- What functions ask of each other. No public contract cites these words.
use Rattle.std.specs.Prelude.{ℕ, ◌≡◌, Bool, false, List}
use Rattle.base.specs.Limits.{most_groups, most_readings, fewest_readings}
use Rattle.base.specs.Inner.{Sized}
use Rattle.oneway_rows.specs.declared.Row.{Row}
use Rattle.oneway_rows.specs.Soundness.{outside, some_outside}

-- what the rows of groups ask of n readings and the sizes ns: no word of what the readings are
pub record Parted (n : ℕ) (ns : List ℕ) : Type 0 where
  pub sizes : Sized most_groups n ns
  pub each : some_outside ns ≡ false

abbrev pub size_of : Row → ℕ
size_of r = r.size

abbrev pub size_outside : Row → Bool
size_outside r = outside fewest_readings most_readings r.size
