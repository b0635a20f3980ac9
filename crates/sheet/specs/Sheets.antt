-- The sheet: groups of readings one after another, a row for each group, and zeros behind both.
use Rattle.std.specs.Prelude.{ℕ, Float, length, set, replicate}
use mathlib.Core.List.{List, flatten}
use Rattle.base.specs.Limits.{most_readings}
use Rattle.base.specs.Lists.{total, cut, over}
use Rattle.float.specs.Words.{plus_zero}
use Rattle.oneway_rows.specs.Rows.{row_of, rows_of}
use Rattle.oneway_rows.specs.Soundness.{sizes_in}
use Rattle.sheet.specs.declared.Sheet.{Sheet}

unfoldable pub zero_places : List Float
zero_places = replicate most_readings plus_zero

-- the sheet of these groups, as a fresh load makes it
unfoldable pub sheet_of : List (List Float) → Sheet
sheet_of gs = record { places = over (flatten gs) zero_places; rows = rows_of gs; groups = length gs }

-- what any sheet holds, from load or not: its groups' sizes, and its groups
abbrev pub sizes_of : Sheet → List ℕ
sizes_of s = sizes_in s.groups s.rows

unfoldable pub groups_of : Sheet → List (List Float)
groups_of s = cut (sizes_of s) s.places

-- the sheet with the readings ys for its group g: the old readings' places are cleared, all groups are laid over them anew, and g's row is worked out.
-- The other rows, and the places beyond, are those of s.
unfoldable pub edited : Sheet → ℕ → List Float → Sheet
edited s g ys = record {
  places = over (flatten (set (groups_of s) g ys)) (over (replicate (total (sizes_of s)) plus_zero) s.places);
  rows = set s.rows g (row_of ys);
  groups = s.groups;
}
