-- Document 01, "Capacities", and the least that an analysis needs.
use Rattle.std.specs.Prelude.{ℕ}

-- readings a call
abbrev pub most_readings : ℕ
most_readings = 512

-- one-way groups
abbrev pub most_groups : ℕ
most_groups = 16

-- levels a factor
abbrev pub most_levels : ℕ
most_levels = 6

-- cells of two factors
abbrev pub most_cells : ℕ
most_cells = 36

abbrev pub most_subjects : ℕ
most_subjects = 64

abbrev pub most_conditions : ℕ
most_conditions = 12

-- places of f64 that a two-way call is lent
abbrev pub scratch_places : ℕ
scratch_places = 6400

-- the fewest groups of an analysis, and the fewest readings of a group
abbrev pub fewest_groups : ℕ
fewest_groups = 2

abbrev pub fewest_readings : ℕ
fewest_readings = 2
