-- What is taken: two to six levels a factor, a code of each factor for each of at most 512 readings, and memory for the matrices.
use Rattle.std.specs.Prelude.{ℕ, Bool, ◌&&◌, leb, eqb}
use Rattle.base.specs.Limits.{most_readings, most_levels, scratch_places}

-- so many levels, and so many codes for n readings
unfoldable pub factor_fits : ℕ → ℕ → ℕ → Bool
factor_fits levels codes n = leb 2 levels && (leb levels most_levels && eqb codes n)

-- n readings with so many codes of A and of B, a and b levels, and so much lent memory
unfoldable pub fits : ℕ → ℕ → ℕ → ℕ → ℕ → ℕ → Bool
fits n codesA codesB a b lent = factor_fits a codesA n && (factor_fits b codesB n && (leb n most_readings && leb scratch_places lent))
