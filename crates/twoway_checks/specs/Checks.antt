-- The two-way checks in document 01's order. xs are the readings, us the codes of factor A, vs those of factor B; lent is how many places of scratch are lent.
use Rattle.std.specs.Prelude.{ℕ, ◌+◌, ◌*◌, ◌/◌, ◌%◌, max, ◌&&◌, List, [], ◌∷◌, ltb, eqb, Float, length}
use Rattle.base.specs.declared.Refusal.{Refusal}
use Rattle.base.specs.Limits.{most_readings, most_levels, scratch_places}
use Rattle.base.specs.Refusals.{refuse, when, unless, ◌or_else◌, first_fault}
use Rattle.stats.specs.Sums.{has_nan}
use Rattle.twoway_checks.specs.Cells.{cell_counts}

-- the largest code
unfoldable pub largest : List ℕ → ℕ
largest [] = 0
largest (u ∷ us) = max u (largest us)

-- the levels of a factor: the largest code plus one. A factor without codes is refused before its levels are asked for
abbrev pub levels : List ℕ → ℕ
levels us = largest us + 1

-- too little scratch, too many readings, factors of another length, no readings, a NaN
unfoldable pub shape_refusal : List Float → List ℕ → List ℕ → ℕ → Refusal
shape_refusal xs us vs lent =
    when (ltb lent scratch_places) (refuse 12 scratch_places lent)
    or_else when (ltb most_readings (length xs)) (refuse 11 2 (length xs))
    or_else unless (eqb (length us) (length xs) && eqb (length vs) (length xs)) (refuse 5 (length us) (length vs))
    or_else when (eqb (length xs) 0) (refuse 1 0 0)
    or_else when (has_nan xs) (refuse 4 0 0)

-- a levels of factor A, b levels of factor B: too many, then too few
unfoldable pub levels_refusal : ℕ → ℕ → Refusal
levels_refusal a b =
    when (ltb most_levels a) (refuse 11 5 a)
    or_else when (ltb most_levels b) (refuse 11 6 b)
    or_else when (ltb a 2) (refuse 6 1 a)
    or_else when (ltb b 2) (refuse 6 2 b)

-- cell number c has n readings, where factor B has b levels: it is refused where it has none
abbrev pub empty_fault : ℕ → ℕ → ℕ → Refusal
empty_fault b c n = when (eqb n 0) (refuse 7 (c / b) (c % b))

-- the first cell without a reading: these are the counts of the cells from number c on
abbrev pub empty_refusal : ℕ → ℕ → List ℕ → Refusal
empty_refusal b c ns = first_fault (empty_fault b) c ns

-- the counts ns of all cells, by A, then B, and n readings in all: an empty cell, or no reading beyond one a cell
unfoldable pub cells_refusal : ℕ → ℕ → ℕ → List ℕ → Refusal
cells_refusal a b n ns =
    empty_refusal b 0 ns
    or_else when (eqb n (a * b)) (refuse 2 (a * b + 1) n)

-- all the two-way checks
unfoldable pub two_way_refusal : List Float → List ℕ → List ℕ → ℕ → Refusal
two_way_refusal xs us vs lent =
    shape_refusal xs us vs lent
    or_else levels_refusal (levels us) (levels vs)
    or_else cells_refusal (levels us) (levels vs) (length xs) (cell_counts (levels us) (levels vs) xs us vs)
