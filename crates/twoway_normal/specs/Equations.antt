-- The call that builds the normal equations in lent memory.
use Rattle.std.specs.Prelude.{ℕ, ◌+◌, ◌*◌, Bool, true, false, cond, List, length, Float}
use Rattle.base.specs.Limits.{most_cells}
use Rattle.base.specs.Lists.{over, within}
use Rattle.lent.specs.Wiping.{zeros}
use Rattle.twoway_normal.specs.Normal.{normal_system}
use Rattle.twoway_normal.specs.Shape.{fits}

-- where the rows of codes of the cells are kept until the values are added: behind a system of the most cells
abbrev pub rows_from : ℕ
rows_from = most_cells * (most_cells + 1)

-- how many places they take: a * b for each cell, where each factor has one level more for the codes beyond its levels
abbrev pub rows_places : ℕ → ℕ → ℕ
rows_places a b = (a + 1) * (b + 1) * (a * b)

module _ (values : List Float) (us vs : List ℕ) (a b : ℕ) (work : List Float) where
  -- the lent memory: the system over its first places, and +0.0 where the rows of codes were kept
  unfoldable pub laid_system : List Float
  laid_system = over (normal_system values us vs a b) (within rows_from (rows_places a b) (λ _. zeros (rows_places a b)) work)

  -- the call: the memory after it, and whether the design fits
  unfoldable pub normal_equations : List Float × Bool
  normal_equations = cond (fits (length values) (length us) (length vs) a b (length work)) (laid_system, true) (work, false)
