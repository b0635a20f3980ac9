-- Levene's analysis from the groups' rows rs and all readings xs: each reading is replaced by its distance from its group's mean, and Fisher's analysis runs on the distances.
use mathlib.Core.List.{List, [], ◌∷◌, map, flatten}
use Rattle.std.specs.Prelude.{Float}
use Rattle.base.specs.Lists.{cut}
use Rattle.float.specs.Words.{◌⊖◌}
use Rattle.float.specs.Singles.{abs_of}
use Rattle.stats.specs.Sums.{mean_of}
use Rattle.oneway_rows.specs.declared.Row.{Row}
use Rattle.oneway_rows.specs.Rows.{row_of}
use Rattle.results.specs.declared.OneWayAnovaResult.{OneWayAnovaResult}
use Rattle.oneway.specs.Summary.{size_of, row_mean}
use Rattle.oneway.specs.Fisher.{fisher_anova}

-- how far the reading x lies from the mean m, whichever side it is on: one rounding
abbrev pub distance : Float → Float → Float
distance m x = abs_of (x ⊖ m)

-- the distances of each group's readings from its mean; ms are the groups' means, in their order
unfoldable pub distances : List Float → List (List Float) → List (List Float)
distances [] gs = []
distances (m ∷ ms) [] = []
distances (m ∷ ms) (g ∷ gs) = map (distance m) g ∷ distances ms gs

-- from the groups' own means
abbrev pub own_distances : List (List Float) → List (List Float)
own_distances gs = map (λ (g : List Float). map (distance (mean_of g)) g) gs

-- from the means that the rows hold
abbrev pub distances_of : List Row → List Float → List (List Float)
distances_of rs xs = distances (map row_mean rs) (cut (map size_of rs) xs)

-- Fisher's analysis of groups: from their own rows, and their readings one group after another
abbrev pub fisher_of : List (List Float) → OneWayAnovaResult
fisher_of gs = fisher_anova (map row_of gs) (flatten gs)

unfoldable pub levene_anova : List Row → List Float → OneWayAnovaResult
levene_anova rs xs = fisher_of (distances_of rs xs)
