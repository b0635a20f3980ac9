-- The one-way checks in document 01's order, and the view of one group. Readings are xs, the groups' sizes ns.
use Rattle.std.specs.Prelude.{ℕ, List, [], ltb, leb, Float, length, get_or}
use Rattle.base.specs.declared.Refusal.{Refusal}
use Rattle.base.specs.Limits.{most_groups, fewest_groups, fewest_readings}
use Rattle.base.specs.Lists.{cut}
use Rattle.base.specs.Refusals.{refuse, when, ◌or_else◌, first_fault, guarded}
use Rattle.base.specs.Sizes.{sizes_refusal}
use Rattle.stats.specs.Sums.{has_nan}

-- group number k, counted from 1: fewer than two readings, or a NaN
unfoldable pub group_fault : ℕ → List Float → Refusal
group_fault k group =
    when (ltb (length group) fewest_readings) (refuse 2 fewest_readings (length group))
    or_else when (has_nan group) (refuse 4 k 0)

-- group by group; the first of these groups has the number k
abbrev pub groups_refusal : ℕ → List (List Float) → Refusal
groups_refusal k groups = first_fault group_fault k groups

-- all the one-way checks
unfoldable pub one_way_refusal : List Float → List ℕ → Refusal
one_way_refusal xs ns =
    sizes_refusal most_groups 1 (length xs) ns
    or_else when (ltb (length ns) fewest_groups) (refuse 3 (length ns) 0)
    or_else groups_refusal 1 (cut ns xs)

-- the view of group g, counted from 0: the sizes' checks, then no such group
unfoldable pub view_refusal : List Float → List ℕ → ℕ → Refusal
view_refusal xs ns g =
    sizes_refusal most_groups 1 (length xs) ns
    or_else when (leb (length ns) g) (refuse 14 g 0)

abbrev pub no_readings : Refusal → List Float
no_readings r = []

-- that group's readings, or none
unfoldable pub view_of : List Float → List ℕ → ℕ → List Float
view_of xs ns g = guarded (view_refusal xs ns g) no_readings (get_or (cut ns xs) g [])
