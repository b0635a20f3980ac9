-- When rows that a caller holds are sound. Document 01: groups outside 2..16, a size outside 2..512, or a sum above 512 is refusal 13.
use Rattle.std.specs.Prelude.{ℕ, Bool, false, ◌||◌, List, [], ◌∷◌, map, ltb, take}
use Rattle.base.specs.declared.Refusal.{Refusal}
use Rattle.base.specs.Limits.{most_groups, most_readings, fewest_groups, fewest_readings}
use Rattle.base.specs.Lists.{total}
use Rattle.base.specs.Refusals.{refuse, when}
use Rattle.oneway_rows.specs.declared.Row.{Row}

-- the sizes of the first k rows
abbrev pub sizes_in : ℕ → List Row → List ℕ
sizes_in k rows = map (λ (r : Row). r.size) (take k rows)

abbrev pub outside : ℕ → ℕ → ℕ → Bool
outside low high n = ltb n low || ltb high n

unfoldable pub some_outside : List ℕ → Bool
some_outside [] = false
some_outside (n ∷ ns) = outside fewest_readings most_readings n || some_outside ns

-- k groups of the sizes ns
unfoldable pub unsound : ℕ → List ℕ → Bool
unsound k ns = outside fewest_groups most_groups k || some_outside ns || ltb most_readings (total ns)

-- the check of the first k rows
unfoldable pub sound_refusal : ℕ → List Row → Refusal
sound_refusal k rows = when (unsound k (sizes_in k rows)) (refuse 13 0 0)
