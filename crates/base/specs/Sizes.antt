-- The check of sizes ns beside n flat readings, which one-way and repeated measures begin with.
use Rattle.std.specs.Prelude.{ℕ, List, ltb, eqb, length}
use Rattle.base.specs.declared.Refusal.{Refusal}
use Rattle.base.specs.Limits.{most_readings}
use Rattle.base.specs.Lists.{total}
use Rattle.base.specs.Refusals.{refuse, when, unless, ◌or_else◌}

-- sizes that do not add up to n readings
abbrev pub not_adding_up : ℕ → List ℕ → Refusal
not_adding_up n ns = unless (eqb (total ns) n) (refuse 10 (total ns) n)

-- more rows than `most`, the capacity number `which`; too many readings; sizes that do not add up
unfoldable pub sizes_refusal : ℕ → ℕ → ℕ → List ℕ → Refusal
sizes_refusal most which n ns =
    when (ltb most (length ns)) (refuse 11 which (length ns))
    or_else when (ltb most_readings n) (refuse 11 2 n)
    or_else not_adding_up n ns
