-- What the sheet's code works out for itself. No public contract cites these words.
use Rattle.std.specs.Prelude.{ℕ, List}
use Rattle.base.specs.declared.Refusal.{Refusal}
use Rattle.base.specs.Lists.{total}
use Rattle.base.specs.Refusals.{guarded}
use Rattle.oneway_rows.specs.declared.Row.{Row}
use Rattle.oneway_rows.specs.Soundness.{sizes_in, sound_refusal}

-- how many readings sound rows say; none where they are not sound
abbrev pub no_use : Refusal → ℕ
no_use r = 0

unfoldable pub used_in : ℕ → List Row → ℕ
used_in k rows = guarded (sound_refusal k rows) no_use (total (sizes_in k rows))
