-- What functions ask of each other, and what their stores leave. No public contract cites these words.
use Rattle.std.specs.Prelude.{ℕ, ◌+◌, ◌-◌, ◌*◌, ◌<◌, ◌≤◌, ◌≡◌, List, ◌∷◌, ◌++◌, length, take, drop}
use Rattle.base.specs.Limits.{most_readings}
use Rattle.base.specs.Lists.{total}

-- what the check of sizes leaves known
pub record Sized (most n : ℕ) (ns : List ℕ) : Type 0 where
  pub rows : length ns ≤ most
  pub readings : n ≤ most_readings
  pub adds : total ns ≡ n

-- n places from s on, d apart, lie among the first k
abbrev pub Line : ℕ → ℕ → ℕ → ℕ → Type 0
Line k s d n = (q : ℕ) → q < n → s + q * d < k

-- elements moved by one place within a list
module _ {A : Type 0} where
  -- x put at `at`, and the elements from there on one place further, up to the place `end`
  unfoldable pub inserted : ℕ → ℕ → A → List A → List A
  inserted at end x ps = take at ps ++ (take (end + 1 - at) (x ∷ drop at ps) ++ drop (end + 1) ps)

  -- the element at `at` taken out, those behind it and before `end` one place back, and z behind them
  unfoldable pub deleted : ℕ → ℕ → A → List A → List A
  deleted at end z ps = take at ps ++ (take (end - (at + 1)) (drop (at + 1) ps) ++ z ∷ drop end ps)
