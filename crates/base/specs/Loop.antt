-- The one combinator for loops that count.
use Rattle.std.specs.Prelude.{ℕ, zero, suc, ◌+◌, ◌-◌}

module _ {S : Type 0} where
  -- f at i, at i + 1, .. : k turns
  unfoldable pub turns : ℕ → ℕ → (ℕ → S → S) → S → S
  turns i zero f s = s
  turns i (suc k) f s = turns (i + 1) k f (f i s)

  -- `for j in i..n { s = f(j, s) }`
  unfoldable pub loop : ℕ → ℕ → (ℕ → S → S) → S → S
  unfolding turns
  loop i n f s = turns i (n - i) f s
