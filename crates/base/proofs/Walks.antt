-- More laws of the counting loop: its last turn; what holds at each turn where that depends on the turn; what no turn changes, and what no turn changes after a certain one.
use Prim.Native.Nat.{ℕ, zero, suc, ◌+◌, ◌-◌, ◌<◌, ◌≤◌}
use mathlib.Core.Path.{◌≡◌, refl, ap, ◌∙◌}
use native.Mathlib.Omega.{arith}
use Rattle.base.specs.Loop.{loop, turns}
use Rattle.base.proofs.Loops.{turn}

module _ {S : Type 0} (f : ℕ → S → S) where
  turns_last : (k i : ℕ) (s : S) → turns i (suc k) f s ≡ f (i + k) (turns i k f s)
  unfolding turns
  turns_last zero i s = rw (add_zero i)
    where
      add_zero : (i : ℕ) → i + 0 ≡ i
      add_zero i = omega arith
  turns_last (suc k) i s = turns_last k (i + 1) (f i s) ∙ rw (moved i k)
    where
      moved : (i k : ℕ) → i + 1 + k ≡ i + suc k
      moved i k = omega arith

  pub last_turn : (n : ℕ) (s : S) → loop 0 (n + 1) f s ≡ f n (loop 0 n f s)
  unfolding loop
  last_turn n s =
      let a : n + 1 - 0 ≡ suc n = omega arith in
      let b : n - 0 ≡ n = omega arith in
      let z : 0 + n ≡ n = omega arith in
      rw (a, b, turns_last n 0 s, z)

  -- P j s: what is known of the state s before turn j
  module _ (P : ℕ → S → Type 0) (n : ℕ) (each : (j : ℕ) (s : S) → j < n → P j s → P (j + 1) (f j s)) where
    turns_walk : (r j : ℕ) (s : S) → j + r ≡ n → P j s → P n (turns j r f s)
    unfolding turns
    turns_walk zero j s e p = let q : j ≡ n = omega arith in rw (← q) p
    turns_walk (suc r) j s e p = turns_walk r (j + 1) (f j s) (omega arith) (each j s (omega arith) p)

    pub walks : (j : ℕ) (s : S) → j ≤ n → P j s → P n (loop j n f s)
    unfolding loop
    walks j s h p = turns_walk (n - j) j s (omega arith) p

-- what is looked at is g
module _ {S A : Type 0} (g : S → A) (f : ℕ → S → S) where
  -- turns that leave it as it was: so does the loop
  pub untouched : (a b : ℕ) → ((r : ℕ) (s : S) → a ≤ r → r < b → g (f r s) ≡ g s) → (s : S) → a ≤ b → g (loop a b f s) ≡ g s
  untouched a b each s h = (walks f (λ r t. (a ≤ r) × (g t ≡ g s)) b (λ r t l e. (omega arith, each r t e.0 l ∙ e.1)) a s h (omega arith, refl)).1

  -- the turns after turn x do: what turn x makes of it stays to the end
  pub settled : (x n : ℕ) → ((r : ℕ) (s : S) → x < r → r < n → g (f r s) ≡ g s) → (s : S) → x < n → g (loop 0 n f s) ≡ g (f x (loop 0 x f s))
  settled x n each s h =
      ap g (walks f (λ j t. loop 0 n f s ≡ loop j n f t) (x + 1) (λ j t l e. e ∙ turn j n f t (omega arith)) 0 s (omega arith) refl)
      ∙ (untouched (x + 1) n (λ r t k l. each r t (omega arith) l) (loop 0 (x + 1) f s) (omega arith)
      ∙ ap g (last_turn f x s))
