-- Laws of the counting loop: one turn, its end, what it keeps, and a loop under a map of its state.
use Prim.Native.Nat.{ℕ, zero, suc, ◌+◌, ◌-◌, ◌<◌, ◌≤◌}
use mathlib.Core.Path.{◌≡◌, refl, ap, ◌∙◌}
use mathlib.Core.List.{List}
use native.Mathlib.Omega.{arith}
use lib.ListN.{length, length-set}
use Rattle.base.specs.Loop.{loop, turns}
use Rattle.base.specs.Lists.{put_at, listed}

module _ {S : Type 0} where
  pub turn : (i n : ℕ) (f : ℕ → S → S) (s : S) → i < n → loop i n f s ≡ loop (i + 1) n f (f i s)
  unfolding loop turns
  turn i n f s h = let e : n - i ≡ suc (n - (i + 1)) = omega arith in rw e

  pub done : (i n : ℕ) (f : ℕ → S → S) (s : S) → n ≤ i → loop i n f s ≡ s
  unfolding loop turns
  done i n f s h = let e : n - i ≡ 0 = omega arith in rw e

  -- the same two for the invariant `loop i n f s ≡ t`: what is left to do gives t
  pub step : (i n : ℕ) (f : ℕ → S → S) (s s' t : S) → loop i n f s ≡ t → i < n → s' ≡ f i s → loop (i + 1) n f s' ≡ t
  step i n f s s' t e h q = rw q (rw turn at e)

  pub ends : (i n : ℕ) (f : ℕ → S → S) (s t : S) → loop i n f s ≡ t → n ≤ i → s ≡ t
  ends i n f s t e h = rw done at e

  -- the same for a loop that is walked from its end: i turns are left
  pub step_back : (i n : ℕ) (f : ℕ → S → S) (s s' t : S) → loop (n - i) n f s ≡ t → 0 < i → i ≤ n → s' ≡ f (n - i) s → loop (n - (i - 1)) n f s' ≡ t
  step_back i n f s s' t e h k q = let a : n - (i - 1) ≡ n - i + 1 = omega arith in rw a (step (n - i) n f s s' t e (omega arith) q)

  turns_keep : (P : S → Type 0) (n : ℕ) (f : ℕ → S → S) → ((j : ℕ) (s : S) → j < n → P s → P (f j s)) → (r j : ℕ) (s : S) → j + r ≤ n → P s → P (turns j r f s)
  unfolding turns
  turns_keep P n f k zero j s l p = p
  turns_keep P n f k (suc r) j s l p = turns_keep P n f k r (j + 1) (f j s) (omega arith) (k j s (omega arith) p)

  -- what each turn keeps, the loop keeps
  pub keeps : (P : S → Type 0) (i n : ℕ) (f : ℕ → S → S) → ((j : ℕ) (s : S) → j < n → P s → P (f j s)) → (s : S) → i ≤ n → P s → P (loop i n f s)
  unfolding loop
  keeps P i n f k s l p = turns_keep P n f k (n - i) i s (omega arith) p

-- a loop on the whole, h t, is a loop on what it is made of, t, where each turn is; Q is what the turns keep
module _ {S T : Type 0} (h : T → S) (Q : T → Type 0) (n : ℕ) (f : ℕ → S → S) (g : ℕ → T → T) where
  turns_map : ((j : ℕ) (t : T) → j < n → Q t → (f j (h t) ≡ h (g j t)) × Q (g j t)) → (r j : ℕ) (t : T) → j + r ≤ n → Q t → turns j r f (h t) ≡ h (turns j r g t)
  unfolding turns
  turns_map k zero j t l q = refl
  turns_map k (suc r) j t l q =
      let both = k j t (omega arith) q in
      ap (turns (j + 1) r f) both.0 ∙ turns_map k r (j + 1) (g j t) (omega arith) both.1

  pub loop_map : ((j : ℕ) (t : T) → j < n → Q t → (f j (h t) ≡ h (g j t)) × Q (g j t)) → (i : ℕ) (t : T) → i ≤ n → Q t → loop i n f (h t) ≡ h (loop i n g t)
  unfolding loop
  loop_map k i t l q = turns_map k (n - i) i t (omega arith) q

module _ {A : Type 0} where
  turns_length : (f : ℕ → List A → List A) → ((j : ℕ) (m : List A) → length (f j m) ≡ length m) → (r j : ℕ) (m : List A) → length (turns j r f m) ≡ length m
  unfolding turns
  turns_length f k zero j m = refl
  turns_length f k (suc r) j m = turns_length f k r (j + 1) (f j m) ∙ k j m

  pub loop_length : (i n : ℕ) (f : ℕ → List A → List A) → ((j : ℕ) (m : List A) → length (f j m) ≡ length m) → (m : List A) → length (loop i n f m) ≡ length m
  unfolding loop
  loop_length i n f k m = turns_length f k (n - i) i m

  pub listed_length : (n : ℕ) (f : ℕ → A) (out : List A) → length (listed n f out) ≡ length out
  unfolding listed
  listed_length n f out = loop_length 0 n (put_at f) (λ i m. length-set m i (f i)) out
