-- The loop that fills in digits from the last place to the first: one turn, and its end.
use mathlib.Core.Path.{◌≡◌, refl}
use mathlib.Core.List.{List, ◌∷◌, ◌++◌, append_assoc, append-nil}
use Prim.Native.Nat.{ℕ, zero, suc, ◌-◌, ◌/◌, ◌%◌, ◌<◌, ◌≤◌}
use native.Mathlib.Omega.{arith}
use lib.ListN.{length, drop, set, length-set, length-append, drop_of_length-le}
use lib.Seq.{drop-cons, get_or-set_same, drop-set-lt}
use Rattle.text.specs.Numbers.{digits, glyph}

pub length_digits : (base k n : ℕ) → length (digits base k n) ≡ k
unfolding digits
length_digits base zero n = refl
length_digits base (suc k) n = rw (length-append, length_digits base k (n / base)) (omega arith)

-- a store, and what stands from its place on
drop_set_same : (l : List ℕ) (i a : ℕ) → i < length l → drop i (set l i a) ≡ a ∷ drop (suc i) l
drop_set_same l i a h =
    rw (drop-cons (set l i a) i 0 (simp length-set (omega arith)), get_or-set_same l i a 0 h, drop-set-lt (suc i) l i a (omega arith))

module _ (base : ℕ) (out : List ℕ) where
  in_front : (i rest : ℕ) → i < length out
      → digits base i (rest / base) ++ drop i (set out i (glyph (rest % base))) ≡ digits base (suc i) rest ++ drop (suc i) out
  unfolding digits
  in_front i rest h = rw (drop_set_same out i (glyph (rest % base)) h, append_assoc)

  -- one more digit, d, in front of those that are in out
  pub fill_turn : (i rest d : ℕ) {whole : List ℕ} → digits base i rest ++ drop i out ≡ whole → 0 < i → i ≤ length out → d ≡ glyph (rest % base)
      → digits base (i - 1) (rest / base) ++ drop (i - 1) (set out (i - 1) d) ≡ whole
  fill_turn i rest d w p h e =
      let k : suc (i - 1) ≡ i = omega arith in
      rw (e, in_front (i - 1) rest (omega arith), k) w

  pub fill_starts : (n : ℕ) → digits base (length out) n ++ drop (length out) out ≡ digits base (length out) n
  fill_starts n = rw (drop_of_length-le out {i = length out} (omega arith)) (append-nil (digits base (length out) n))

  -- all digits are in out
  pub fill_ends : (i rest : ℕ) {whole : List ℕ} → digits base i rest ++ drop i out ≡ whole → i ≤ 0 → out ≡ whole
  unfolding digits
  fill_ends i rest e z = let k : i ≡ 0 = omega arith in rw k at e
