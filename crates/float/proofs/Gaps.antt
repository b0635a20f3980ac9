-- Doubles that differ do so by 2 ^ -1074 at least, the smallest double above zero, so that no difference of them is rounded to a zero. A difference of two whose sign is clear is therefore below zero, or its own sign is clear.
use Prim.Native.Nat.{ℕ, zero, suc, ◌+◌, ◌-◌, ◌*◌, ◌^◌, ◌≤◌, ◌<◌}
use mathlib.Core.Path.{◌≡◌, refl, sym, ap, ◌∙◌}
use mathlib.Core.Logic.{◌⊎◌, inl, inr}
use mathlib.Core.Bool.{Bool, true, false, cond, true≢false}
use native.Mathlib.Nat.{one-mul, mul-one, mul_assoc, mul_comm, suc-mul, mul-pos, mul-le-mul, mul-le-mul_right, lt_of_mul-lt-mul_right, le_trans}
use native.Mathlib.Omega.{arith}
use borrow.Author.Tests.{ltb-true, ltb-false, lt-ltb}
use lib.IntN.{ℤ, pos, negsuc}
use lib.Dec.{T, ltb, eqb→eq, ltb→lt}
use lib.Pow.{pow-add, pow_pos}
use lib.Ieee.{Float, nan, inf, fin, binary64, up, down, odd, units, round, neg, sum, add, sub, lt, of_bits, fits}
use lib.Ieee.Digits.{back}
use lib.Ieee.Fits.{round_is, up_pos, down_pos}
use lib.Ieee.Order.{round_mono}
use lib.Ieee.Positive.{positive, above, above_of_le}
use Rattle.float.specs.Words.{◌⊖◌, plus_zero}
use Rattle.float.proofs.Clear.{Clear, round_clear}
use Rattle.float.proofs.Values.{small}

-- ---- two doubles that differ
-- doubles are fractions over powers of two, of which one divides the other
abbrev Divides : ℕ → ℕ → Type 0
Divides g n = (k : ℕ) × (n ≡ k * g)

powers : (i j : ℕ) → i ≤ j → Divides (2 ^ i) (2 ^ j)
powers i j h = (2 ^ (j - i), ap (λ (x : ℕ). 2 ^ x) (sym (back j i h)) ∙ pow-add 2 (j - i) i)

comparable : (e d : ℤ) → Divides (down e) (down d) ⊎ Divides (down d) (down e)
comparable (pos i) d = inl (down d, sym (mul-one (down d)))
comparable (negsuc i) (pos j) = inr (2 ^ suc i, sym (mul-one (2 ^ suc i)))
comparable (negsuc i) (negsuc j) = go (ltb j i) refl
  where
    go : (b : Bool) → ltb j i ≡ b → Divides (2 ^ suc i) (2 ^ suc j) ⊎ Divides (2 ^ suc j) (2 ^ suc i)
    go true e = inr (powers (suc j) (suc i) (omega (arith, ltb-true j i e)))
    go false e = inl (powers (suc i) (suc j) (omega (arith, ltb-false j i e)))

-- multiples of g that differ do so by g at least
apart : (p q g : ℕ) → p * g < q * g → g ≤ q * g - p * g
apart p q g h = let n : suc p * g ≤ q * g = mul-le-mul_right g (lt_of_mul-lt-mul_right g h) in omega (arith, n, suc-mul p g)

at_most_one : (u d : ℕ) → 0 < u → u * d ≡ 1 → d ≤ 1
at_most_one u d p e = let n : 1 * d ≤ u * d = mul-le-mul_right d p in omega (arith, n)

-- a double has 1,074 binary places behind the point at most
places : (s : Bool) (m : ℕ) (e : ℤ) → T (fits binary64 (fin s m e)) → down e ≤ 2 ^ 1074
unfolding fits
places s zero e f = le_trans (at_most_one (up e) (down e) (up_pos e) (eqb→eq (up e * down e) 1 f)) (pow_pos 1074)
places s (suc m) e f = (small s m e f).1

-- p over E is smaller than q over D, and neither E nor D is above 2 ^ 1074: over E times D, the difference is one part in 2 ^ 1074 at least
gap : (p q : ℕ) (e d : ℤ) → down e ≤ 2 ^ 1074 → down d ≤ 2 ^ 1074 → p * down d < q * down e → down e * down d ≤ (q * down e - p * down d) * 2 ^ 1074
gap p q e d f g h =
    elim (comparable e d) [
      | inl (k, w) ↦
          let v : p * down d ≡ p * k * down e = ap (λ (x : ℕ). p * x) w ∙ sym (mul_assoc p k (down e)) in
          mul-le-mul (rw v (apart (p * k) q (down e) (rw v at h))) g
      | inr (k, w) ↦
          let v : q * down e ≡ q * k * down d = ap (λ (x : ℕ). q * x) w ∙ sym (mul_assoc q k (down d)) in
          rw (mul_comm (down e) (down d)) (mul-le-mul (rw v (apart p (q * k) (down d) (rw v at h))) f)
    ]

-- ---- what is the smallest double at least is not rounded to a zero, and with the sign it is below zero
abbrev least : Float
least = round binary64 false 1 (2 ^ 1074)

least_positive : T (positive least)
unfolding round
least_positive = tt

not_lost : (a c : ℕ) → 0 < c → c ≤ a * 2 ^ 1074 → T (above (round binary64 false a c))
not_lost a c p h = above_of_le least (round binary64 false a c) least_positive (round_mono binary64 1 (2 ^ 1074) a c (pow_pos 1074) p (rw (one-mul c) h))

odd_neg : (d q k l : ℕ) → odd d true q k l ≡ neg (odd d false q k l)
unfolding odd neg
odd_neg d zero k l = refl
odd_neg d (suc q) k l = refl

units_neg : (q k : ℕ) → units binary64 true q k ≡ neg (units binary64 false q k)
unfolding units neg
units_neg q k = go (ltb (q * 2 ^ k) (2 ^ 2098))
  where
    go : (b : Bool) → cond b (odd 54 true q k 1074) (inf true) ≡ neg (cond b (odd 54 false q k 1074) (inf false))
    go true = odd_neg 54 q k 1074
    go false = refl

round_neg : (a c : ℕ) → round binary64 true a c ≡ neg (round binary64 false a c)
round_neg a c = round_is binary64 true a c ∙ units_neg _ _ ∙ ap neg (sym (round_is binary64 false a c))

turned_below : (x : Float) → T (above x) → lt (neg x) plus_zero ≡ true
unfolding lt neg of_bits
turned_below nan h = absurd h
turned_below (inf true) h = absurd h
turned_below (inf false) h = refl
turned_below (fin true m e) h = absurd h
turned_below (fin false m e) h = lt-ltb 0 (m * up e * 1 + 0 * 1 * down e) (omega (arith, mul-pos (ltb→lt 0 m h) (up_pos e)))

-- ---- a difference
minus_infinity : lt (inf true) plus_zero ≡ true
unfolding lt of_bits
minus_infinity = refl

-- a / c - b / c: below zero where b is larger, and else of a clear sign
minus_clear : (a b c : ℕ) → (a < b → T (above (round binary64 false (b - a) c))) → lt (sum binary64 false a true b c) plus_zero ≡ false → Clear (sum binary64 false a true b c)
unfolding sum
minus_clear a b c k h = go (ltb a b) refl h
  where
    go : (t : Bool) → ltb a b ≡ t → lt (cond t (round binary64 true (b - a) c) (round binary64 false (a - b) c)) plus_zero ≡ false → Clear (cond t (round binary64 true (b - a) c) (round binary64 false (a - b) c))
    go true p h = absurd (true≢false (sym (ap (λ (x : Float). lt x plus_zero) (round_neg (b - a) c) ∙ turned_below _ (k (ltb-true a b p))) ∙ h))
    go false p h = round_clear (a - b) c

-- x - y of two doubles with clear signs: below zero, or of a clear sign too
pub less_clear : (x y : Float) → T (fits binary64 x) → T (fits binary64 y) → Clear x → Clear y → lt (x ⊖ y) plus_zero ≡ false → Clear (x ⊖ y)
unfolding sub add neg
less_clear nan y f g c d h = refl
less_clear (inf s) nan f g c d h = refl
less_clear (inf true) (inf t) f g c d h = absurd (true≢false c)
less_clear (inf false) (inf true) f g c d h = absurd (true≢false d)
less_clear (inf false) (inf false) f g c d h = refl
less_clear (inf s) (fin t n k) f g c d h = c
less_clear (fin s m e) nan f g c d h = refl
less_clear (fin s m e) (inf true) f g c d h = absurd (true≢false d)
less_clear (fin s m e) (inf false) f g c d h = absurd (true≢false (sym minus_infinity ∙ h))
less_clear (fin true m e) (fin t n k) f g c d h = absurd (true≢false c)
less_clear (fin false m e) (fin true n k) f g c d h = absurd (true≢false d)
less_clear (fin false m e) (fin false n k) f g c d h =
    minus_clear (m * up e * down k) (n * up k * down e) (down e * down k)
    (λ l. not_lost (n * up k * down e - m * up e * down k) (down e * down k) (mul-pos (down_pos e) (down_pos k)) (gap (m * up e) (n * up k) e k (places false m e f) (places false n k g) l)) h
