-- A double is known by its sign and its value. So a product by one is the other factor.
use Prim.Native.Nat.{ℕ, zero, suc, ◌+◌, ◌-◌, ◌*◌, ◌/◌, ◌%◌, ◌^◌, ◌≤◌, ◌<◌}
use mathlib.Core.Path.{◌≡◌, refl, sym, ap, subst, ◌∙◌}
use mathlib.Core.Bool.{Bool, true, false, cond, ◌&&◌}
use native.Mathlib.Nat.{one-mul, mul-one, mul_assoc, mul_right_comm, mul-lt-mul_of_pos_right, zero-mul, eq_of_mul-eq-mul_right, lt_of_lt_of_le, lt_of_not-le, not-le_of_lt, le_of_suc-le-suc}
use native.Mathlib.Omega.{arith}
use lib.IntN.{ℤ, pos, negsuc}
use lib.Dec.{T, leb, ltb, eqb, leb→le, ltb→lt}
use lib.Pow.{pow-add, pow_pos, pow_mono, pow-lt, shl_lt}
use lib.Ieee.{Float, nan, inf, fin, binary64, up, down, size, round, mul, fits, to_bits, of_bits}
use lib.Ieee.Bits.{of_bits-to_bits}
use lib.Ieee.Digits.{back}
use lib.Ieee.Fits.{and_l, and_r, down_pos, round-fits}
use lib.Ieee.Exact.{HasValue, round_exact}
use lib.Ieee.Nearest.{div_same}
use Rattle.float.specs.Words.{◌⊗◌, one}

-- The pattern by the sign and the number of smallest units.
unfoldable pattern_of : Bool → ℕ → ℕ
pattern_of s n = cond s 0x8000000000000000 0 + (size n - 53) * 4503599627370496 + n / 2 ^ (size n - 53)

to_bits_is : (s : Bool) (m : ℕ) (e : ℤ) → to_bits binary64 (fin s m e) ≡ pattern_of s (m * up e * 2 ^ 1074 / down e)
unfolding to_bits pattern_of
to_bits_is s m e = refl

same_units : (m u v n w x a c : ℕ) → 0 < c → 0 < v → 0 < x → m * u * c ≡ a * v → n * w * c ≡ a * x → m * u * 2 ^ 1074 / v ≡ n * w * 2 ^ 1074 / x
same_units m u v n w x a c p q r h k = div_same (m * u * 2 ^ 1074) v (n * w * 2 ^ 1074) x q r (mul_right_comm (m * u) (2 ^ 1074) x ∙ ap (λ (y : ℕ). y * 2 ^ 1074) cross ∙ mul_right_comm (n * w) v (2 ^ 1074))
  where
    cross : m * u * x ≡ n * w * v
    cross =
        eq_of_mul-eq-mul_right c p (m * u * x) (n * w * v)
        (mul_right_comm (m * u) x c ∙ ap (λ (y : ℕ). y * x) h ∙ mul_right_comm a v x ∙ ap (λ (y : ℕ). y * v) (sym k) ∙ mul_right_comm (n * w) c v)

-- Two doubles with the same sign and the same value, a / c, are one.
pub same_value : (x y : Float) (s : Bool) (a c : ℕ) → 0 < c → T (fits binary64 x) → T (fits binary64 y) → HasValue x s a c → HasValue y s a c → x ≡ y
same_value nan y s a c p f g h k = absurd h
same_value (inf t) y s a c p f g h k = absurd h
same_value (fin t m e) nan s a c p f g h k = absurd k
same_value (fin t m e) (inf u) s a c p f g h k = absurd k
same_value (fin t m e) (fin u n d) s a c p f g h k =
    sym (of_bits-to_bits binary64 (fin t m e) f)
    ∙ ap (of_bits binary64)
    (to_bits_is t m e
    ∙ ap (λ (v : Bool). pattern_of v (m * up e * 2 ^ 1074 / down e)) (h.0 ∙ sym k.0)
    ∙ ap (pattern_of u) (same_units m (up e) (down e) n (up d) (down d) a c p (down_pos e) (down_pos d) h.1 k.1)
    ∙ sym (to_bits_is u n d))
    ∙ of_bits-to_bits binary64 (fin u n d) g

-- What a double holds is not rounded: it is suc m * 2 ^ j smallest units, with a suc m of at most 53 digits.
module _ (s : Bool) (m : ℕ) where
  pub small : (e : ℤ) → T (fits binary64 (fin s (suc m) e)) → (suc m < 2 ^ 53) × (down e ≤ 2 ^ 1074) × (suc m * up e < 2 ^ 1024 * down e)
  unfolding fits
  small e f =
      let A = eqb (suc m % 2) 1 in
      let B = ltb (suc m) (2 ^ 53) in
      let C = leb (down e) (2 ^ 1074) in
      let D = ltb (suc m * up e) (2 ^ 1024 * down e) in (
        ltb→lt (suc m) (2 ^ 53) (and_r A B (and_l (A && B) C (and_l (A && B && C) D f))),
        leb→le (down e) (2 ^ 1074) (and_r (A && B) C (and_l (A && B && C) D f)),
        ltb→lt (suc m * up e) (2 ^ 1024 * down e) (and_r (A && B && C) D f),
      )

  exact : (e : ℤ) → T (fits binary64 (fin s (suc m) e)) → HasValue (round binary64 s (suc m * up e) (down e)) s (suc m * up e) (down e)
  exact (pos k) f =
      let b = small (pos k) f in
      let e : suc m * 2 ^ k * 2 ^ 1074 ≡ suc m * 2 ^ (k + 1074) = mul_assoc (suc m) (2 ^ k) (2 ^ 1074) ∙ ap (λ (x : ℕ). suc m * x) (sym (pow-add 2 k 1074)) in
      let l : suc m * 2 ^ k < 2 ^ 1024 = subst (λ (x : ℕ). suc m * 2 ^ k < x) (mul-one (2 ^ 1024)) b.2 in
      round_exact binary64 s (suc m * 2 ^ k) 1 (suc m) (k + 1074) (omega arith) b.0
      (subst (λ (x : ℕ). x < 2 ^ 2098) e (subst (λ (x : ℕ). suc m * 2 ^ k * 2 ^ 1074 < x) (sym (pow-add 2 1024 1074)) (mul-lt-mul_of_pos_right l (pow_pos 1074))))
      (e ∙ sym (mul-one (suc m * 2 ^ (k + 1074))))
  exact (negsuc k) f =
      let b = small (negsuc k) f in
      let l : suc k ≤ 1074 = pow_le_back (suc k) 1074 b.1 in
      round_exact binary64 s (suc m * 1) (2 ^ suc k) (suc m) (1074 - suc k) (pow_pos (suc k)) b.0
      (lt_of_lt_of_le (shl_lt 53 (1074 - suc k) b.0) (pow_mono {i = 53 + (1074 - suc k)} {j = 2098} (omega arith)))
      (ap (λ (x : ℕ). x * 2 ^ 1074) (mul-one (suc m)) ∙ ap (λ (x : ℕ). suc m * 2 ^ x) (sym (back 1074 (suc k) l)) ∙ ap (λ (x : ℕ). suc m * x) (pow-add 2 (1074 - suc k) (suc k)) ∙ sym (mul_assoc (suc m) (2 ^ (1074 - suc k)) (2 ^ suc k)))
    where
      pow_le_back : (i p : ℕ) → 2 ^ i ≤ 2 ^ p → i ≤ p
      pow_le_back i p h = le_of_suc-le-suc (lt_of_not-le (λ (g : p < i). not-le_of_lt (pow-lt g) h))

not_rounded : (s : Bool) (m : ℕ) (e : ℤ) → T (fits binary64 (fin s m e)) → round binary64 s (m * up e) (down e) ≡ fin s m e
not_rounded s m e f = same_value (round binary64 s (m * up e) (down e)) (fin s m e) s (m * up e) (down e) (down_pos e) (round-fits binary64 s (m * up e) (down e)) f (exactly m f) (refl, refl)
  where
    exactly : (n : ℕ) → T (fits binary64 (fin s n e)) → HasValue (round binary64 s (n * up e) (down e)) s (n * up e) (down e)
    exactly zero g =
        round_exact binary64 s (0 * up e) (down e) 0 0 (down_pos e) (pow_pos 53) (pow_pos 2098)
        (ap (λ (x : ℕ). x * 2 ^ 1074) (zero-mul (up e)) ∙ sym (zero-mul (down e)))
    exactly (suc n) g = exact s n e g

-- `1.0 * x` is x.
pub one_times : (x : Float) → T (fits binary64 x) → one ⊗ x ≡ x
unfolding mul of_bits
one_times nan f = refl
one_times (inf true) f = refl
one_times (inf false) f = refl
one_times (fin true m e) f = rw (one-mul (m * up e), one-mul (down e)) (not_rounded true m e f)
one_times (fin false m e) f = rw (one-mul (m * up e), one-mul (down e)) (not_rounded false m e f)
