-- What number each pattern of a finite double that is not negative stands for, in units of 2 ^ -1074, and that a larger pattern stands for a larger number.
use mathlib.Core.Path.{◌≡◌, refl, sym, ap, ◌∙◌, subst}
use mathlib.Core.Logic.{◌⊎◌, inl, inr}
use Prim.Native.Nat.{ℕ, suc, ◌+◌, ◌-◌, ◌*◌, ◌/◌, ◌%◌, ◌^◌, ◌≤◌, ◌<◌}
use native.Mathlib.Nat.{le_trans, le_of_lt, le_refl, not-le_of_lt, eq-or-lt_of_le, mod-eq_of_lt, div-eq_of_lt, mul-one, mul_assoc, mul-div_cancel, mul-lt-mul_of_pos_right, pow-succ'}
use native.Mathlib.Decide.{le_ind}
use native.Mathlib.Numerals.{add-one}
use native.Mathlib.Omega.{arith}
use mathlib.Core.Bool.{Bool, true, false, not, cond}
use lib.Dec.{T, leb, ltb, eqb, ltb→lt, nltb→le, leb→le, eqb→eq, not_T, lit<}
use lib.Pow.{pow_pos}
use lib.Ieee.{Float, nan, inf, fin, binary64, down, odd, of_fields, of_bits}
use lib.Ieee.Digits.{Equals, odd_val}
use lib.Ieee.Fits.{down_pos}
use lib.Ieee.Bits.{is_false, cond_no}
use Rattle.root.specs.Root.{lead}
use Rattle.root.specs.Nearest.{infinity, size, at}

size_of : (x : Float) (a : ℕ) → Equals x a (2 ^ 1074) → size x ≡ a
unfolding size
size_of nan a h = absurd h
size_of (inf s) a h = absurd h
size_of (fin s m e) a h = ap (λ (x : ℕ). x / down e) h ∙ mul-div_cancel a (down_pos e)

size_odd : (q k : ℕ) → size (odd 53 false q k 1074) ≡ q * 2 ^ k
size_odd q k = size_of (odd 53 false q k 1074) (q * 2 ^ k) (odd_val 53 false q k 1074)

of_bits_is : (b : ℕ) → of_bits binary64 b ≡ of_fields binary64 (leb 9223372036854775808 b) (b % 9223372036854775808 / lead) (b % lead)
unfolding of_bits
of_bits_is b = refl

at_zero : (t : ℕ) → of_fields binary64 false 0 t ≡ odd 53 false t 0 1074
unfolding of_fields
at_zero t = refl

differ : (x : ℕ) → suc x < 2047 → suc x ≡ 2047 → ⊥
differ x h e = omega arith

under_ones : (t x : ℕ) → suc x < 2047 → of_fields binary64 false (suc x) t ≡ odd 53 false (lead + t) x 1074
unfolding of_fields
under_ones t x h = cond_no (eqb (suc x) 2047) (cond (eqb t 0) (inf false) nan) (odd 53 false (lead + t) x 1074) (not_T (eqb (suc x) 2047) (λ (u : T (eqb (suc x) 2047)). differ x h (eqb→eq (suc x) 2047 u)))

small : (b : ℕ) → b < infinity → b < 9223372036854775808
small b h = omega arith

unsigned : (b : ℕ) → b < infinity → of_bits binary64 b ≡ of_fields binary64 false (b / lead) (b % lead)
unsigned b h =
    of_bits_is b
    ∙ ap (λ (s : Bool). of_fields binary64 s (b % 9223372036854775808 / lead) (b % lead)) (is_false (leb 9223372036854775808 b) (not_T (leb 9223372036854775808 b) (λ (u : T (leb 9223372036854775808 b)). not-le_of_lt (small b h) (leb→le 9223372036854775808 b u))))
    ∙ ap (λ (x : ℕ). of_fields binary64 false (x / lead) (b % lead)) (mod-eq_of_lt (small b h))

pub at_low : (b : ℕ) → b < lead → at b ≡ b
at_low b h =
    ap size (unsigned b (wide h) ∙ ap (λ (x : ℕ). of_fields binary64 false x (b % lead)) (div-eq_of_lt h) ∙ ap (λ (t : ℕ). of_fields binary64 false 0 t) (mod-eq_of_lt h) ∙ at_zero b)
    ∙ size_odd b 0
    ∙ mul-one b
  where
    wide : b < lead → b < infinity
    wide g = omega arith

pub at_high : (b : ℕ) → lead ≤ b → b < infinity → at b ≡ (lead + b % lead) * 2 ^ (b / lead - 1)
at_high b h k =
    ap size (unsigned b k ∙ ap (λ (x : ℕ). of_fields binary64 false x (b % lead)) (field h) ∙ under_ones (b % lead) (b / lead - 1) (field_lt h k))
    ∙ size_odd (lead + b % lead) (b / lead - 1)
  where
    field : lead ≤ b → b / lead ≡ suc (b / lead - 1)
    field g = omega arith

    field_lt : lead ≤ b → b < infinity → suc (b / lead - 1) < 2047
    field_lt g l = omega arith

-- The pattern that k and the digits r make, for an r from `lead` up to its double.
pub at_digits : (k r : ℕ) → lead ≤ r → r ≤ 2 * lead → k * lead + r < infinity → at (k * lead + r) ≡ r * 2 ^ k
at_digits k r h l f = elim (eq-or-lt_of_le l) [
  | inl e ↦
      at_high (k * lead + r) (over h) f
      ∙ ap (λ (x : ℕ). (lead + x) * 2 ^ ((k * lead + r) / lead - 1)) (even e)
      ∙ ap (λ (x : ℕ). lead * 2 ^ x) (one_up e)
      ∙ ap (λ (x : ℕ). lead * x) (pow-succ' 2 k)
      ∙ sym (mul_assoc lead 2 (2 ^ k))
      ∙ ap (λ (x : ℕ). x * 2 ^ k) (sym e)
  | inr g ↦
      at_high (k * lead + r) (over h) f
      ∙ ap (λ (x : ℕ). x * 2 ^ ((k * lead + r) / lead - 1)) (digits h g)
      ∙ ap (λ (x : ℕ). r * 2 ^ x) (field h g)
]
  where
    over : lead ≤ r → lead ≤ k * lead + r
    over p = omega arith

    even : r ≡ 2 * lead → (k * lead + r) % lead ≡ 0
    even p = omega arith

    one_up : r ≡ 2 * lead → (k * lead + r) / lead - 1 ≡ suc k
    one_up p = omega arith

    digits : lead ≤ r → r < 2 * lead → lead + (k * lead + r) % lead ≡ r
    digits p q = omega arith

    field : lead ≤ r → r < 2 * lead → (k * lead + r) / lead - 1 ≡ k
    field p q = omega arith

-- The next pattern has a larger number.
parts : (b : ℕ) → lead ≤ b → b ≡ (b / lead - 1) * lead + (lead + b % lead)
parts b h = omega arith

step : (k r : ℕ) → lead ≤ r → r < 2 * lead → k * lead + r + 1 < infinity → at (k * lead + r) < at (k * lead + r + 1)
step k r h l f =
    subst (λ (x : ℕ). x < at (k * lead + r + 1)) (sym (at_digits k r h (le_of_lt l) (less f)))
    (subst (λ (x : ℕ). r * 2 ^ k < x) (sym (ap at (group k r) ∙ at_digits k (r + 1) (more h) (fits l) (subst (λ (x : ℕ). x < infinity) (group k r) f)))
    (mul-lt-mul_of_pos_right (one r) (pow_pos k)))
  where
    less : k * lead + r + 1 < infinity → k * lead + r < infinity
    less p = omega arith

    group : (a c : ℕ) → a * lead + c + 1 ≡ a * lead + (c + 1)
    group a c = omega arith

    more : lead ≤ r → lead ≤ r + 1
    more p = omega arith

    fits : r < 2 * lead → r + 1 ≤ 2 * lead
    fits p = omega arith

    one : (c : ℕ) → c < c + 1
    one c = omega arith

either : (b : ℕ) → (b + 1 < lead) ⊎ (b + 1 ≡ lead) ⊎ (lead ≤ b)
either b = go (ltb (b + 1) lead) (ltb (b) lead) (ltb→lt (b + 1) lead) (nltb→le (b + 1) lead) (ltb→lt b lead) (nltb→le b lead)
  where
    go : (s t : Bool) → (T s → b + 1 < lead) → (T (not s) → lead ≤ b + 1) → (T t → b < lead) → (T (not t) → lead ≤ b) → (b + 1 < lead) ⊎ (b + 1 ≡ lead) ⊎ (lead ≤ b)
    go true t h k l m = inl (h tt)
    go false true h k l m = inr (inl (same (k tt) (l tt)))
      where
        same : lead ≤ b + 1 → b < lead → b + 1 ≡ lead
        same p q = omega arith
    go false false h k l m = inr (inr (m tt))

at_lead : at lead ≡ lead
at_lead = at_high lead (le_refl lead) (lit< tt)

pub at_next : (b : ℕ) → b + 1 < infinity → at b < at (b + 1)
at_next b f = elim (either b) [
  | inl h ↦ subst (λ (x : ℕ). x < at (b + 1)) (sym (at_low b (one h))) (subst (λ (x : ℕ). b < x) (sym (at_low (b + 1) h)) (next b))
  | inr (inl e) ↦ subst (λ (x : ℕ). x < at (b + 1)) (sym (at_low b (just e))) (subst (λ (x : ℕ). b < x) (sym (ap at e ∙ at_lead)) (just e))
  | inr (inr h) ↦
      subst (λ (x : ℕ). at x < at (x + 1)) (sym (parts b h))
      (step (b / lead - 1) (lead + b % lead) (low b) (high b) (subst (λ (x : ℕ). x + 1 < infinity) (parts b h) f))
]
  where
    one : b + 1 < lead → b < lead
    one p = omega arith

    next : (c : ℕ) → c < c + 1
    next c = omega arith

    just : b + 1 ≡ lead → b < lead
    just p = omega arith

    low : (c : ℕ) → lead ≤ lead + c % lead
    low c = omega arith

    high : (c : ℕ) → lead + c % lead < 2 * lead
    high c = omega arith

pub at_mono : (a b : ℕ) → a ≤ b → b < infinity → at a ≤ at b
at_mono a b h f = le_ind (λ (m : ℕ). m < infinity → at a ≤ at m) (λ g. le_refl (at a)) (λ m k ih g. more m (ih (less m g)) g) b h f
  where
    less : (m : ℕ) → suc m < infinity → m < infinity
    less m g = omega arith

    more : (m : ℕ) → at a ≤ at m → suc m < infinity → at a ≤ at (suc m)
    more m i g = le_trans i (le_of_lt (subst (λ (x : ℕ). at m < at x) (add-one m) (at_next m (subst (λ (x : ℕ). x < infinity) (sym (add-one m)) g))))
