-- From s, the root of m cut to a whole number, to the root of m * P * P: with t the rest of m over s * s, the new digits are t * P / (2 * s), or one less.
use mathlib.Core.Path.{◌≡◌, sym, ap, ◌∙◌, subst}
use Prim.Native.Nat.{ℕ, zero, suc, ◌+◌, ◌-◌, ◌*◌, ◌/◌, ◌%◌, ◌≤◌, ◌<◌}
use native.Mathlib.Nat.{le_trans, le_of_eq, le_of_lt, lt_of_le_of_lt, le_of_suc-le-suc, lt_of_not-le, not-le_of_lt, mul-add, add-mul, mul_comm, mul_assoc, mul_left_comm, add_assoc, add_comm, add_left_comm, mul-le-mul, mul-le-mul_left, mul-le-mul_right, mul-lt-mul_of_pos_right, mul-one, one-mul, div-le_of_le-mul, div-add-mod', mod-lt, two-mul}
use native.Mathlib.Numerals.{add-one}
use native.Mathlib.Omega.{arith}
use Rattle.root.specs.Inner.{IsFloor}

-- The square of one more than a number.
pub next_square : (r : ℕ) → (r + 1) * (r + 1) ≡ r * r + (r + r + 1)
next_square r = simp (mul-add, add-mul, mul-one, one-mul, add_assoc)

twice : (s P : ℕ) → 2 * s * P ≡ s * P + s * P
twice s P = ap (λ (x : ℕ). x * P) (two-mul s) ∙ add-mul s s P

-- A number whose square is below another's is below it, and the other way round.
pub root_lt : (a b : ℕ) → a * a < b * b → a < b
root_lt a b h = lt_of_not-le (λ (g : b ≤ a). not-le_of_lt h (mul-le-mul g g))

pub square_lt : (a b : ℕ) → a < b → a * a < b * b
square_lt a b h = lt_of_le_of_lt (mul-le-mul_left a (le_of_lt h)) (mul-lt-mul_of_pos_right h (omega arith))

expand : (s u v P : ℕ) → s * s * (P * P) + (u * (2 * s) + v) * P + u * u ≡ (s * P + u) * (s * P + u) + v * P
expand s u v P = simp (two-mul, mul-add, add-mul, mul_comm, mul_assoc, mul_left_comm, add_assoc, add_comm, add_left_comm)

-- Where the root of a number of 53 or 54 digits lies.
pub root_low : (m s : ℕ) → 4503599627370496 ≤ m → m < (s + 1) * (s + 1) → 67108864 ≤ s
root_low m s h k = le_of_suc-le-suc (subst (λ (x : ℕ). 67108864 < x) (add-one s) (root_lt 67108864 (s + 1) (lt_of_le_of_lt h k)))

pub root_high : (m s : ℕ) → m < 18014398509481984 → s * s ≤ m → s < 134217728
root_high m s h k = root_lt s 134217728 (lt_of_le_of_lt k h)

module _ (m s P : ℕ) (low : s * s ≤ m) (high : m < (s + 1) * (s + 1)) (big : P ≤ 2 * s) where
  pub rest_le : m - s * s ≤ 2 * s
  rest_le = omega (arith, next_square s)

  module _ (u v : ℕ) (cut : u * (2 * s) + v ≡ (m - s * s) * P) (left : v < 2 * s) (few : u ≤ P) where
    whole : m * (P * P) + u * u ≡ (s * P + u) * (s * P + u) + v * P
    whole =
        ap (λ (x : ℕ). x * (P * P) + u * u) (parts low)
        ∙ ap (λ (x : ℕ). x + u * u) (add-mul (s * s) (m - s * s) (P * P) ∙ ap (λ (x : ℕ). s * s * (P * P) + x) (sym (mul_assoc (m - s * s) P P) ∙ ap (λ (x : ℕ). x * P) (sym cut)))
        ∙ expand s u v P
      where
        parts : s * s ≤ m → m ≡ s * s + (m - s * s)
        parts h = omega arith

    over : v * P ≤ s * P + s * P
    over = le_trans (mul-le-mul_right P (le_of_lt left)) (le_of_eq (twice s P))

    pub enough : u * u ≤ v * P → IsFloor (m * (P * P)) (s * P + u)
    enough h = (omega (arith, whole), omega (arith, whole, over, next_square (s * P + u)))

    squares : u * u ≤ s * P + s * P
    squares = le_trans (mul-le-mul few few) (le_trans (mul-le-mul_right P big) (le_of_eq (twice s P)))

    some : v * P < u * u → 0 < u
    some h = go u h
      where
        go : (x : ℕ) → v * P < x * x → 0 < x
        go zero g = omega arith
        go (suc x) g = omega arith

    before : (r : ℕ) → 0 < r → r * r ≡ (r - 1) * (r - 1) + (r - 1 + (r - 1) + 1)
    before r h = ap (λ (x : ℕ). x * x) (back h) ∙ next_square (r - 1)
      where
        back : 0 < r → r ≡ r - 1 + 1
        back g = omega arith

    pub one_less_lem : v * P < u * u → IsFloor (m * (P * P)) (s * P + u - 1)
    one_less_lem h =
        let p : 0 < u = some h in
        let q : 0 < s * P + u = omega arith in
        (omega (arith, whole, squares, before (s * P + u) q), omega (arith, whole, before (s * P + u) q, next_square (s * P + u - 1)))

-- The same with the digits found by a division, at P = 2 ^ 27, as the code has it.
abbrev pub rest : ℕ → ℕ → ℕ
rest m s = (m - s * s) * 134217728

module _ (m s : ℕ) (from : 4503599627370496 ≤ m) (to : m < 18014398509481984) (f : IsFloor m s) where
  pub range : (67108864 ≤ s) × (s < 134217728) × (m - s * s ≤ 2 * s)
  range = (root_low m s from f.1, root_high m s to f.0, rest_le m s 134217728 f.0 f.1 (big (root_low m s from f.1)))
    where
      big : 67108864 ≤ s → 134217728 ≤ 2 * s
      big h = omega arith

  wide : 134217728 ≤ 2 * s
  wide = omega (arith, range.0)

  cut : rest m s / (2 * s) * (2 * s) + rest m s % (2 * s) ≡ rest m s
  cut = div-add-mod' (rest m s) (2 * s)

  pub left : rest m s % (2 * s) < 2 * s
  left = mod-lt (rest m s) (omega (arith, wide))

  pub few : rest m s / (2 * s) ≤ 134217728
  few = div-le_of_le-mul (2 * s) (mul-le-mul_right 134217728 range.2)

  pub few_square : rest m s / (2 * s) * (rest m s / (2 * s)) ≤ 18014398509481984
  few_square = mul-le-mul few few

  pub exact : rest m s / (2 * s) * (rest m s / (2 * s)) ≤ rest m s % (2 * s) * 134217728 → IsFloor (m * 18014398509481984) (s * 134217728 + rest m s / (2 * s))
  exact h = enough m s 134217728 f.0 f.1 wide (rest m s / (2 * s)) (rest m s % (2 * s)) cut left few h

  pub less : rest m s % (2 * s) * 134217728 < rest m s / (2 * s) * (rest m s / (2 * s)) → IsFloor (m * 18014398509481984) (s * 134217728 + rest m s / (2 * s) - 1)
  less h = one_less_lem m s 134217728 f.0 f.1 wide (rest m s / (2 * s)) (rest m s % (2 * s)) cut left few h
