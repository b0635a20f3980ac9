-- The number whose root is taken lies between the squares of the midpoints beside what `root_bits` gives.
use mathlib.Core.Path.{◌≡◌, sym, ap, ◌∙◌, subst}
use mathlib.Core.Logic.{◌⊎◌, inl, inr}
use Prim.Native.Nat.{ℕ, ◌+◌, ◌-◌, ◌*◌, ◌/◌, ◌%◌, ◌^◌, ◌≤◌, ◌<◌}
use native.Mathlib.Nat.{le_trans, le_of_eq, le_of_lt, lt_of_lt_of_le, mul_assoc, mul_left_comm, add-mul, mul-le-mul, mul-le-mul_right, mul-lt-mul_of_pos_right, mul-pos, pow-succ'}
use native.Mathlib.Numerals.{add-one}
use native.Mathlib.Omega.{arith}
use mathlib.Core.Bool.{Bool, true, false, not}
use lib.Dec.{T, ltb, ltb→lt, nltb→le}
use lib.Pow.{pow-add, pow_pos}
use Rattle.root.specs.Root.{lead, significand, exponent, radicand}
use Rattle.root.specs.Inner.{IsFloor}
use Rattle.root.specs.Nearest.{infinity, square, at, midpoint}
use Rattle.root.proofs.Longer.{next_square}
use Rattle.root.proofs.Floor.{four}
use Rattle.root.proofs.Scaled.{either, low_of, significand_by, significand_high, exponent_by, exponent_high, radicand_is}
use Rattle.root.proofs.Patterns.{at_low, at_high, at_digits, at_next}
use Rattle.root.proofs.Longer.{square_lt}

-- The number whose root is taken, scaled: it is the radicand, with 54 zeros and then an even number of them.
scaled_low : (b j : ℕ) → j < 52 → b * 2 ^ 1074 ≡ b * 2 ^ (52 - j) * 2 ^ (54 + (968 + j))
scaled_low b j h = ap (λ (x : ℕ). b * x) (ap (λ (x : ℕ). 2 ^ x) (sum h) ∙ pow-add 2 (52 - j) (54 + (968 + j))) ∙ sym (mul_assoc b (2 ^ (52 - j)) (2 ^ (54 + (968 + j))))
  where
    sum : j < 52 → 1074 ≡ 52 - j + (54 + (968 + j))
    sum g = omega arith

scaled_high : (a f : ℕ) → 0 < f → a * 2 ^ (f - 1) * 2 ^ 1074 ≡ a * 2 ^ (54 + (f + 1019))
scaled_high a f h = mul_assoc a (2 ^ (f - 1)) (2 ^ 1074) ∙ ap (λ (x : ℕ). a * x) (sym (pow-add 2 (f - 1) 1074) ∙ ap (λ (x : ℕ). 2 ^ x) (sum h))
  where
    sum : 0 < f → f - 1 + 1074 ≡ 54 + (f + 1019)
    sum g = omega arith

scaled : (b : ℕ) → 0 < b → b < infinity → at b * 2 ^ 1074 ≡ significand b * 2 ^ (54 + exponent b)
scaled b p f = elim (either b) [
  | inl h ↦
      let l = low_of b p h in
      ap (λ (x : ℕ). x * 2 ^ 1074) (at_low b h)
      ∙ scaled_low b l.j l.short
      ∙ ap (λ (x : ℕ). x * 2 ^ (54 + (968 + l.j))) (sym (significand_by b l h))
      ∙ ap (λ (x : ℕ). significand b * 2 ^ (54 + x)) (sym (exponent_by b l h))
  | inr h ↦
      ap (λ (x : ℕ). x * 2 ^ 1074) (at_high b h f)
      ∙ scaled_high (lead + b % lead) (b / lead) (field h)
      ∙ ap (λ (x : ℕ). x * 2 ^ (54 + (b / lead + 1019))) (turn b ∙ sym (significand_high b h))
      ∙ ap (λ (x : ℕ). significand b * 2 ^ (54 + x)) (sym (exponent_high b h))
]
  where
    field : lead ≤ b → 0 < b / lead
    field g = omega arith

    turn : (c : ℕ) → lead + c % lead ≡ c % lead + lead
    turn c = omega arith

halves : (s h : ℕ) → s * 2 ^ (54 + h) ≡ s * 2 ^ (h % 2) * 2 ^ 54 * square (2 ^ (h / 2))
halves s h =
    ap (λ (x : ℕ). s * 2 ^ x) (sum h)
    ∙ ap (λ (x : ℕ). s * x) (pow-add 2 (h % 2 + 54) (h / 2 + h / 2) ∙ ap (λ (x : ℕ). x * 2 ^ (h / 2 + h / 2)) (pow-add 2 (h % 2) 54) ∙ ap (λ (x : ℕ). 2 ^ (h % 2) * 2 ^ 54 * x) (pow-add 2 (h / 2) (h / 2)))
    ∙ sym (mul_assoc s (2 ^ (h % 2) * 2 ^ 54) (square (2 ^ (h / 2))))
    ∙ ap (λ (x : ℕ). x * square (2 ^ (h / 2))) (sym (mul_assoc s (2 ^ (h % 2)) (2 ^ 54)))
  where
    sum : (a : ℕ) → 54 + a ≡ a % 2 + 54 + (a / 2 + a / 2)
    sum a = omega arith

-- Four times it, in the terms of the root's own exponent.
abbrev pub unit : ℕ → ℕ
unit b = 2 ^ (exponent b / 2 + 1)

abbrev pub wide : ℕ → ℕ
wide b = radicand b * 18014398509481984

doubled : (n : ℕ) → square (2 ^ (n + 1)) ≡ 4 * square (2 ^ n)
doubled n = ap square (ap (λ (x : ℕ). 2 ^ x) (add-one n) ∙ pow-succ' 2 n) ∙ four (2 ^ n)

pub fourfold_is : (b : ℕ) → 0 < b → b < infinity → 4 * (at b * 2 ^ 1074) ≡ wide b * square (unit b)
fourfold_is b p f =
    ap (λ (x : ℕ). 4 * x) (scaled b p f ∙ halves (significand b) (exponent b) ∙ ap (λ (x : ℕ). x * 2 ^ 54 * square (2 ^ (exponent b / 2))) (sym (radicand_is b)))
    ∙ mul_left_comm 4 (wide b) (square (2 ^ (exponent b / 2)))
    ∙ ap (λ (x : ℕ). wide b * x) (sym (doubled (exponent b / 2)))

square_mul : (a c : ℕ) → square (a * c) ≡ square a * square c
square_mul a c = simp (mul_assoc, mul_left_comm)

odd_square : (q t : ℕ) → q ≡ 2 * t + 1 → q * q ≡ 2 * (2 * (t * t) + 2 * t) + 1
odd_square q t e = ap square e ∙ next_square (2 * t) ∙ ap (λ (x : ℕ). x + (2 * t + 2 * t + 1)) (four t) ∙ regroup (t * t) t
  where
    regroup : (a c : ℕ) → 4 * a + (2 * c + 2 * c + 1) ≡ 2 * (2 * a + 2 * c) + 1
    regroup a c = omega arith

module _ (k r : ℕ) (from : lead ≤ r) (to : r < 2 * lead) (in_range : k * lead + r + 1 < infinity) where
  at_root : at (k * lead + r) ≡ r * 2 ^ k
  at_root = at_digits k r from (le_of_lt to) (omega arith)

  above_mid : midpoint (k * lead + r) ≡ (2 * r + 1) * 2 ^ k
  above_mid =
      ap (λ (x : ℕ). at (k * lead + r) + at x) (group k r)
      ∙ ap (λ (x : ℕ). x + at (k * lead + (r + 1))) at_root
      ∙ ap (λ (x : ℕ). r * 2 ^ k + x) (at_digits k (r + 1) (omega arith) (omega arith) (omega arith))
      ∙ sym (add-mul r (r + 1) (2 ^ k))
      ∙ ap (λ (x : ℕ). x * 2 ^ k) (sum r)
    where
      group : (a c : ℕ) → a * lead + c + 1 ≡ a * lead + (c + 1)
      group a c = omega arith

      sum : (c : ℕ) → c + (c + 1) ≡ 2 * c + 1
      sum c = omega arith

  below_up : k * lead + r - 1 + 1 ≡ k * lead + r
  below_up = omega arith

  below_mid : lead < r → midpoint (k * lead + r - 1) ≡ (2 * r - 1) * 2 ^ k
  below_mid h =
      ap (λ (x : ℕ). at (k * lead + r - 1) + at x) below_up
      ∙ ap (λ (x : ℕ). at (k * lead + r - 1) + x) at_root
      ∙ ap (λ (x : ℕ). at x + r * 2 ^ k) (group h)
      ∙ ap (λ (x : ℕ). x + r * 2 ^ k) (at_digits k (r - 1) (omega arith) (omega arith) (omega arith))
      ∙ sym (add-mul (r - 1) r (2 ^ k))
      ∙ ap (λ (x : ℕ). x * 2 ^ k) (sum h)
    where
      group : lead < r → k * lead + r - 1 ≡ k * lead + (r - 1)
      group g = omega arith

      sum : lead < r → r - 1 + r ≡ 2 * r - 1
      sum g = omega arith

  below_less : midpoint (k * lead + r - 1) < 2 * r * 2 ^ k
  below_less =
      let n : at (k * lead + r - 1) < at (k * lead + r) = subst (λ (x : ℕ). at (k * lead + r - 1) < at x) below_up (at_next (k * lead + r - 1) (omega arith)) in
      let e : at (k * lead + r - 1 + 1) ≡ at (k * lead + r) = ap at below_up in
      let d : 2 * r * 2 ^ k ≡ 2 * (r * 2 ^ k) = mul_assoc 2 r (2 ^ k) in
      omega (arith, at_root)

  -- W is the number whose root q, cut to a whole number, is 2 * r or 2 * r - 1.
  module _ (W q : ℕ) (root : IsFloor W q) (half : r ≡ (q + 1) / 2) (even : W % 2 ≡ 0) (long_enough : 2 * lead ≤ q) where
    scale : {a c : ℕ} → a < c → a * square (2 ^ k) < c * square (2 ^ k)
    scale h = mul-lt-mul_of_pos_right h (mul-pos (pow_pos k) (pow_pos k))

    pub high : W * square (2 ^ k) < square (midpoint (k * lead + r))
    high =
        subst (λ (x : ℕ). W * square (2 ^ k) < x) (sym (ap square above_mid ∙ square_mul (2 * r + 1) (2 ^ k)))
        (scale (lt_of_lt_of_le root.1 (mul-le-mul (up half) (up half))))
      where
        up : r ≡ (q + 1) / 2 → q + 1 ≤ 2 * r + 1
        up e = omega arith

    parity : (q ≡ 2 * r) ⊎ (q ≡ 2 * r - 1)
    parity = go (ltb q (2 * r)) (ltb→lt q (2 * r)) (nltb→le q (2 * r))
      where
        go : (t : Bool) → (T t → q < 2 * r) → (T (not t) → 2 * r ≤ q) → (q ≡ 2 * r) ⊎ (q ≡ 2 * r - 1)
        go true h l = inr (odd (h tt))
          where
            odd : q < 2 * r → q ≡ 2 * r - 1
            odd g = omega arith
        go false h l = inl (same (l tt))
          where
            same : 2 * r ≤ q → q ≡ 2 * r
            same g = omega arith

    pub low : square (midpoint (k * lead + r - 1)) < W * square (2 ^ k)
    low = elim parity [
      | inl e ↦
          lt_of_lt_of_le (square_lt (midpoint (k * lead + r - 1)) (2 * r * 2 ^ k) below_less)
          (le_trans (le_of_eq (square_mul (2 * r) (2 ^ k))) (mul-le-mul_right (square (2 ^ k)) (subst (λ (x : ℕ). x * x ≤ W) e root.0)))
      | inr e ↦
          subst (λ (x : ℕ). x < W * square (2 ^ k)) (sym (ap square (below_mid (omega arith)) ∙ square_mul (2 * r - 1) (2 ^ k)))
          (scale (subst (λ (x : ℕ). x * x < W) e (omega (arith, root.0, odd_square q (r - 1) (omega arith)))))
    ]
