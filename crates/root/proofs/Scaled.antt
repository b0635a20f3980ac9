-- The significand, the exponent and the radicand of a pattern: what they are, and how large.
use mathlib.Core.Path.{◌≡◌, refl, sym, ap, ◌∙◌, subst}
use Prim.Native.Nat.{ℕ, zero, suc, ◌+◌, ◌-◌, ◌*◌, ◌/◌, ◌%◌, ◌^◌, ◌≤◌, ◌<◌}
use native.Mathlib.Nat.{le_trans, le_of_eq, lt_of_lt_of_le, lt_of_le_of_lt, lt_of_not-le, not-le_of_lt, mul-le-mul_right, mul-lt-mul_of_pos_right, mod-lt, mod-eq_of_lt, zero-lt-suc, le_of_suc-le-suc}
use native.Mathlib.Numerals.{add-one}
use native.Mathlib.Omega.{arith}
use mathlib.Core.Bool.{Bool, true, false, not}
use mathlib.Core.Logic.{◌⊎◌, inl, inr}
use lib.Dec.{T, ltb, ltb→lt, nltb→le}
use lib.Count.{count_leading_zeros, leading_top, leading_le}
use lib.Pow.{pow-add, pow_pos, pow_mono}
use borrow.Author.Tests.{lt-ltb, le-ltb}
use Rattle.root.specs.Root.{lead, significand, exponent, radicand, isqrt, root_bits}
use Rattle.root.specs.Inner.{IsFloor}
use Rattle.root.specs.Nearest.{infinity}
use Rattle.root.proofs.Longer.{root_lt}
use Rattle.root.proofs.Floor.{isqrt_floor, floor_unique}

-- A pattern below `lead`, that of a subnormal number: b has suc j digits, and 52 - j is how far it moves up.
pub record Low (b : ℕ) : Type 0 where
  pub j : ℕ
  pub short : j < 52
  pub zeros : count_leading_zeros 64 b ≡ 63 - j
  pub from : 2 ^ j ≤ b
  pub to : b < 2 ^ suc j

pow_lt_back : (i p : ℕ) → 2 ^ i < 2 ^ p → i < p
pow_lt_back i p h = lt_of_not-le (λ (g : p ≤ i). not-le_of_lt h (pow_mono g))

pub low_of : (b : ℕ) → 0 < b → b < lead → Low b
low_of b p h =
    let t = leading_top 64 b p (omega arith) in
    record { j = t.0; short = pow_lt_back t.0 52 (lt_of_le_of_lt t.2 h); zeros = omega (arith, t.1); from = t.2; to = t.3 }

pub twelve : (b : ℕ) → 0 < b → b < lead → 11 ≤ count_leading_zeros 64 b
twelve b p h =
    let l = low_of b p h in
    omega (arith, l.short, l.zeros)

moved_low : (b j : ℕ) → j < 52 → 2 ^ j ≤ b → lead ≤ b * 2 ^ (52 - j)
moved_low b j h k = le_trans (le_of_eq (ap (λ (x : ℕ). 2 ^ x) (join h) ∙ pow-add 2 j (52 - j))) (mul-le-mul_right (2 ^ (52 - j)) k)
  where
    join : j < 52 → 52 ≡ j + (52 - j)
    join g = omega arith

moved_high : (b j : ℕ) → j < 52 → b < 2 ^ suc j → b * 2 ^ (52 - j) < 9007199254740992
moved_high b j h k = lt_of_lt_of_le (mul-lt-mul_of_pos_right k (pow_pos (52 - j))) (le_of_eq (sym (pow-add 2 (suc j) (52 - j)) ∙ ap (λ (x : ℕ). 2 ^ x) (join h)))
  where
    join : j < 52 → suc j + (52 - j) ≡ 53
    join g = omega arith

-- What significand and exponent are, on either side of `lead`.
pub significand_low : (b : ℕ) → b < lead → significand b ≡ b * 2 ^ (count_leading_zeros 64 b - 11)
unfolding significand
significand_low b h = simp (lt-ltb b lead h)

pub significand_high : (b : ℕ) → lead ≤ b → significand b ≡ b % lead + lead
unfolding significand
significand_high b h = simp (le-ltb b lead h)

pub exponent_low : (b : ℕ) → b < lead → exponent b ≡ 1031 - count_leading_zeros 64 b
unfolding exponent
exponent_low b h = simp (lt-ltb b lead h)

pub exponent_high : (b : ℕ) → lead ≤ b → exponent b ≡ b / lead + 1019
unfolding exponent
exponent_high b h = simp (le-ltb b lead h)

-- The same by the number of digits.
pub significand_by : (b : ℕ) (l : Low b) → b < lead → significand b ≡ b * 2 ^ (52 - l.j)
significand_by b l h = significand_low b h ∙ ap (λ (x : ℕ). b * 2 ^ x) (shift l.short l.zeros)
  where
    shift : l.j < 52 → count_leading_zeros 64 b ≡ 63 - l.j → count_leading_zeros 64 b - 11 ≡ 52 - l.j
    shift p q = omega arith

pub exponent_by : (b : ℕ) (l : Low b) → b < lead → exponent b ≡ 968 + l.j
exponent_by b l h = exponent_low b h ∙ sum l.short l.zeros
  where
    sum : l.j < 52 → count_leading_zeros 64 b ≡ 63 - l.j → 1031 - count_leading_zeros 64 b ≡ 968 + l.j
    sum p q = omega arith

-- A pattern lies on one side of it.
pub either : (b : ℕ) → (b < lead) ⊎ (lead ≤ b)
either b = go (ltb b lead) (ltb→lt b lead) (nltb→le b lead)
  where
    go : (t : Bool) → (T t → b < lead) → (T (not t) → lead ≤ b) → (b < lead) ⊎ (lead ≤ b)
    go true h k = inl (h tt)
    go false h k = inr (k tt)

pub significand_range : (b : ℕ) → 0 < b → (lead ≤ significand b) × (significand b < 9007199254740992)
significand_range b p = elim (either b) [
  | inl h ↦
      let l = low_of b p h in
      subst (λ (x : ℕ). (lead ≤ x) × (x < 9007199254740992)) (sym (significand_by b l h)) (moved_low b l.j l.short l.from, moved_high b l.j l.short l.to)
  | inr h ↦ (omega (arith, significand_high b h), omega (arith, significand_high b h))
]

pub exponent_range : (b : ℕ) → 0 < b → b < infinity → (967 < exponent b) × (exponent b < 3066)
exponent_range b p t = elim (either b) [
  | inl h ↦
      let l = low_of b p h in
      (omega (arith, exponent_by b l h, l.short), omega (arith, exponent_by b l h, l.short))
  | inr h ↦ (omega (arith, exponent_high b h), omega (arith, exponent_high b h))
]

-- The number whose root is taken.
parity : (h : ℕ) → (2 ^ (h % 2) ≡ 1) ⊎ (2 ^ (h % 2) ≡ 2)
parity h = go (h % 2) (mod-lt h (zero-lt-suc 1))
  where
    go : (r : ℕ) → r < 2 → (2 ^ r ≡ 1) ⊎ (2 ^ r ≡ 2)
    go zero g = inl refl
    go (suc zero) g = inr refl
    go (suc (suc r)) g = absurd (no r g)
      where
        no : (x : ℕ) → suc (suc x) < 2 → ⊥
        no x k = omega arith

pub radicand_is : (b : ℕ) → radicand b ≡ significand b * 2 ^ (exponent b % 2)
unfolding radicand
radicand_is b = refl

pub radicand_range : (b : ℕ) → 0 < b → (lead ≤ radicand b) × (radicand b ≤ 18014398509481982)
radicand_range b p =
    let s = significand_range b p in
    elim (parity (exponent b)) [
      | inl e ↦
          let d = radicand_is b ∙ ap (λ (x : ℕ). significand b * x) e in
          (omega (arith, d, s), omega (arith, d, s))
      | inr e ↦
          let d = radicand_is b ∙ ap (λ (x : ℕ). significand b * x) e in
          (omega (arith, d, s), omega (arith, d, s))
    ]

-- Its root to 54 digits.
abbrev pub long : ℕ → ℕ
long b = isqrt 54 (radicand b * 18014398509481984)

pub long_floor : (b : ℕ) → 0 < b → IsFloor (radicand b * 18014398509481984) (long b)
long_floor b p = isqrt_floor 54 (radicand b * 18014398509481984) (omega (arith, radicand_range b p))

pub long_range : (b : ℕ) → 0 < b → (9007199254740992 ≤ long b) × (long b < 18014398509481983)
long_range b p =
    let f = long_floor b p in
    let r = radicand_range b p in (
      le_of_suc-le-suc (subst (λ (x : ℕ). 9007199254740992 < x) (add-one (long b)) (root_lt 9007199254740992 (long b + 1) (omega (arith, f.1, r)))),
      root_lt (long b) 18014398509481983 (omega (arith, f.0, r)),
    )

pub root_bits_is : (b : ℕ) → root_bits b ≡ (exponent b / 2 + 1) * lead + (long b + 1) / 2
unfolding root_bits
root_bits_is b = refl

-- What the code makes of them.
pub shifted : (b m h : ℕ) → 0 < b → m ≡ significand b → h ≡ exponent b → m * 2 ^ (h % 2) % 18446744073709551616 ≡ radicand b
shifted b m h p e f =
    ap (λ (x : ℕ). x * 2 ^ (h % 2) % 18446744073709551616) e
    ∙ ap (λ (x : ℕ). significand b * 2 ^ (x % 2) % 18446744073709551616) f
    ∙ ap (λ (x : ℕ). x % 18446744073709551616) (sym (radicand_is b))
    ∙ mod-eq_of_lt (omega (arith, radicand_range b p))

pub found : (b x r : ℕ) → 0 < b → x ≡ radicand b → IsFloor (x * 18014398509481984) r → r ≡ long b
found b x r p e f = floor_unique (radicand b * 18014398509481984) r (long b) (subst (λ (y : ℕ). IsFloor (y * 18014398509481984) r) e f) (long_floor b p)

-- at most 64 zeros lead
pub leads : (b : ℕ) → count_leading_zeros 64 b ≤ 64
leads b = leading_le 64 b
