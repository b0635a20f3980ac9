-- What the digits mean: read again they are the number, and there are no zeros in front.
use Rattle.std.specs.Prelude.{ℕ, zero, suc, ◌+◌, ◌-◌, ◌*◌, ◌/◌, ◌%◌, ◌^◌, ◌<◌, ◌≤◌, ◌≡◌, refl, Bool, true, false, cond, ltb}
use mathlib.Core.List.{List, foldl, foldl-append}
use Rattle.std.proofs.Common.{mod-lt, div-add-mod', pow-suc, div-lt_iff_lt-mul, arith, lt-ltb, le-ltb, ltb-true, ltb-false}
use Rattle.std.proofs.Math.Nat.{pow-zero}
use Rattle.text.specs.Numbers.{glyph, digits, hex_of, width_in, width_of, numeral_of}

-- the number that a digit stands for
abbrev pub digit_of : ℕ → ℕ
digit_of c = cond (ltb c 65) (c - 48) (c - 55)

-- the number that digits stand for in a base
unfoldable pub value_of : ℕ → List ℕ → ℕ
value_of base text = foldl (λ (v c : ℕ). v * base + digit_of c) 0 text

digit_glyph : (d : ℕ) → d < 16 → digit_of (glyph d) ≡ d
digit_glyph d h = go (ltb d 10) refl
  where
    go : (b : Bool) → ltb d 10 ≡ b → digit_of (cond b (48 + d) (55 + d)) ≡ d
    go true e = rw (lt-ltb (48 + d) 65 (omega (arith, ltb-true d 10 e))) (omega arith)
    go false e = rw (le-ltb (55 + d) 65 (omega (arith, ltb-false d 10 e))) (omega arith)

read_again : (base k n : ℕ) → 0 < base → base ≤ 16 → n < base ^ k → value_of base (digits base k n) ≡ n
unfolding value_of digits
read_again base zero n p q h = omega (arith, pow-zero base)
read_again base (suc k) n p q h =
    let less : n / base < base ^ k = (div-lt_iff_lt-mul p).1 (rw pow-suc at h) in
    let last : n % base < 16 = omega (arith, mod-lt n p) in
    rw (foldl-append, read_again base k (n / base) p q less, digit_glyph (n % base) last) (div-add-mod' n base)

-- w is the fewest digits that n can be written with
pub record Fewest (w n : ℕ) : Type 0 where
  pub some : 0 < w
  pub enough : n < 10 ^ w
  pub needed : 1 < w → 10 ^ (w - 1) ≤ n

-- a number of at least 10 needs a digit more than its tenth
ten_times : (w n : ℕ) → 10 ≤ n → Fewest w (n / 10) → 10 ^ w ≤ n
ten_times zero n t f = absurd (omega (arith, f.some))
ten_times (suc zero) n t f = t
ten_times (suc (suc w)) n t f =
    let e : suc (suc w) - 1 ≡ suc w = omega arith in
    let h : 10 ^ suc w ≤ n / 10 = rw e at (f.needed (omega arith)) in
    omega (arith, pow-suc 10 (suc w))

one_more_lem : (b : Bool) (w n : ℕ) → ltb n 10 ≡ b → Fewest w (n / 10) → Fewest (cond b 1 (suc w)) n
one_more_lem true w n e f = record { some = omega arith; enough = ltb-true n 10 e; needed = λ h. absurd (omega arith) }
one_more_lem false w n e f =
    let d : suc w - 1 ≡ w = omega arith in
    record {
      some = omega arith;
      enough = omega (arith, pow-suc 10 w, f.enough);
      needed = λ _. rw d (ten_times w n (ltb-false n 10 e) f);
    }

width_fewest : (k n : ℕ) → n < 10 ^ suc k → Fewest (width_in k n) n
unfolding width_in
width_fewest zero n h = record { some = omega arith; enough = h; needed = λ w. absurd (omega arith) }
width_fewest (suc k) n h = one_more_lem (ltb n 10) (width_in k (n / 10)) n refl (width_fewest k (n / 10) (omega (arith, pow-suc 10 (suc k))))

-- the 16 hex digits read again
pub hex_means : (x : ℕ) → x < 2 ^ 64 → value_of 16 (hex_of x) ≡ x
unfolding hex_of
hex_means x h = read_again 16 16 x (omega arith) (omega arith) h

-- the decimal digits read again, and they are the fewest
pub numeral_means : (n : ℕ) → n < 2 ^ 64 → (value_of 10 (numeral_of n) ≡ n) × Fewest (width_of n) n
unfolding numeral_of width_of
numeral_means n h =
    let f = width_fewest 19 n (omega arith) in
    (read_again 10 (width_in 19 n) n (omega arith) (omega arith) f.enough, f)
