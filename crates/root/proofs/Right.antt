-- `sqrt_of` is right: what it gives is the root that `specs/Nearest.antt` describes (`is_root`), and nothing else is (`only_root`).
use mathlib.Core.Path.{◌≡◌, refl, sym, subst}
use Prim.Native.Nat.{ℕ, zero, suc, ◌+◌, ◌-◌, ◌*◌, ◌/◌, ◌%◌, ◌^◌, ◌≤◌, ◌<◌}
use native.Mathlib.Nat.{le_of_lt, lt_irrefl}
use native.Mathlib.Omega.{arith}
use mathlib.Core.Bool.{true, false}
use lib.Dec.{T}
use lib.Ieee.{Float, nan, inf, fin, binary64, fits, to_bits}
use lib.Ieee.Bits.{of_bits-to_bits}
use Rattle.root.specs.Root.{lead, exponent, root_bits, sqrt_of}
use Rattle.root.specs.Nearest.{infinity, square, at, midpoint, fourfold, Closest, IsRoot}
use Rattle.root.proofs.Scaled.{exponent_range, long, long_floor, long_range, root_bits_is}
use Rattle.root.proofs.Cases.{Above, root_above, bits_range}
use Rattle.root.proofs.Unique.{one_root}
use Rattle.root.proofs.Midpoints.{low, high, fourfold_is, wide, unit}

-- The root of the finite number above zero whose pattern is b: no midpoint is the root itself, so both bounds are strict.
module _ (b : ℕ) (p : 0 < b) (f : b < infinity) where
  bits_in : root_bits b + 1 < infinity
  bits_in = omega (arith, root_bits_is b, exponent_range b p f, long_range b p)

  bits_pos : 0 < root_bits b
  bits_pos = omega (arith, root_bits_is b, long_range b p)

  strict : (square (midpoint (root_bits b - 1)) < 4 * (at b * 2 ^ 1074)) × (4 * (at b * 2 ^ 1074) < square (midpoint (root_bits b)))
  strict =
      let k = exponent b / 2 + 1 in
      let r = (long b + 1) / 2 in
      let from : lead ≤ r = omega (arith, long_range b p) in
      let to : r < 2 * lead = omega (arith, long_range b p) in
      let in_range : k * lead + r + 1 < infinity = omega (arith, root_bits_is b, bits_in) in
      let even : wide b % 2 ≡ 0 = omega arith in
      subst (λ (x : ℕ). (square (midpoint (root_bits b - 1)) < x) × (x < square (midpoint (root_bits b)))) (sym (fourfold_is b p f))
      (subst (λ (x : ℕ). (square (midpoint (x - 1)) < wide b * square (unit b)) × (wide b * square (unit b) < square (midpoint x))) (sym (root_bits_is b))
      (low k r from to in_range (wide b) (long b) (long_floor b p) refl even (long_range b p).0, high k r from to in_range (wide b) (long b) (long_floor b p) refl even (long_range b p).0))

closest : (x : Float) → T (fits binary64 x) → Above x → Closest x (sqrt_of x)
closest x t a =
    let b = to_bits binary64 x in
    let g = bits_range x t a in
    let s : (square (midpoint (root_bits b - 1)) < fourfold x) × (fourfold x < square (midpoint (root_bits b))) =
    subst (λ (y : Float). (square (midpoint (root_bits b - 1)) < fourfold y) × (fourfold y < square (midpoint (root_bits b)))) (of_bits-to_bits binary64 x t) (strict b g.0 g.1) in
    record {
      pattern = root_bits b;
      is = root_above x a;
      positive = bits_pos b g.0 g.1;
      finite = bits_in b g.0 g.1;
      low = le_of_lt s.0;
      high = le_of_lt s.1;
      even_low = λ e. absurd (apart e s.0);
      even_high = λ e. absurd (apart e s.1);
    }
  where
    apart : {a c : ℕ} → a ≡ c → a < c → ⊥
    apart {a} {c} e h = lt_irrefl c (subst (λ (y : ℕ). y < c) e h)

-- Every double has its root: `sqrt_of` gives it.
pub is_root : (x : Float) → T (fits binary64 x) → IsRoot x (sqrt_of x)
unfolding sqrt_of
is_root nan t = refl
is_root (inf true) t = refl
is_root (inf false) t = refl
is_root (fin true zero e) t = refl
is_root (fin false zero e) t = refl
is_root (fin true (suc m) e) t = refl
is_root (fin false (suc m) e) t = closest (fin false (suc m) e) t (m, e, refl)

-- And it is the only one: whatever is a root of x is what `sqrt_of` gives.
pub only_root : (x r : Float) → T (fits binary64 x) → IsRoot x r → r ≡ sqrt_of x
only_root x r t h = one_root x r (sqrt_of x) h (is_root x t)
