-- A number has one root, cut to a whole number, and `isqrt` is it.
use mathlib.Core.Path.{◌≡◌, sym, ap, ◌∙◌, subst}
use Prim.Native.Nat.{ℕ, zero, suc, ◌+◌, ◌*◌, ◌/◌, ◌^◌, ◌≤◌, ◌<◌}
use native.Mathlib.Nat.{le_antisymm, le_of_suc-le-suc, lt_of_le_of_lt, zero-lt-suc, div-lt_iff_lt-mul, pow-suc, mul_assoc, mul_left_comm}
use native.Mathlib.Numerals.{add-one}
use native.Mathlib.Omega.{arith}
use mathlib.Core.Bool.{Bool, true, false, not, cond}
use lib.Dec.{T, leb, leb→le, nleb→lt}
use Rattle.root.specs.Root.{grow, isqrt}
use Rattle.root.specs.Inner.{IsFloor}
use Rattle.root.proofs.Longer.{root_lt}

floor_le : (n r s : ℕ) → IsFloor n r → IsFloor n s → r ≤ s
floor_le n r s f g = le_of_suc-le-suc (subst (λ (x : ℕ). r < x) (add-one s) (root_lt r (s + 1) (lt_of_le_of_lt f.0 g.1)))

pub floor_unique : (n r s : ℕ) → IsFloor n r → IsFloor n s → r ≡ s
floor_unique n r s f g = le_antisymm (floor_le n r s f g) (floor_le n s r g f)

pub four : (r : ℕ) → 2 * r * (2 * r) ≡ 4 * (r * r)
four r = mul_assoc 2 r (2 * r) ∙ ap (λ (x : ℕ). 2 * x) (mul_left_comm r 2 r) ∙ sym (mul_assoc 2 2 (r * r))

grow_floor : (n r : ℕ) → IsFloor (n / 4) r → IsFloor n (grow n r)
grow_floor n r f = go (leb ((2 * r + 1) * (2 * r + 1)) n) (leb→le ((2 * r + 1) * (2 * r + 1)) n) (nleb→lt ((2 * r + 1) * (2 * r + 1)) n)
  where
    next : 2 * r + 1 + 1 ≡ 2 * (r + 1)
    next = omega arith

    top : n < (2 * r + 1 + 1) * (2 * r + 1 + 1)
    top = subst (λ (x : ℕ). n < x * x) (sym next) (subst (λ (x : ℕ). n < x) (sym (four (r + 1))) (omega (arith, f.1)))

    go : (b : Bool) → (T b → (2 * r + 1) * (2 * r + 1) ≤ n) → (T (not b) → n < (2 * r + 1) * (2 * r + 1)) → IsFloor n (cond b (2 * r + 1) (2 * r))
    go true h k = (h tt, top)
    go false h k = (omega (arith, f.0, four r), k tt)

pub isqrt_floor : (d n : ℕ) → n < 4 ^ d → IsFloor n (isqrt d n)
unfolding isqrt
isqrt_floor zero n h = (omega arith, h)
isqrt_floor (suc d) n h = grow_floor n (isqrt d (n / 4)) (isqrt_floor d (n / 4) ((div-lt_iff_lt-mul (zero-lt-suc 3)).1 (subst (λ (x : ℕ). n < x) (pow-suc 4 d) h)))
