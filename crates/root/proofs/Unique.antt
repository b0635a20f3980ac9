-- Each double has at most one root: two doubles that `Closest` holds of have the same pattern.
use mathlib.Core.Path.{◌≡◌, sym, ap, ◌∙◌, subst}
use mathlib.Core.Logic.{inl, inr}
use Prim.Native.Nat.{ℕ, zero, suc, ◌+◌, ◌-◌, ◌%◌, ◌≤◌, ◌<◌}
use native.Mathlib.Nat.{le_of_lt, lt_of_lt_of_le, lt_of_le_of_lt, le_antisymm, lt_irrefl, eq-or-lt_of_le, add-lt-add_of_le_of_lt}
use native.Mathlib.Omega.{arith}
use mathlib.Core.Bool.{Bool, true, false, not}
use lib.Dec.{T, ltb, ltb→lt, nltb→le}
use lib.Ieee.{Float, nan, inf, fin, binary64, of_bits}
use Rattle.root.specs.Nearest.{infinity, square, midpoint, fourfold, Closest, IsRoot}
use Rattle.root.proofs.Patterns.{at_next, at_mono}
use Rattle.root.proofs.Longer.{square_lt}

module _ (x r s : Float) (p : Closest x r) (q : Closest x s) where
  -- Were one pattern lower, its upper midpoint would be below the lower midpoint of the other; or it would be the same, and two neighbours both even.
  not_below : p.pattern < q.pattern → ⊥
  not_below h = elim (eq-or-lt_of_le (lower h)) [
    | inl e ↦
        let same : fourfold x ≡ square (midpoint p.pattern) = le_antisymm p.high (subst (λ (b : ℕ). square (midpoint b) ≤ fourfold x) (sym e) q.low) in
        odd_even e (p.even_high same) (q.even_low (ap (λ (b : ℕ). square (midpoint b)) (sym e) ∙ sym same))
    | inr l ↦
        lt_irrefl (fourfold x)
        (lt_of_le_of_lt p.high
        (lt_of_lt_of_le
        (square_lt (midpoint p.pattern) (midpoint (q.pattern - 1))
        (add-lt-add_of_le_of_lt (at_mono p.pattern (q.pattern - 1) (le_of_lt l) (under q.finite))
        (lt_of_lt_of_le (at_next (p.pattern + 1) (under_two l q.finite)) (at_mono (p.pattern + 1 + 1) (q.pattern - 1 + 1) (two_up l) (under_one h q.finite)))))
        q.low))
  ]
    where
      lower : p.pattern < q.pattern → p.pattern ≤ q.pattern - 1
      lower g = omega arith

      odd_even : p.pattern ≡ q.pattern - 1 → p.pattern % 2 ≡ 0 → q.pattern % 2 ≡ 0 → ⊥
      odd_even a b c = omega (arith, q.positive)

      under : q.pattern + 1 < infinity → q.pattern - 1 < infinity
      under g = omega arith

      under_one : p.pattern < q.pattern → q.pattern + 1 < infinity → q.pattern - 1 + 1 < infinity
      under_one g k = omega arith

      under_two : p.pattern < q.pattern - 1 → q.pattern + 1 < infinity → p.pattern + 1 + 1 < infinity
      under_two g k = omega arith

      two_up : p.pattern < q.pattern - 1 → p.pattern + 1 + 1 ≤ q.pattern - 1 + 1
      two_up g = omega arith

closest_only : (x r s : Float) → Closest x r → Closest x s → r ≡ s
closest_only x r s p q = p.is ∙ ap (of_bits binary64) (le_antisymm (not_over q.pattern p.pattern (not_below x s r q p)) (not_over p.pattern q.pattern (not_below x r s p q))) ∙ sym q.is
  where
    not_over : (a b : ℕ) → (a < b → ⊥) → b ≤ a
    not_over a b h = go (ltb a b) (ltb→lt a b) (nltb→le a b)
      where
        go : (t : Bool) → (T t → a < b) → (T (not t) → b ≤ a) → b ≤ a
        go true f g = absurd (h (f tt))
        go false f g = g tt

pub one_root : (x r s : Float) → IsRoot x r → IsRoot x s → r ≡ s
one_root nan r s p q = p ∙ sym q
one_root (inf true) r s p q = p ∙ sym q
one_root (inf false) r s p q = p ∙ sym q
one_root (fin true zero e) r s p q = p ∙ sym q
one_root (fin false zero e) r s p q = p ∙ sym q
one_root (fin true (suc m) e) r s p q = p ∙ sym q
one_root (fin false (suc m) e) r s p q = closest_only (fin false (suc m) e) r s p q
