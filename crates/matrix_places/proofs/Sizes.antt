-- What a size that is not refused leaves known.
use Prim.Native.Nat.{ℕ, ◌*◌, ◌<◌, ◌≤◌}
use mathlib.Core.Path.{◌≡◌, sym, ◌∙◌}
use mathlib.Core.Bool.{false}
use native.Mathlib.Omega.{arith}
use borrow.Author.Tests.{ne_eqb, le-ltb, eqb-false, ltb-false}
use lib.Dec.{eqb, ltb}
use Rattle.base.proofs.Faults.{neither}
use Rattle.matrix_places.specs.Places.{refuses}
use Rattle.base.specs.Limits.{most_conditions}

room_asked : (most p k len : ℕ) → (p ≡ 0 → ⊥) → p ≤ most → p ≤ most_conditions → (k ≡ 0 → ⊥) → k ≤ most_conditions → ltb len (p * k) ≡ refuses most p k len
unfolding refuses
room_asked most p k len a b f d h = rw (ne_eqb p 0 a, le-ltb most p b, le-ltb most_conditions p f, ne_eqb k 0 d, le-ltb most_conditions k h)

-- what is known where the rows are taken
pub record Sized (most p k len : ℕ) : Type 0 where
  pub some_rows : 0 < p
  pub few_rows : p ≤ most
  pub some_places : 0 < k
  pub few_places : k ≤ most_conditions
  pub held : p * k ≤ len

pub sized : (most p k len : ℕ) → refuses most p k len ≡ false → Sized most p k len
unfolding refuses
sized most p k len e =
    let one = neither (eqb p 0) _ e in
    let two = neither (ltb most p) _ one.1 in
    let three = neither (ltb most_conditions p) _ two.1 in
    let four = neither (eqb k 0) _ three.1 in
    let five = neither (ltb most_conditions k) _ four.1 in
    record {
      some_rows = above p (eqb-false p 0 one.0);
      few_rows = ltb-false most p two.0;
      some_places = above k (eqb-false k 0 four.0);
      few_places = ltb-false most_conditions k five.0;
      held = ltb-false len (p * k) five.1;
    }
  where
    above : (x : ℕ) → (x ≡ 0 → ⊥) → 0 < x
    above x n = omega (arith, n)

-- rows with all of that are taken, where no more are asked for than there may be conditions
pub not_refused : (most p k len : ℕ) → most ≤ most_conditions → Sized most p k len → refuses most p k len ≡ false
not_refused most p k len m s =
    sym (room_asked most p k len (λ z. omega (arith, s.some_rows, z)) s.few_rows (omega (arith, m, s.few_rows)) (λ z. omega (arith, s.some_places, z)) s.few_places)
    ∙ le-ltb len (p * k) s.held
