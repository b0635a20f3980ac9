-- What the check of the sizes leaves known, and the sum of the first sizes.
use mathlib.Core.Path.{◌≡◌, refl, ap}
use mathlib.Core.List.{List}
use Prim.Native.Nat.{ℕ, ◌+◌, ◌<◌, ◌≤◌}
use native.Mathlib.Omega.{arith}
use borrow.Author.Tests.{ltb-false, eqb-true, eqb-false}
use lib.Dec.{ltb, eqb}
use lib.ListN.{length, take, get_or}
use lib.Seq.{take_all}
use Rattle.base.specs.Lists.{total}
use Rattle.base.specs.Refusals.{refuse, when}
use Rattle.base.specs.Inner.{Sized}
use Rattle.base.specs.Sizes.{sizes_refusal}
use Rattle.base.proofs.Cuts.{total_split, total_turn}
use Rattle.base.proofs.Order.{both_passed, no_fault, needed_there}

pub sized : (most which n : ℕ) (ns : List ℕ) → (sizes_refusal most which n ns).number ≡ 0 → Sized most n ns
unfolding sizes_refusal
sized most which n ns h =
    let p = both_passed (when (ltb most (length ns)) (refuse 11 which (length ns))) _ h in
    let q = both_passed (when (ltb 512 n) (refuse 11 2 n)) _ p.1 in
    record {
      rows = ltb-false most (length ns) (no_fault (ltb most (length ns)) (refuse 11 which (length ns)) (eqb-false 11 0 refl) p.0);
      readings = ltb-false 512 n (no_fault (ltb 512 n) (refuse 11 2 n) (eqb-false 11 0 refl) q.0);
      adds = eqb-true (total ns) n (needed_there (eqb (total ns) n) (refuse 10 (total ns) n) (eqb-false 10 0 refl) q.1);
    }

-- the sum of the first i + 1 sizes
pub total_next : (ns : List ℕ) (i : ℕ) → i < length ns → total (take (i + 1) ns) ≡ total (take i ns) + get_or ns i 0
total_next ns i h = omega (arith, total_split ns i, total_split ns (i + 1), total_turn ns i h)

-- beyond the last size there is nothing to add
pub total_whole : (ns : List ℕ) (n : ℕ) → length ns ≤ n → total (take n ns) ≡ total ns
total_whole ns n h = ap total (take_all n ns h)
