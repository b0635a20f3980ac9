-- Readings that passed one-way's checks are parted: each group has two readings or more.
use mathlib.Core.Path.{◌≡◌, refl}
use mathlib.Core.List.{List, [], ◌∷◌}
use mathlib.Core.Bool.{false}
use Prim.Native.Nat.{ℕ, ◌+◌, ◌≤◌}
use native.Mathlib.Omega.{arith}
use lib.Ieee.{Float}
use lib.ListN.{length, take, drop, length-drop}
use lib.Seq.{length-take-le}
use Rattle.base.specs.Lists.{total, cut}
use Rattle.base.specs.Refusals.{first_fault}
use Rattle.base.proofs.Order.{both_passed}
use Rattle.oneway_checks.specs.Checks.{group_fault, groups_refusal, one_way_refusal}
use Rattle.oneway_checks.proofs.Doors.{passed, two_there}
use Rattle.oneway_rows.specs.Soundness.{some_outside}
use Rattle.oneway_rows.specs.Inner.{Parted}
use Rattle.oneway_rows.proofs.Counted.{not_outside}

all_inside : (k : ℕ) (ns : List ℕ) (xs : List Float) → total ns ≤ length xs → length xs ≤ 512 → (groups_refusal k (cut ns xs)).number ≡ 0 → some_outside ns ≡ false
unfolding some_outside cut total first_fault
all_inside k [] xs l u z = refl
all_inside k (n ∷ ns) xs l u z =
    let p = both_passed (group_fault k (take n xs)) (groups_refusal (k + 1) (cut ns (drop n xs))) z in
    let e : length (take n xs) ≡ n = length-take-le n xs (omega arith) in
    let t = two_there k (take n xs) p.0 in
    let d = length-drop n xs in
    rw (not_outside 2 512 n (omega arith) (omega arith)) (all_inside (k + 1) ns (drop n xs) (omega arith) (omega arith) p.1)

pub parted : (xs : List Float) (ns : List ℕ) → (one_way_refusal xs ns).number ≡ 0 → Parted (length xs) ns
parted xs ns z =
    let p = passed xs ns z in
    record { sizes = p.sizes; each = all_inside 1 ns xs (omega (arith, p.sizes.adds)) p.sizes.readings p.fine }
