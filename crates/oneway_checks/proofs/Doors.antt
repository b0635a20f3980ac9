-- What the checks leave known where they are passed.
use mathlib.Core.Path.{◌≡◌, refl}
use mathlib.Core.List.{List}
use Prim.Native.Nat.{ℕ, ◌+◌, ◌<◌, ◌≤◌}
use native.Mathlib.Omega.{arith}
use borrow.Author.Tests.{ltb-false, leb-false, eqb-false}
use lib.Dec.{ltb, leb}
use lib.Ieee.{Float}
use lib.ListN.{length, take, get_or}
use Rattle.base.specs.Lists.{total, cut}
use Rattle.std.specs.Prelude.{Result, Ok, ⊤}
use Rattle.base.specs.declared.Refusal.{Refusal}
use Rattle.base.specs.Refusals.{refuse, when, verdict}
use Rattle.base.specs.Inner.{Sized}
use Rattle.base.specs.Limits.{most_groups}
use Rattle.base.specs.Sizes.{sizes_refusal}
use Rattle.base.proofs.Sizes.{sized}
use Rattle.base.proofs.Order.{both_passed, no_fault, was_passed}
use Rattle.base.proofs.Cuts.{total_split, total_turn}
use Rattle.stats.specs.Sums.{has_nan}
use Rattle.oneway_checks.specs.Checks.{group_fault, groups_refusal, one_way_refusal, view_refusal}

-- all the one-way checks
pub record Passed (xs : List Float) (ns : List ℕ) : Type 0 where
  pub sizes : Sized most_groups (length xs) ns
  pub two : 2 ≤ length ns
  pub fine : (groups_refusal 1 (cut ns xs)).number ≡ 0

pub passed : (xs : List Float) (ns : List ℕ) → (one_way_refusal xs ns).number ≡ 0 → Passed xs ns
unfolding one_way_refusal
passed xs ns h =
    let p = both_passed (sizes_refusal 16 1 (length xs) ns) _ h in
    let q = both_passed (when (ltb (length ns) 2) (refuse 3 (length ns) 0)) (groups_refusal 1 (cut ns xs)) p.1 in
    record {
      sizes = sized 16 1 (length xs) ns p.0;
      two = ltb-false (length ns) 2 (no_fault (ltb (length ns) 2) (refuse 3 (length ns) 0) (eqb-false 3 0 refl) q.0);
      fine = q.1;
    }

-- a view that is not refused: its group is there, and ends within the readings
pub record Viewed (xs : List Float) (ns : List ℕ) (g : ℕ) : Type 0 where
  pub sizes : Sized most_groups (length xs) ns
  pub there : g < length ns
  pub ends : total (take g ns) + get_or ns g 0 ≤ length xs

pub viewed : (xs : List Float) (ns : List ℕ) (g : ℕ) → (view_refusal xs ns g).number ≡ 0 → Viewed xs ns g
unfolding view_refusal
viewed xs ns g h =
    let p = both_passed (sizes_refusal 16 1 (length xs) ns) (when (leb (length ns) g) (refuse 14 g 0)) h in
    let s = sized 16 1 (length xs) ns p.0 in
    let t : g < length ns = leb-false (length ns) g (no_fault (leb (length ns) g) (refuse 14 g 0) (eqb-false 14 0 refl) p.1) in
    record { sizes = s; there = t; ends = omega (arith, total_split ns g, total_turn ns g t) }

-- a group without a fault has two readings
pub two_there : (k : ℕ) (group : List Float) → (group_fault k group).number ≡ 0 → 2 ≤ length group
unfolding group_fault
two_there k group h =
    let p = both_passed (when (ltb (length group) 2) (refuse 2 2 (length group))) (when (has_nan group) (refuse 4 k 0)) h in
    ltb-false (length group) 2 (no_fault (ltb (length group) 2) (refuse 2 2 (length group)) (eqb-false 2 0 refl) p.0)

-- as `group` learns it from the answer of its companion
pub shown : {xs : List Float} {ns : List ℕ} {g : ℕ} {x : Result ⊤ Refusal} → x ≡ verdict (view_refusal xs ns g) → x ≡ Ok tt → Viewed xs ns g
shown {xs} {ns} {g} told e = viewed xs ns g (was_passed _ tt told e)
