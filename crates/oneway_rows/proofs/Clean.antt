-- Groups that one-way accepts.
use mathlib.Core.Path.{◌≡◌, refl}
use mathlib.Core.Bool.{false}
use mathlib.Core.List.{List, [], ◌∷◌, map, flatten}
use Prim.Native.Nat.{ℕ, zero, suc, ◌+◌, ◌≤◌, ◌<◌}
use native.Mathlib.Nat.{not-suc-le-zero, le_of_suc-le-suc}
use native.Mathlib.Omega.{arith}
use borrow.Author.Tests.{le-ltb, eq-eqb, eqb-false}
use lib.Dec.{ltb}
use lib.Ieee.{Float}
use lib.ListN.{length, get_or, set, length-append, length-map}
use lib.Seq.{length-take-le}
use Rattle.base.specs.Lists.{total, cut}
use Rattle.base.specs.Refusals.{refuse, none, when, first_fault}
use Rattle.base.proofs.Cuts.{length_cut, flatten_cut, own_cut, total_flatten}
use Rattle.base.proofs.Order.{both_passed, no_fault}
use Rattle.stats.specs.Sums.{some, has_nan}
use Rattle.base.specs.Sizes.{sizes_refusal}
use Rattle.oneway_checks.specs.Checks.{group_fault, groups_refusal, one_way_refusal}
use Rattle.oneway_rows.specs.Soundness.{some_outside}
use Rattle.oneway_rows.proofs.Counted.{not_outside}
use Rattle.oneway_checks.proofs.Doors.{passed, two_there}

-- each group has two readings, and no NaN
abbrev pub Clean : List (List Float) → Type 0
Clean [] = Unit {0}
Clean (xs ∷ gs) = (2 ≤ length xs) × (has_nan xs ≡ false) × Clean gs

clean_passes : (k : ℕ) (gs : List (List Float)) → Clean gs → groups_refusal k gs ≡ none
unfolding first_fault group_fault
clean_passes k [] c = refl
clean_passes k (xs ∷ gs) c = rw (le-ltb (length xs) 2 c.0, c.1) (clean_passes (k + 1) gs c.2)

passed_clean : (k : ℕ) (gs : List (List Float)) → (groups_refusal k gs).number ≡ 0 → Clean gs
unfolding first_fault group_fault
passed_clean k [] z = tt
passed_clean k (xs ∷ gs) z =
    let p = both_passed (group_fault k xs) (groups_refusal (k + 1) gs) z in
    let q = both_passed (when (ltb (length xs) 2) (refuse 2 2 (length xs))) (when (has_nan xs) (refuse 4 k 0)) p.0 in
    (two_there k xs p.0, no_fault (has_nan xs) (refuse 4 k 0) (eqb-false 4 0 refl) q.1, passed_clean (k + 1) gs p.1)

pub clean_at : (gs : List (List Float)) (g : ℕ) → Clean gs → has_nan (get_or gs g []) ≡ false
unfolding some
clean_at [] g c = refl
clean_at (xs ∷ gs) zero c = c.1
clean_at (xs ∷ gs) (suc g) c = clean_at gs g c.2

pub clean_long : (gs : List (List Float)) (g : ℕ) → Clean gs → g < length gs → 2 ≤ length (get_or gs g [])
clean_long [] g c h = absurd (not-suc-le-zero h)
clean_long (xs ∷ gs) zero c h = c.0
clean_long (xs ∷ gs) (suc g) c h = clean_long gs g c.2 (le_of_suc-le-suc h)

pub clean_set : (gs : List (List Float)) (g : ℕ) (ys : List Float) → Clean gs → 2 ≤ length ys → has_nan ys ≡ false → Clean (set gs g ys)
clean_set [] g ys c l n = tt
clean_set (xs ∷ gs) zero ys c l n = (l, n, c.2)
clean_set (xs ∷ gs) (suc g) ys c l n = (c.0, c.1, clean_set gs g ys c.2 l n)

pub clean_inside : (gs : List (List Float)) → Clean gs → length (flatten gs) ≤ 512 → some_outside (map length gs) ≡ false
unfolding some_outside flatten
clean_inside [] c h = refl
clean_inside (xs ∷ gs) c h =
    let k : length xs + length (flatten gs) ≤ 512 = rw length-append at h in
    rw (not_outside 2 512 (length xs) c.0 (omega arith)) (clean_inside gs c.2 (omega arith))

-- what the checks ask of groups
pub record Good (gs : List (List Float)) : Type 0 where
  pub few : 2 ≤ length gs
  pub many : length gs ≤ 16
  pub fits : length (flatten gs) ≤ 512
  pub clean : Clean gs

pub passed_good : (xs : List Float) (ns : List ℕ) → (one_way_refusal xs ns).number ≡ 0 → Good (cut ns xs)
passed_good xs ns z =
    let p = passed xs ns z in
    let a = p.sizes.adds in
    record {
      few = rw (length_cut ns xs) p.two;
      many = rw (length_cut ns xs) p.sizes.rows;
      fits = rw (flatten_cut ns xs, length-take-le (total ns) xs (omega arith)) (omega (arith, p.sizes.readings));
      clean = passed_clean 1 (cut ns xs) p.fine;
    }

pub good_passes : (gs : List (List Float)) → Good gs → one_way_refusal (flatten gs) (map length gs) ≡ none
unfolding one_way_refusal sizes_refusal
good_passes gs k =
    let l : length (map length gs) ≡ length gs = length-map gs length in
    rw (
      le-ltb 16 (length (map length gs)) (omega (arith, k.many)),
      le-ltb 512 (length (flatten gs)) k.fits,
      eq-eqb (total (map length gs)) (length (flatten gs)) (total_flatten gs),
      le-ltb (length (map length gs)) 2 (omega (arith, k.few)),
      own_cut gs,
    ) (clean_passes 1 gs k.clean)
