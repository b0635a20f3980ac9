-- What the checks leave known where they are passed.
use mathlib.Core.Path.{◌≡◌, refl, sym, ap, ◌∙◌}
use mathlib.Core.List.{List, [], ◌∷◌}
use Prim.Native.Nat.{ℕ, zero, suc, ◌+◌, ◌*◌, ◌≤◌}
use native.Mathlib.Nat.{suc-mul, zero-mul}
use native.Mathlib.Omega.{arith}
use borrow.Author.Tests.{ltb-false, eqb-true, eqb-false}
use lib.Dec.{ltb, eqb}
use lib.Ieee.{Float}
use lib.ListN.{length, take, drop, replicate, length-drop}
use lib.Seq.{length-take-le}
use Rattle.std.specs.Prelude.{Result, Ok, ⊤}
use Rattle.base.specs.declared.Refusal.{Refusal}
use Rattle.base.specs.Lists.{total, cut}
use Rattle.base.specs.Refusals.{refuse, when, unless, first_fault, verdict}
use Rattle.base.specs.Sizes.{sizes_refusal}
use Rattle.base.proofs.Sizes.{sized}
use Rattle.base.proofs.Order.{both_passed, no_fault, needed_there, was_passed}
use Rattle.repeated_checks.specs.Checks.{conditions, design_refusal, subject_fault, subjects_refusal, repeated_refusal}
use Rattle.repeated_checks.specs.Inner.{Passed}

-- the bounds of a design
abbrev Bounds : ℕ → ℕ → Type 0
Bounds n k = (k ≤ 12) × (2 ≤ n) × (2 ≤ k)

bounds : (n k : ℕ) → (design_refusal n k).number ≡ 0 → Bounds n k
unfolding design_refusal
bounds n k h =
    let p = both_passed (when (ltb 12 k) (refuse 11 4 k)) _ h in
    let q = both_passed (when (ltb n 2) (refuse 2 2 n)) (when (ltb k 2) (refuse 8 k 0)) p.1 in (
      ltb-false 12 k (no_fault (ltb 12 k) (refuse 11 4 k) (eqb-false 11 0 refl) p.0),
      ltb-false n 2 (no_fault (ltb n 2) (refuse 2 2 n) (eqb-false 2 0 refl) q.0),
      ltb-false k 2 (no_fault (ltb k 2) (refuse 8 k 0) (eqb-false 8 0 refl) q.1),
    )

-- a subject without a fault has k readings
row_fine : (k i : ℕ) (row : List Float) → (subject_fault k i row).number ≡ 0 → length row ≡ k
unfolding subject_fault
row_fine k i row h =
    let p = both_passed (unless (eqb (length row) k) (refuse 9 i (length row))) _ h in
    eqb-true (length row) k (needed_there (eqb (length row) k) (refuse 9 i (length row)) (eqb-false 9 0 refl) p.0)

-- subjects without a fault: their rows have k readings each
rows_fine : (k i : ℕ) (ns : List ℕ) (xs : List Float) → total ns ≡ length xs → (subjects_refusal k i (cut ns xs)).number ≡ 0 → ns ≡ replicate (length ns) k
unfolding first_fault cut total
rows_fine k i [] xs t h = refl
rows_fine k i (n ∷ ns) xs t h =
    let p = both_passed (subject_fault k i (take n xs)) (subjects_refusal k (i + 1) (cut ns (drop n xs))) h in
    let l : n ≡ k = sym (length-take-le n xs (omega (arith, t))) ∙ row_fine k i (take n xs) p.0 in
    let r = rows_fine k (i + 1) ns (drop n xs) (rw length-drop (omega (arith, t))) p.1 in
    ap (λ (m : ℕ). m ∷ ns) l ∙ ap (λ (ms : List ℕ). k ∷ ms) r

total_replicate : (n k : ℕ) → total (replicate n k) ≡ n * k
unfolding total
total_replicate zero k = sym (zero-mul k)
total_replicate (suc n) k = omega (arith, total_replicate n k, suc-mul n k)

-- all the checks
pub passed : (xs : List Float) (ns : List ℕ) → (repeated_refusal xs ns).number ≡ 0 → Passed xs ns (length ns) (conditions ns)
unfolding repeated_refusal
passed xs ns h =
    let p = both_passed (sizes_refusal 64 3 (length xs) ns) _ h in
    let q = both_passed (design_refusal (length ns) (conditions ns)) (subjects_refusal (conditions ns) 1 (cut ns xs)) p.1 in
    let s = sized 64 3 (length xs) ns p.0 in
    let b = bounds (length ns) (conditions ns) q.0 in
    let r = rows_fine (conditions ns) 1 ns xs s.adds q.1 in
    record {
      subjects = refl;
      conditions = refl;
      low_n = b.1;
      high_n = s.rows;
      low_k = b.2;
      high_k = b.0;
      few = s.readings;
      all = sym s.adds ∙ ap total r ∙ total_replicate (length ns) (conditions ns);
      rows = r;
    }

-- as the analysis learns it from what the checks said
pub shown : {xs : List Float} {ns : List ℕ} {x : Result ⊤ Refusal} → x ≡ verdict (repeated_refusal xs ns) → x ≡ Ok tt → Passed xs ns (length ns) (conditions ns)
shown {xs} {ns} told e = passed xs ns (was_passed _ tt told e)
