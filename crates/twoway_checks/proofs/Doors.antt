-- What the two-way checks leave known where they are passed.
use mathlib.Core.Path.{◌≡◌, refl, sym, ap, ◌∙◌}
use mathlib.Core.Bool.{◌&&◌}
use mathlib.Core.List.{List, [], ◌∷◌, ◌++◌}
use Prim.Native.Nat.{ℕ, zero, suc, ◌+◌, ◌-◌, ◌*◌, ◌/◌, ◌%◌, ◌≤◌, ◌<◌, suc-le-suc}
use native.Mathlib.Nat.{not-suc-le-zero, le_of_suc-le-suc}
use native.Mathlib.Omega.{arith}
use borrow.Author.Tests.{ltb-false, eqb-true, eqb-false}
use lib.Dec.{ltb, eqb}
use lib.Ieee.{Float}
use lib.ListN.{length, get_or, take, replicate}
use lib.Seq.{take_at}
use Rattle.std.specs.Prelude.{Result, Ok, ⊤}
use Rattle.base.specs.declared.Refusal.{Refusal}
use Rattle.base.specs.Lists.{total, over}
use Rattle.base.specs.Refusals.{refuse, when, unless, first_fault, verdict}
use Rattle.base.proofs.Bounds.{product_le}
use Rattle.base.proofs.Faults.{both}
use Rattle.base.proofs.Order.{both_passed, no_fault, needed_there, was_passed}
use Rattle.twoway_checks.specs.Cells.{cell_counts}
use Rattle.twoway_checks.specs.Checks.{largest, levels, shape_refusal, levels_refusal, empty_refusal, cells_refusal, two_way_refusal}
use Rattle.twoway_checks.specs.Inner.{Coded, Leveled, keys, tally}
use Rattle.twoway_checks.specs.Data.{no_counts}
use Rattle.twoway_checks.proofs.Keys.{length_counts, counts_padded, sorted_counts, coded_keys, coded_below}
use Rattle.twoway_checks.proofs.Tallies.{total_zeros, total_tally, tally_sorted}

-- the scratch, the lengths and the readings
pub record Shaped (xs : List Float) (us vs : List ℕ) (lent : ℕ) : Type 0 where
  pub places : 6400 ≤ lent
  pub readings : length xs ≤ 512
  pub same_a : length us ≡ length xs
  pub same_b : length vs ≡ length xs

-- all of it, with a = levels us and b = levels vs: each of the a * b cells has a reading, each reading is in one cell, and there is one more than cells
pub record Passed (xs : List Float) (us vs : List ℕ) (lent : ℕ) : Type 0 where
  pub shape : Shaped xs us vs lent
  pub design : Leveled xs us vs (levels us) (levels vs)
  pub filled : (c : ℕ) → c < levels us * levels vs → 1 ≤ get_or (cell_counts (levels us) (levels vs) xs us vs) c 0
  pub adds : total (cell_counts (levels us) (levels vs) xs us vs) ≡ length xs
  pub more : levels us * levels vs + 1 ≤ length xs

pub shaped : (xs : List Float) (us vs : List ℕ) (lent : ℕ) → (shape_refusal xs us vs lent).number ≡ 0 → Shaped xs us vs lent
unfolding shape_refusal
shaped xs us vs lent h =
    let p = both_passed (when (ltb lent 6400) (refuse 12 6400 lent)) _ h in
    let q = both_passed (when (ltb 512 (length xs)) (refuse 11 2 (length xs))) _ p.1 in
    let r = both_passed (unless (eqb (length us) (length xs) && eqb (length vs) (length xs)) (refuse 5 (length us) (length vs))) _ q.1 in
    let t = both (eqb (length us) (length xs)) (eqb (length vs) (length xs)) (needed_there _ (refuse 5 (length us) (length vs)) (eqb-false 5 0 refl) r.0) in
    record {
      places = ltb-false lent 6400 (no_fault (ltb lent 6400) (refuse 12 6400 lent) (eqb-false 12 0 refl) p.0);
      readings = ltb-false 512 (length xs) (no_fault (ltb 512 (length xs)) (refuse 11 2 (length xs)) (eqb-false 11 0 refl) q.0);
      same_a = eqb-true (length us) (length xs) t.0;
      same_b = eqb-true (length vs) (length xs) t.1;
    }

in_range : (a b : ℕ) → (levels_refusal a b).number ≡ 0 → (a ≤ 6) × (b ≤ 6) × (2 ≤ a) × (2 ≤ b)
unfolding levels_refusal
in_range a b h =
    let p = both_passed (when (ltb 6 a) (refuse 11 5 a)) _ h in
    let q = both_passed (when (ltb 6 b) (refuse 11 6 b)) _ p.1 in
    let r = both_passed (when (ltb a 2) (refuse 6 1 a)) (when (ltb b 2) (refuse 6 2 b)) q.1 in (
      ltb-false 6 a (no_fault (ltb 6 a) (refuse 11 5 a) (eqb-false 11 0 refl) p.0),
      ltb-false 6 b (no_fault (ltb 6 b) (refuse 11 6 b) (eqb-false 11 0 refl) q.0),
      ltb-false a 2 (no_fault (ltb a 2) (refuse 6 1 a) (eqb-false 6 0 refl) r.0),
      ltb-false b 2 (no_fault (ltb b 2) (refuse 6 2 b) (eqb-false 6 0 refl) r.1),
    )

pub leveled : (xs : List Float) (us vs : List ℕ) (lent a b : ℕ) → (shape_refusal xs us vs lent).number ≡ 0 → a ≡ levels us → b ≡ levels vs → (levels_refusal a b).number ≡ 0 → Leveled xs us vs a b
leveled xs us vs lent a b h p q k =
    let s = shaped xs us vs lent h in
    let r = in_range a b k in
    record {
      readings = s.readings;
      same_a = s.same_a;
      same_b = s.same_b;
      levels_a = p;
      levels_b = q;
      low_a = r.2;
      low_b = r.3;
      high_a = r.0;
      high_b = r.1;
    }

-- the same from what both checks handed back, where m and n are the largest codes
pub leveled_told : (xs : List Float) (us vs : List ℕ) (lent : ℕ) {x y : Result ⊤ Refusal} → x ≡ verdict (shape_refusal xs us vs lent) → x ≡ Ok tt
    → (m n : ℕ) → m ≡ largest us → n ≡ largest vs → y ≡ verdict (levels_refusal (m + 1) (n + 1)) → y ≡ Ok tt → Leveled xs us vs (levels us) (levels vs)
leveled_told xs us vs lent t e m n p q u f =
    leveled xs us vs lent (levels us) (levels vs) (was_passed _ tt t e) refl refl (rw (← p, ← q) (was_passed _ tt u f))

total_append : (ns ms : List ℕ) → total (ns ++ ms) ≡ total ns + total ms
unfolding total
total_append [] ms = omega arith
total_append (n ∷ ns) ms = omega (arith, total_append ns ms)

-- counting the readings of a design
module _ (xs : List Float) (us vs : List ℕ) (a b : ℕ) (k : Leveled xs us vs a b) where
  pub coded : Coded us vs b
  coded =
      record {
        same = k.same_a ∙ sym k.same_b;
        few = omega (arith, k.same_a, k.readings);
        below = omega (arith, k.levels_a, k.high_a);
        within = omega (arith, k.levels_b);
        most = k.high_b;
      }

  pub at_most_36 : a * b ≤ 36
  at_most_36 = product_le 6 6 k.high_a k.high_b

  same_keys : length (keys b us vs) ≡ length xs
  same_keys = coded_keys us vs b coded ∙ k.same_a

  pub tally_counts : tally (keys b us vs) ≡ over (cell_counts a b xs us vs) no_counts
  tally_counts =
      tally_sorted (keys b us vs) (coded_below us vs b coded) xs same_keys
      ∙ sorted_counts a b xs us vs k.same_a k.same_b (omega (arith, k.levels_a)) (omega (arith, k.levels_b)) at_most_36

  pub first_counts : take (a * b) (over (cell_counts a b xs us vs) no_counts) ≡ cell_counts a b xs us vs
  first_counts = take_at (cell_counts a b xs us vs) _ (a * b) (length_counts a b xs us vs)

  -- each reading is in one cell
  pub total_counts : total (cell_counts a b xs us vs) ≡ length xs
  total_counts =
      let t : total (tally (keys b us vs)) ≡ length xs = total_tally (keys b us vs) (coded_below us vs b coded) ∙ same_keys in
      let p : total (tally (keys b us vs)) ≡ total (cell_counts a b xs us vs ++ replicate {A = ℕ} (36 - a * b) 0) = ap total (tally_counts ∙ counts_padded a b xs us vs) in
      omega (arith, total_append (cell_counts a b xs us vs) (replicate {A = ℕ} (36 - a * b) 0), total_zeros (36 - a * b))

-- where no cell is empty each count is 1 or more
no_empty : (b k : ℕ) (ns : List ℕ) → (empty_refusal b k ns).number ≡ 0 → (c : ℕ) → c < length ns → 1 ≤ get_or ns c 0
unfolding first_fault
no_empty b k [] e c h = absurd (not-suc-le-zero h)
no_empty b k (n ∷ ns) e zero h =
    let p = both_passed (when (eqb n 0) (refuse 7 (k / b) (k % b))) (empty_refusal b (k + 1) ns) e in
    let z = eqb-false n 0 (no_fault (eqb n 0) (refuse 7 (k / b) (k % b)) (eqb-false 7 0 refl) p.0) in
    omega arith
no_empty b k (n ∷ ns) e (suc c) h =
    let p = both_passed (when (eqb n 0) (refuse 7 (k / b) (k % b))) (empty_refusal b (k + 1) ns) e in
    no_empty b (k + 1) ns p.1 c (le_of_suc-le-suc h)

many : (ns : List ℕ) → ((c : ℕ) → c < length ns → 1 ≤ get_or ns c 0) → length ns ≤ total ns
unfolding total
many [] e = omega arith
many (n ∷ ns) e = omega (arith, e 0 (omega arith), many ns (λ c h. e (suc c) (suc-le-suc h)))

pub passed : (xs : List Float) (us vs : List ℕ) (lent : ℕ) → (two_way_refusal xs us vs lent).number ≡ 0 → Passed xs us vs lent
unfolding two_way_refusal cells_refusal
passed xs us vs lent h =
    let a : ℕ = levels us in
    let b : ℕ = levels vs in
    let ns : List ℕ = cell_counts a b xs us vs in
    let p = both_passed (shape_refusal xs us vs lent) _ h in
    let q = both_passed (levels_refusal a b) _ p.1 in
    let r = both_passed (empty_refusal b 0 ns) (when (eqb (length xs) (a * b)) (refuse 2 (a * b + 1) (length xs))) q.1 in
    let k = leveled xs us vs lent a b p.0 refl refl q.0 in
    let f : (c : ℕ) → c < length ns → 1 ≤ get_or ns c 0 = no_empty b 0 ns r.0 in
    let n = length_counts a b xs us vs in
    let t = total_counts xs us vs a b k in
    let z = eqb-false (length xs) (a * b) (no_fault (eqb (length xs) (a * b)) (refuse 2 (a * b + 1) (length xs)) (eqb-false 2 0 refl) r.1) in
    record {
      shape = shaped xs us vs lent p.0;
      design = k;
      filled = λ c l. f c (rw n l);
      adds = t;
      more = omega (arith, many ns f);
    }
