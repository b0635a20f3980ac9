-- Laws of the tally: each reading makes its key's count one more.
use mathlib.Core.Path.{◌≡◌, refl, sym, ap, ◌∙◌}
use mathlib.Core.Bool.{Bool, true, false, cond}
use mathlib.Core.List.{List, [], ◌∷◌, map, foldl}
use Prim.Native.Nat.{ℕ, zero, suc, ◌+◌, ◌≤◌, ◌<◌, suc-le-suc}
use native.Mathlib.Nat.{not-suc-le-zero, le_of_suc-le-suc}
use native.Mathlib.Omega.{arith}
use borrow.Author.Tests.{eqb-true, eqb-false}
use lib.Dec.{eqb}
use lib.Ieee.{Float}
use lib.ListN.{length, get_or, replicate, length-set, length-map, length-replicate, get_or-replicate, get_or-map}
use lib.Seq.{get_or-set_same, get_or-set_other, ext_get_or}
use Rattle.base.specs.Lists.{total}
use Rattle.twoway_checks.specs.Data.{no_counts}
use Rattle.twoway_checks.specs.Inner.{keyed, sorted, bump, tally}
use Rattle.twoway_checks.proofs.Keys.{Below, numbers_at, length_numbers}

pub count_le_total : (ns : List ℕ) (c : ℕ) → get_or ns c 0 ≤ total ns
unfolding total
count_le_total [] c = omega arith
count_le_total (n ∷ ns) zero = omega arith
count_le_total (n ∷ ns) (suc c) = omega (arith, count_le_total ns c)

pub total_bump : (ns : List ℕ) (k : ℕ) → k < length ns → total (bump ns k) ≡ total ns + 1
unfolding total
total_bump [] k h = absurd (not-suc-le-zero h)
total_bump (n ∷ ns) zero h = omega arith
total_bump (n ∷ ns) (suc k) h = omega (arith, total_bump ns k (le_of_suc-le-suc h))

pub total_zeros : (n : ℕ) → total (replicate n 0) ≡ 0
unfolding total
total_zeros zero = refl
total_zeros (suc n) = omega (arith, total_zeros n)

-- what holds of all keys holds of those behind the first
bump_below : (ns : List ℕ) (k : ℕ) (ks : List ℕ) → Below (length ns) (k ∷ ks) → Below (length (bump ns k)) ks
bump_below ns k ks b i h = rw length-set (b (suc i) (suc-le-suc h))

length_tallied : (ns ks : List ℕ) → length (foldl bump ns ks) ≡ length ns
length_tallied ns [] = refl
length_tallied ns (k ∷ ks) = length_tallied (bump ns k) ks ∙ length-set ns k (get_or ns k 0 + 1)

total_tallied : (ns ks : List ℕ) → Below (length ns) ks → total (foldl bump ns ks) ≡ total ns + length ks
total_tallied ns [] b = omega arith
total_tallied ns (k ∷ ks) b = omega (arith, total_tallied (bump ns k) ks (bump_below ns k ks b), total_bump ns k (b 0 (omega arith)))

tallied_at : (c : ℕ) (ns ks : List ℕ) (xs : List Float) → length ks ≡ length xs → Below (length ns) ks → get_or (foldl bump ns ks) c 0 ≡ get_or ns c 0 + length (keyed c ks xs)
unfolding keyed
tallied_at c ns [] xs e b = omega arith
tallied_at c ns (k ∷ ks) [] e b = absurd (omega arith)
tallied_at c ns (k ∷ ks) (x ∷ xs) e b = tallied_at c (bump ns k) ks xs (omega arith) (bump_below ns k ks b) ∙ go (eqb k c) refl
  where
    go : (t : Bool) → eqb k c ≡ t → get_or (bump ns k) c 0 + length (keyed c ks xs) ≡ get_or ns c 0 + length (cond t (x ∷ keyed c ks xs) (keyed c ks xs))
    go true p =
        let s : k ≡ c = eqb-true k c p in
        let here : get_or (bump ns k) k 0 ≡ get_or ns k 0 + 1 = get_or-set_same ns k (get_or ns k 0 + 1) 0 (b 0 (omega arith)) in
        omega (arith, here, ap (λ (j : ℕ). get_or (bump ns k) j 0) s, ap (λ (j : ℕ). get_or ns j 0) s)
    go false p = rw (get_or-set_other ns k c (get_or ns k 0 + 1) 0 (λ q. eqb-false k c p (sym q)))

pub length_tally : (ks : List ℕ) → length (tally ks) ≡ 36
unfolding tally no_counts
length_tally ks = length_tallied (replicate 36 0) ks ∙ length-replicate {A = ℕ} 36 0

module _ (ks : List ℕ) (b : Below 36 ks) where
  -- each reading is counted once
  pub total_tally : total (tally ks) ≡ length ks
  unfolding tally no_counts
  total_tally = omega (arith, total_tallied (replicate 36 0) ks b, total_zeros 36)

  module _ (xs : List Float) (e : length ks ≡ length xs) where
    pub tally_at : (c : ℕ) → c < 36 → get_or (tally ks) c 0 ≡ length (keyed c ks xs)
    unfolding tally no_counts
    tally_at c h = omega (arith, tallied_at c (replicate 36 0) ks xs e b, get_or-replicate {A = ℕ} 36 c 0 0 h)

    pub sorted_at : (c : ℕ) → c < 36 → get_or (sorted ks xs) c [] ≡ keyed c ks xs
    unfolding sorted
    sorted_at c h = numbers_at (λ (k : ℕ). keyed k ks xs) [] 0 36 c h ∙ ap (λ (k : ℕ). keyed k ks xs) (omega arith)

    pub length_sorted : length (sorted ks xs) ≡ 36
    unfolding sorted
    length_sorted = length_numbers (λ (k : ℕ). keyed k ks xs) 0 36

    -- the tally is how many readings each key has
    pub tally_sorted : tally ks ≡ map length (sorted ks xs)
    tally_sorted = ext_get_or 0 (tally ks) (map length (sorted ks xs)) (length_tally ks ∙ sym (length-map (sorted ks xs) length ∙ length_sorted)) at
      where
        at : (c : ℕ) → c < length (tally ks) → get_or (tally ks) c 0 ≡ get_or (map length (sorted ks xs)) c 0
        at c h =
            let k : c < 36 = rw (length_tally ks) at h in
            tally_at c k ∙ sym (get_or-map length (sorted ks xs) c [] ∙ ap length (sorted_at c k))
