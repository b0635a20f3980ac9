-- Laws of keys: the number of a reading's cell says its two codes, and the readings of the 36 keys are the cells, with empty ones behind them.
use mathlib.Core.Path.{◌≡◌, refl, sym, ap, ◌∙◌}
use mathlib.Core.Bool.{Bool, true, false, ◌&&◌}
use mathlib.Core.List.{List, [], ◌∷◌, ◌++◌, map, map-append}
use Prim.Native.Nat.{ℕ, zero, suc, ◌+◌, ◌-◌, ◌*◌, ◌/◌, ◌%◌, ◌≤◌, ◌<◌, suc-le-suc}
use native.Mathlib.Nat.{not-suc-le-zero, le_of_suc-le-suc, add-zero, zero-add, mul-add-div_right, mul-add-mod_self_right, div-eq_of_lt, mod-eq_of_lt, div-add-mod'}
use native.Mathlib.Omega.{arith}
use borrow.Author.Tests.{eqb-true, eqb-false, eq-eqb, ne_eqb}
use lib.Dec.{eqb}
use lib.Ieee.{Float}
use lib.ListN.{length, get_or, drop, replicate, length-map}
use Rattle.base.specs.Lists.{over}
use Rattle.base.proofs.Bounds.{row_end}
use Rattle.twoway_checks.specs.Cells.{cell, numbers, numbered, cells, cell_counts}
use Rattle.twoway_checks.specs.Checks.{largest}
use Rattle.twoway_checks.specs.Inner.{Coded, keys, keyed, sorted}
use Rattle.twoway_checks.specs.Data.{no_counts}
use Rattle.twoway_checks.proofs.Codes.{code_le}

-- the key of the codes u and v says which they are
module _ (b u v : ℕ) (h : v < b) where
  pub key_codes : ((u * b + v) / b ≡ u) × ((u * b + v) % b ≡ v)
  key_codes = (
    rw (mul-add-div_right {m = b} (omega arith) u v, div-eq_of_lt h) (omega arith),
    rw (mul-add-mod_self_right u b v, mod-eq_of_lt h),
  )

  pub same_key : (c : ℕ) → eqb (u * b + v) c ≡ (eqb u (c / b) && eqb v (c % b))
  same_key c = go (eqb (u * b + v) c) refl
    where
      other : (p q : Bool) → eqb u (c / b) ≡ p → eqb v (c % b) ≡ q → (u * b + v ≡ c → ⊥) → false ≡ (p && q)
      other true true e f n =
          let s : u ≡ c / b = eqb-true u (c / b) e in
          let t : v ≡ c % b = eqb-true v (c % b) f in
          absurd (n (rw (s, t) (div-add-mod' c b)))
      other true false e f n = refl
      other false q e f n = refl

      go : (t : Bool) → eqb (u * b + v) c ≡ t → t ≡ (eqb u (c / b) && eqb v (c % b))
      go true e =
          let s : u * b + v ≡ c = eqb-true (u * b + v) c e in
          let p : u ≡ c / b = sym key_codes.0 ∙ ap (λ (k : ℕ). k / b) s in
          let q : v ≡ c % b = sym key_codes.1 ∙ ap (λ (k : ℕ). k % b) s in
          rw (eq-eqb u (c / b) p, eq-eqb v (c % b) q)
      go false e = other (eqb u (c / b)) (eqb v (c % b)) refl refl (eqb-false (u * b + v) c e)

-- each of these is below m
abbrev pub Below : ℕ → List ℕ → Type 0
Below m ks = (i : ℕ) → i < length ks → get_or ks i 0 < m

module _ (b : ℕ) where
  pub length_keys : (us vs : List ℕ) → length us ≡ length vs → length (keys b us vs) ≡ length us
  unfolding keys
  length_keys [] vs e = refl
  length_keys (u ∷ us) [] e = absurd (omega arith)
  length_keys (u ∷ us) (v ∷ vs) e = ap suc (length_keys us vs (omega arith))

  pub key_at_lem : (us vs : List ℕ) (i : ℕ) → length us ≡ length vs → i < length us → get_or (keys b us vs) i 0 ≡ get_or us i 0 * b + get_or vs i 0
  unfolding keys
  key_at_lem [] vs i e h = absurd (not-suc-le-zero h)
  key_at_lem (u ∷ us) [] i e h = absurd (omega arith)
  key_at_lem (u ∷ us) (v ∷ vs) zero e h = refl
  key_at_lem (u ∷ us) (v ∷ vs) (suc i) e h = key_at_lem us vs i (omega arith) (le_of_suc-le-suc h)

  -- the key of codes below a and below b
  pub key_below : (a m u v : ℕ) → u < a → v < b → a * b ≤ m → u * b + v < m
  key_below a m u v p q h = omega (arith, row_end u a b p h)

  pub keys_below : (a m : ℕ) (us vs : List ℕ) → length us ≡ length vs → largest us < a → largest vs < b → a * b ≤ m → Below m (keys b us vs)
  keys_below a m us vs e p q l i h =
      let hu : i < length us = rw (length_keys us vs e) at h in
      let hv : i < length vs = omega arith in
      rw (key_at_lem us vs i e hu) (key_below a m (get_or us i 0) (get_or vs i 0) (omega (arith, code_le us i hu)) (omega (arith, code_le vs i hv)) l)

  -- the readings of key c are those of cell number c
  pub keyed_cell : (c : ℕ) (xs : List Float) (us vs : List ℕ) → length us ≡ length xs → length vs ≡ length xs → largest vs < b → keyed c (keys b us vs) xs ≡ numbered b xs us vs c
  unfolding keys keyed cell largest
  keyed_cell c [] [] vs e f l = refl
  keyed_cell c [] (u ∷ us) vs e f l = absurd (omega arith)
  keyed_cell c (x ∷ xs) [] vs e f l = absurd (omega arith)
  keyed_cell c (x ∷ xs) (u ∷ us) [] e f l = absurd (omega arith)
  keyed_cell c (x ∷ xs) (u ∷ us) (v ∷ vs) e f l = rw (same_key b u v (omega arith) c, keyed_cell c xs us vs (omega arith) (omega arith) (omega arith))

-- a key that no reading has
pub keyed_none : (m c : ℕ) (ks : List ℕ) (xs : List Float) → Below m ks → m ≤ c → keyed c ks xs ≡ []
unfolding keyed
keyed_none m c [] xs k h = refl
keyed_none m c (j ∷ ks) [] k h = refl
keyed_none m c (j ∷ ks) (x ∷ xs) k h =
    let l : j < m = k 0 (omega arith) in
    rw (ne_eqb j c (λ e. omega arith)) (keyed_none m c ks xs (λ i p. k (suc i) (suc-le-suc p)) h)

-- n numbers from k on
pub numbers_split : (k n r : ℕ) → numbers k (n + r) ≡ numbers k n ++ numbers (k + n) r
unfolding numbers
numbers_split k zero r = rw (zero-add, add-zero)
numbers_split k (suc n) r =
    let e : suc n + r ≡ suc (n + r) = omega arith in
    let f : k + suc n ≡ suc k + n = omega arith in
    rw (e, f, numbers_split (suc k) n r)

module _ {B : Type 0} where
  pub numbers_at : (f : ℕ → B) (d : B) (k n c : ℕ) → c < n → get_or (map f (numbers k n)) c d ≡ f (k + c)
  unfolding numbers
  numbers_at f d k zero c h = absurd (not-suc-le-zero h)
  numbers_at f d k (suc n) zero h = rw add-zero
  numbers_at f d k (suc n) (suc c) h = numbers_at f d (suc k) n c (le_of_suc-le-suc h) ∙ ap f (omega arith)

  pub length_numbers : (f : ℕ → B) (k n : ℕ) → length (map f (numbers k n)) ≡ n
  unfolding numbers
  length_numbers f k zero = refl
  length_numbers f k (suc n) = ap suc (length_numbers f (suc k) n)

  map_same : (f g : ℕ → B) (l : List ℕ) → ((c : ℕ) → f c ≡ g c) → map f l ≡ map g l
  map_same f g [] e = refl
  map_same f g (c ∷ l) e = rw (e c, map_same f g l e)

  map_one : (f : ℕ → B) (z : B) (k n : ℕ) → ((c : ℕ) → k ≤ c → f c ≡ z) → map f (numbers k n) ≡ replicate n z
  unfolding numbers
  map_one f z k zero e = refl
  map_one f z k (suc n) e = rw (e k (omega arith), map_one f z (suc k) n (λ c h. e c (omega arith)))

lengths_empty : (n : ℕ) → map length (replicate {A = List Float} n []) ≡ replicate {A = ℕ} n 0
lengths_empty zero = refl
lengths_empty (suc n) = rw (lengths_empty n)

drop_replicate : (m n : ℕ) → drop m (replicate {A = ℕ} n 0) ≡ replicate (n - m) 0
drop_replicate zero n = let e : n - 0 ≡ n = omega arith in rw e
drop_replicate (suc m) zero = let e : 0 - suc m ≡ 0 = omega arith in rw e
drop_replicate (suc m) (suc n) = let e : suc n - suc m ≡ n - m = omega arith in rw (e, drop_replicate m n)

module _ (a b : ℕ) (xs : List Float) (us vs : List ℕ) where
  pub length_cells : length (cells a b xs us vs) ≡ a * b
  unfolding cells
  length_cells = length_numbers (numbered b xs us vs) 0 (a * b)

  pub length_counts : length (cell_counts a b xs us vs) ≡ a * b
  length_counts = length-map (cells a b xs us vs) length ∙ length_cells

  -- the counts with 0 in the unused places
  pub counts_padded : over (cell_counts a b xs us vs) no_counts ≡ cell_counts a b xs us vs ++ replicate {A = ℕ} (36 - a * b) 0
  unfolding no_counts
  counts_padded = rw (length_counts, drop_replicate (a * b) 36)

-- the readings of the 36 keys: the cells, and empty ones behind them
module _ (a b : ℕ) (xs : List Float) (us vs : List ℕ) (e : length us ≡ length xs) (f : length vs ≡ length xs) (p : largest us < a) (q : largest vs < b) (l : a * b ≤ 36) where
  pub sorted_cells : sorted (keys b us vs) xs ≡ cells a b xs us vs ++ replicate (36 - a * b) []
  unfolding sorted cells
  sorted_cells =
      let n : 36 ≡ a * b + (36 - a * b) = omega arith in
      let s : numbers 0 36 ≡ numbers 0 (a * b) ++ numbers (a * b) (36 - a * b) = ap (numbers 0) n ∙ numbers_split 0 (a * b) (36 - a * b) ∙ rw zero-add in
      let k : ℕ → List Float = λ (c : ℕ). keyed c (keys b us vs) xs in
      ap (map k) s
      ∙ map-append k (numbers 0 (a * b)) (numbers (a * b) (36 - a * b))
      ∙ rw (
        map_same k (numbered b xs us vs) (numbers 0 (a * b)) (λ c. keyed_cell b c xs us vs e f q),
        map_one k [] (a * b) (36 - a * b) (λ c h. keyed_none (a * b) c (keys b us vs) xs (keys_below b a (a * b) us vs (e ∙ sym f) p q (omega arith)) h),
      )

  pub sorted_counts : map length (sorted (keys b us vs) xs) ≡ over (cell_counts a b xs us vs) no_counts
  sorted_counts =
      ap (map length) sorted_cells
      ∙ map-append length (cells a b xs us vs) (replicate (36 - a * b) [])
      ∙ rw (lengths_empty, counts_padded a b xs us vs)

-- what is known of codes that can be counted
module _ (us vs : List ℕ) (b : ℕ) (k : Coded us vs b) where
  pub coded_keys : length (keys b us vs) ≡ length us
  coded_keys = length_keys b us vs k.same

  pub coded_below : Below 36 (keys b us vs)
  coded_below = keys_below b 6 36 us vs k.same k.below k.within (omega (arith, k.most))

  module _ (i : ℕ) (h : i < length us) where
    pub coded_key : (c : ℕ) → c ≡ get_or us i 0 * b + get_or vs i 0 → c ≡ get_or (keys b us vs) i 0
    coded_key c e = e ∙ sym (key_at_lem b us vs i k.same h)

    pub coded_place : (c : ℕ) → c ≡ get_or us i 0 * b + get_or vs i 0 → c < 36
    coded_place c e = rw (coded_key c e) (coded_below i (rw coded_keys h))
