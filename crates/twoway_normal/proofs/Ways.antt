-- Each place goes its own way: where every turn of a loop changes each place by that place's own rule, each place ends as its own loop would leave it.
use Prim.Native.Nat.{ℕ, zero, suc, ◌+◌, ◌-◌, ◌*◌, ◌/◌, ◌%◌, ◌<◌, ◌≤◌}
use mathlib.Core.Path.{◌≡◌, refl, sym, ap, ◌∙◌}
use mathlib.Core.List.{List, [], ◌∷◌}
use native.Mathlib.Nat.{not-suc-le-zero, le_of_suc-le-suc, add-zero, suc-mul, zero-mul, mul-add-div_right, mul-add-mod_self_right, div-eq_of_lt, mod-eq_of_lt}
use native.Mathlib.Numerals.{add-one}
use native.Mathlib.Omega.{arith}
use lib.ListN.{length, get_or, set, replicate, length-replicate}
use lib.Seq.{set-get_or}
use Rattle.base.specs.Loop.{loop, turns}
use Rattle.base.proofs.Bounds.{row_end}
use Rattle.base.proofs.Walks.{walks}
use Rattle.twoway_normal.specs.Tables.{places}

module _ {A : Type 0} where
  -- the first c places are changed, each by its own rule; the first of them is number q
  unfoldable pub changed : (ℕ → A → A) → ℕ → ℕ → List A → List A
  changed h q zero m = m
  changed h q (suc c) [] = []
  changed h q (suc c) (x ∷ m) = h q x ∷ changed h (q + 1) c m

  pub length_changed : (h : ℕ → A → A) (q c : ℕ) (m : List A) → length (changed h q c m) ≡ length m
  unfolding changed
  length_changed h q zero m = refl
  length_changed h q (suc c) [] = refl
  length_changed h q (suc c) (x ∷ m) = ap suc (length_changed h (q + 1) c m)

  -- the next place
  change_suc : (h : ℕ → A → A) (d : A) (q c : ℕ) (m : List A) → c < length m → set (changed h q c m) c (h (q + c) (get_or (changed h q c m) c d)) ≡ changed h q (suc c) m
  unfolding changed
  change_suc h d q c [] l = absurd (not-suc-le-zero l)
  change_suc h d q zero (x ∷ m) l = rw (add-zero q)
  change_suc h d q (suc c) (x ∷ m) l =
      let e : q + suc c ≡ q + 1 + c = omega arith in
      rw e (ap (λ (t : List A). h q x ∷ t) (change_suc h d (q + 1) c m (le_of_suc-le-suc l)))

  pub change_next : (h : ℕ → A → A) (d : A) (c : ℕ) (m s : List A) (y : A) → c < length m → s ≡ changed h 0 c m → y ≡ h c (get_or s c d) → set s c y ≡ changed h 0 (c + 1) m
  change_next h d c m s y l e q =
      let z : 0 + c ≡ c = omega arith in
      rw (q, e, add-one) (rw z at (change_suc h d 0 c m l))

  pub changed_same : (q c : ℕ) (m : List A) → m ≡ changed (λ j t. t) q c m
  unfolding changed
  changed_same q zero m = refl
  changed_same q (suc c) [] = refl
  changed_same q (suc c) (x ∷ m) = ap (λ (t : List A). x ∷ t) (changed_same (q + 1) c m)

  -- rules that agree on these places
  pub same_changed : (g h : ℕ → A → A) (q c : ℕ) (m : List A) → ((j : ℕ) (t : A) → j < q + c → g j t ≡ h j t) → changed g q c m ≡ changed h q c m
  unfolding changed
  same_changed g h q zero m e = refl
  same_changed g h q (suc c) [] e = refl
  same_changed g h q (suc c) (x ∷ m) e = rw (e q x (omega arith), same_changed g h (q + 1) c m (λ j t l. e j t (omega arith)))

  changed_twice : (g h : ℕ → A → A) (q c : ℕ) (m : List A) → changed g q c (changed h q c m) ≡ changed (λ j t. g j (h j t)) q c m
  unfolding changed
  changed_twice g h q zero m = refl
  changed_twice g h q (suc c) [] = refl
  changed_twice g h q (suc c) (x ∷ m) = ap (λ (t : List A). g q (h q x) ∷ t) (changed_twice g h (q + 1) c m)

  changed_alike : (h : ℕ → A → A) (z : A) (q c : ℕ) → changed h q c (replicate c z) ≡ places q c (λ j. h j z)
  unfolding changed places
  changed_alike h z q zero = refl
  changed_alike h z q (suc c) = ap (λ (t : List A). h q z ∷ t) (changed_alike h z (q + 1) c)

  pub changed_places : (h : ℕ → A → A) (f : ℕ → A) (q c : ℕ) → changed h q c (places q c f) ≡ places q c (λ j. h j (f j))
  unfolding changed places
  changed_places h f q zero = refl
  changed_places h f q (suc c) = ap (λ (t : List A). h q (f q) ∷ t) (changed_places h f (q + 1) c)

  pub changed_at : (h : ℕ → A → A) (d : A) (q c : ℕ) (m : List A) (j : ℕ) → j < c → j < length m → get_or (changed h q c m) j d ≡ h (q + j) (get_or m j d)
  unfolding changed
  changed_at h d q zero m j l k = absurd (not-suc-le-zero l)
  changed_at h d q (suc c) [] j l k = absurd (not-suc-le-zero k)
  changed_at h d q (suc c) (x ∷ m) zero l k = rw (add-zero q)
  changed_at h d q (suc c) (x ∷ m) (suc j) l k =
      let e : q + 1 + j ≡ q + suc j = omega arith in
      changed_at h d (q + 1) c m j (le_of_suc-le-suc l) (le_of_suc-le-suc k) ∙ ap (λ (i : ℕ). h i (get_or m j d)) e

  -- places that their rule leaves alone
  pub changed_idle : (h : ℕ → A → A) (d : A) (c k : ℕ) (m : List A) → c + k ≤ length m → ((i : ℕ) (t : A) → i < k → h (c + i) t ≡ t) → changed h 0 c m ≡ changed h 0 (c + k) m
  changed_idle h d c zero m l e = rw (add-zero c)
  changed_idle h d c (suc k) m l e =
      let s = changed h 0 (c + k) m in
      let n : c + suc k ≡ c + k + 1 = omega arith in
      let y : get_or s (c + k) d ≡ h (c + k) (get_or s (c + k) d) = sym (e k (get_or s (c + k) d) (omega arith)) in
      changed_idle h d c k m (omega arith) (λ i t b. e i t (omega arith)) ∙ sym (set-get_or s (c + k) d) ∙ change_next h d (c + k) m s (get_or s (c + k) d) (omega arith) refl y ∙ rw n

  -- in turns up to n, F i changes place j of the first c of l places by h i j
  module _ (c l n : ℕ) (F : ℕ → List A → List A) (h : ℕ → ℕ → A → A) (each : (i : ℕ) (m : List A) → i < n → length m ≡ l → F i m ≡ changed (h i) 0 c m) where
    turns_ways : (r i : ℕ) (m : List A) → i + r ≤ n → length m ≡ l → turns i r F m ≡ changed (λ j t. turns i r (λ k. h k j) t) 0 c m
    unfolding turns
    turns_ways zero i m b e = changed_same 0 c m
    turns_ways (suc r) i m b e =
        ap (turns (i + 1) r F) (each i m (omega arith) e)
        ∙ turns_ways r (i + 1) (changed (h i) 0 c m) (omega arith) (length_changed (h i) 0 c m ∙ e)
        ∙ changed_twice (λ j t. turns (i + 1) r (λ k. h k j) t) (h i) 0 c m

    pub loop_ways : (m : List A) → length m ≡ l → loop 0 n F m ≡ changed (λ j t. loop 0 n (λ k. h k j) t) 0 c m
    unfolding loop
    loop_ways m e = turns_ways (n - 0) 0 m (omega arith) e

  -- from the same z in each place
  pub own_ways : (c n : ℕ) (F : ℕ → List A → List A) (h : ℕ → ℕ → A → A) → ((i : ℕ) (m : List A) → i < n → length m ≡ c → F i m ≡ changed (h i) 0 c m) → (z : A)
      → loop 0 n F (replicate c z) ≡ places 0 c (λ j. loop 0 n (λ k. h k j) z)
  own_ways c n F h each z = loop_ways c c n F h each (replicate c z) (length-replicate c z) ∙ changed_alike (λ j t. loop 0 n (λ k. h k j) t) z 0 c

-- row and column of place j * w + k
module _ (j w k : ℕ) (l : k < w) where
  pub row_of_lem : (j * w + k) / w ≡ j
  row_of_lem = rw (mul-add-div_right {m = w} (omega arith) j k, div-eq_of_lt l) (omega arith)

  pub column_of_lem : (j * w + k) % w ≡ k
  column_of_lem = rw (mul-add-mod_self_right j w k, mod-eq_of_lt l)

-- rows one after another, and in each the columns: every place once
module _ {A : Type 0} (d : A) (n w : ℕ) (m : List A) (fits : n * w ≤ length m) (h : ℕ → ℕ → A → A) (f : ℕ → ℕ → List A → List A)
    (each : (j k : ℕ) (s : List A) → f j k s ≡ set s (j * w + k) (h j k (get_or s (j * w + k) d))) where
  abbrev pub own : ℕ → A → A
  own q = h (q / w) (q % w)

  row_ways : (j : ℕ) → j < n → (s : List A) → s ≡ changed own 0 (j * w) m → loop 0 w (f j) s ≡ changed own 0 (j * w + w) m
  row_ways j l s e =
      walks (f j) (λ k s. s ≡ changed own 0 (j * w + k) m) w
      (λ k s b p.
      let q : j * w + k < length m = omega (arith, row_end j n w l fits) in
      let y : h j k (get_or s (j * w + k) d) ≡ own (j * w + k) (get_or s (j * w + k) d) = rw (row_of_lem j w k b, column_of_lem j w k b) in
      let e : j * w + (k + 1) ≡ j * w + k + 1 = omega arith in
      each j k s ∙ rw e (change_next own d (j * w + k) m s _ q p y))
      0 s (omega arith) (rw add-zero e)

  pub all_ways : loop 0 n (λ j. loop 0 w (f j)) m ≡ changed own 0 (n * w) m
  unfolding changed
  all_ways =
      walks (λ j. loop 0 w (f j)) (λ j s. s ≡ changed own 0 (j * w) m) n
      (λ j s b p. let e : (j + 1) * w ≡ j * w + w = next j in rw e (row_ways j b s p))
      0 m (omega arith) (rw (zero-mul w))
    where
      next : (j : ℕ) → (j + 1) * w ≡ j * w + w
      next j = rw add-one (suc-mul j w)

-- the first n places, one after another
pub each_once : {A : Type 0} (d : A) (n : ℕ) (m : List A) → n ≤ length m → (h : ℕ → A → A) (f : ℕ → List A → List A) → ((j : ℕ) (s : List A) → f j s ≡ set s j (h j (get_or s j d))) → loop 0 n f m ≡ changed h 0 n m
unfolding changed
each_once d n m l h f each = walks f (λ j s. s ≡ changed h 0 j m) n (λ j s b p. each j s ∙ change_next h d j m s _ (omega arith) p refl) 0 m (omega arith) refl
