-- Laws of a test that is asked of readings: the search for one of which it holds, and lists in which it holds of none.
use mathlib.Core.Path.{◌≡◌, refl, ◌∙◌}
use mathlib.Core.List.{List, [], ◌∷◌, ◌++◌}
use mathlib.Core.Bool.{Bool, true, false, cond}
use Prim.Native.Nat.{ℕ, zero, suc, ◌+◌, ◌<◌, ◌≤◌}
use native.Mathlib.Numerals.{add-one}
use lib.ListN.{get_or, length, take, drop, set, drop_of_length-le}
use lib.Seq.{drop-cons, take-append_seam, drop-append_seam}
use lib.Ieee.{Float, nan}
use Rattle.stats.specs.Sums.{some}

module _ (test : Float → Bool) where
  -- the search looks at every reading: what was found before i, or else what is from i on
  module _ (xs : List Float) where
    abbrev pub Found : Bool → ℕ → Type 0
    Found found i = cond found true (some test (drop i xs)) ≡ some test xs

    pub found_here : (found : Bool) (i : ℕ) → Found found i → i < length xs → test (get_or xs i nan) ≡ true → Found true (i + 1)
    unfolding some
    found_here true i e h t = e
    found_here false i e h t = rw (drop-cons xs i nan h, t) at e

    pub found_further : (found : Bool) (i : ℕ) → Found found i → i < length xs → test (get_or xs i nan) ≡ false → Found found (i + 1)
    unfolding some
    found_further found i e h t = rw add-one (rw (drop-cons xs i nan h, t) at e)

    pub found_told : (found : Bool) (i : ℕ) → Found found i → length xs ≤ i → found ≡ some test xs
    unfolding some
    found_told true i e h = e
    found_told false i e h = rw (drop_of_length-le xs h) at e

  -- where it holds of none, it holds of none in a part
  pub none_from : (x : Float) (xs : List Float) → some test (x ∷ xs) ≡ false → (test x ≡ false) × (some test xs ≡ false)
  unfolding some
  none_from x xs e = go (test x) refl e
    where
      go : (b : Bool) → test x ≡ b → cond b true (some test xs) ≡ false → (test x ≡ false) × (some test xs ≡ false)
      go true p e = (p ∙ e, cc)
      go false p e = (p, e)

  pub none_taken : (n : ℕ) (xs : List Float) → some test xs ≡ false → some test (take n xs) ≡ false
  unfolding some
  none_taken zero xs e = refl
  none_taken (suc n) [] e = refl
  none_taken (suc n) (x ∷ xs) e = let p = none_from x xs e in rw p.0 (none_taken n xs p.1)

  pub none_left : (n : ℕ) (xs : List Float) → some test xs ≡ false → some test (drop n xs) ≡ false
  unfolding some
  none_left zero xs e = e
  none_left (suc n) [] e = refl
  none_left (suc n) (x ∷ xs) e = none_left n xs (none_from x xs e).1

  pub none_apart : (xs ys : List Float) → some test (xs ++ ys) ≡ false → (some test xs ≡ false) × (some test ys ≡ false)
  none_apart xs ys e = (rw take-append_seam at (none_taken (length xs) (xs ++ ys) e), rw drop-append_seam at (none_left (length xs) (xs ++ ys) e))

  -- nor where two such lists are joined, or a reading of which it does not hold is put into one
  pub none_append : (xs ys : List Float) → some test xs ≡ false → some test ys ≡ false → some test (xs ++ ys) ≡ false
  unfolding some
  none_append [] ys e f = f
  none_append (x ∷ xs) ys e f =
      let p = none_from x xs e in
      rw p.0 (none_append xs ys p.1 f)

  pub none_set : (xs : List Float) (i : ℕ) (x : Float) → some test xs ≡ false → test x ≡ false → some test (set xs i x) ≡ false
  unfolding some
  none_set [] i x e f = refl
  none_set (y ∷ ys) zero x e f = rw f (none_from y ys e).1
  none_set (y ∷ ys) (suc i) x e f =
      let p = none_from y ys e in
      rw p.0 (none_set ys i x p.1 f)
