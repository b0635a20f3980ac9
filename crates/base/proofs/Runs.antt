-- Laws of a run: f of each element, one after another, laid over a list from a place on. `a` is the place that a loop has come to, at element i.
use mathlib.Core.Path.{◌≡◌, sym, ap, ◌∙◌}
use mathlib.Core.List.{List, [], ◌∷◌, ◌++◌, flatten, append_assoc, append-nil}
use Prim.Native.Nat.{ℕ, suc, ◌+◌, ◌*◌, ◌<◌, ◌≤◌}
use native.Mathlib.Nat.{add-zero, add-suc, suc-add, zero-add, zero-mul, suc-mul}
use native.Mathlib.Numerals.{add-one}
use native.Mathlib.Omega.{arith}
use lib.ListN.{get_or, set, length, take, drop, drop_of_length-le, length-append, length-drop}
use lib.Seq.{drop-cons, drop-drop, sets, sets-eq}
use Rattle.base.specs.Lists.{over, run}

module _ {B : Type 0} where
  pub sets_append : (l : List B) (i : ℕ) (xs ys : List B) → sets l i (xs ++ ys) ≡ sets (sets l i xs) (i + length xs) ys
  sets_append l i [] ys = rw add-zero
  sets_append l i (x ∷ xs) ys = sets_append (set l i x) (suc i) xs ys ∙ rw (add-suc, suc-add)

  -- from the front, a run is laid over
  pub sets_over : (xs l : List B) → length xs ≤ length l → sets l 0 xs ≡ over xs l
  sets_over xs l h = sets-eq xs l 0 (rw zero-add h) ∙ rw zero-add

  pub length_over : (xs l : List B) → length xs ≤ length l → length (over xs l) ≡ length l
  length_over xs l h = simp (length-append, length-drop) (omega arith)

  -- as many places as elements: nothing is left of what was there
  pub over_all : (xs l : List B) → length l ≡ length xs → over xs l ≡ xs
  over_all xs l e = rw (drop_of_length-le l {i = length xs} (omega arith)) (append-nil xs)

  -- k places from i on that hold xs afterwards
  pub part_put : (l : List B) (i k : ℕ) (xs : List B) → length xs ≡ k → i + k ≤ length l → take i l ++ (xs ++ drop k (drop i l)) ≡ sets l i xs
  part_put l i k xs e h = rw (drop-drop, ← e, ← append_assoc) (sym (sets-eq xs l i (rw e h)))

module _ {A B : Type 0} (f : A → List B) where
  -- where each piece has the length w
  pub length_run : (w : ℕ) → ((x : A) → length (f x) ≡ w) → (xs : List A) → length (run f xs) ≡ length xs * w
  unfolding flatten
  length_run w k [] = rw (zero-mul w)
  length_run w k (x ∷ xs) = rw (length-append, k x, length_run w k xs, suc-mul) (omega arith)

  module _ (xs : List A) (d : A) (i : ℕ) (h : i < length xs) where
    run_cons : run f (drop i xs) ≡ f (get_or xs i d) ++ run f (drop (i + 1) xs)
    unfolding flatten
    run_cons = rw (add-one, drop-cons xs i d h)

    pub run_step : (out : List B) (a : ℕ) {out' whole : List B} {a' : ℕ} → sets out a (run f (drop i xs)) ≡ whole → out' ≡ sets out a (f (get_or xs i d)) → a' ≡ a + length (f (get_or xs i d)) → sets out' a' (run f (drop (i + 1) xs)) ≡ whole
    run_step out a e q p = rw (q, p) (sym (sets_append out a (f (get_or xs i d)) (run f (drop (i + 1) xs))) ∙ rw run_cons at e)

    -- how much is left
    pub run_left : length (run f (drop i xs)) ≡ length (f (get_or xs i d)) + length (run f (drop (i + 1) xs))
    run_left = ap length run_cons ∙ length-append (f (get_or xs i d)) (run f (drop (i + 1) xs))

  pub run_end : (xs : List A) (i : ℕ) → length xs ≤ i → run f (drop i xs) ≡ []
  unfolding flatten
  run_end xs i h = rw (drop_of_length-le xs h)
