-- Laws of groups of which one is given other elements.
use mathlib.Core.Path.{◌≡◌, refl, ap}
use mathlib.Core.List.{List, [], ◌∷◌, ◌++◌, map, flatten, append_assoc}
use Prim.Native.Nat.{ℕ, zero, suc, ◌+◌, ◌<◌}
use native.Mathlib.Nat.{add_assoc, zero-add, not-suc-le-zero, le_of_suc-le-suc}
use native.Mathlib.Omega.{arith}
use lib.ListN.{length, get_or, take, drop, set, length-append}
use lib.Seq.{take-add, drop-drop}
use Rattle.base.specs.Lists.{total, cut}
use Rattle.base.proofs.Cuts.{flatten_cut}

-- where the group behind group g begins
pub map_set : {A B : Type 0} (f : A → B) (xs : List A) (i : ℕ) (y : A) → map f (set xs i y) ≡ set (map f xs) i (f y)
map_set f [] i y = refl
map_set f (x ∷ xs) zero y = refl
map_set f (x ∷ xs) (suc i) y = ap (λ (r : List _). f x ∷ r) (map_set f xs i y)

module _ {A : Type 0} where
  -- the groups joined again: what lies before group g, its new elements, and what lies behind it
  pub flatten_set : (ns : List ℕ) (g : ℕ) (xs ys : List A) → g < length ns
      → flatten (set (cut ns xs) g ys) ≡ take (total (take g ns)) xs ++ (ys ++ take (total (drop (suc g) ns)) (drop (total (take g ns) + get_or ns g 0) xs))
  unfolding cut total flatten
  flatten_set [] g xs ys h = absurd (not-suc-le-zero h)
  flatten_set (n ∷ ns) zero xs ys h = rw (zero-add, flatten_cut ns (drop n xs))
  flatten_set (n ∷ ns) (suc g) xs ys h = rw (flatten_set ns g (drop n xs) ys (le_of_suc-le-suc h), take-add, append_assoc, drop-drop, add_assoc)

  pub flatten_set_length : (gs : List (List A)) (g : ℕ) (ys : List A) → g < length gs → length (flatten (set gs g ys)) + length (get_or gs g []) ≡ length (flatten gs) + length ys
  unfolding flatten
  flatten_set_length [] g ys h = absurd (not-suc-le-zero h)
  flatten_set_length (xs ∷ gs) zero ys h = rw (length-append, length-append) (omega arith)
  flatten_set_length (xs ∷ gs) (suc g) ys h =
      let e = flatten_set_length gs g ys (le_of_suc-le-suc h) in
      rw (length-append, length-append) (omega arith)
