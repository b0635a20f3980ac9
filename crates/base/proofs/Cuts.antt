-- Laws of lists cut into groups: where a group lies, and one turn of a walk over the groups.
use mathlib.Core.Path.{◌≡◌, refl, ap, ◌∙◌}
use mathlib.Core.List.{List, [], ◌∷◌, ◌++◌, map, flatten, append_assoc, append-nil}
use Prim.Native.Nat.{ℕ, zero, suc, ◌+◌, ◌-◌, ◌≤◌, ◌<◌}
use native.Mathlib.Nat.{add-sub_cancel_left, not-suc-le-zero, le_of_suc-le-suc}
use native.Mathlib.Numerals.{add-one}
use native.Mathlib.Omega.{arith}
use lib.ListN.{length, get_or, take, drop, length-append, drop_of_length-le, length-drop}
use lib.Seq.{take-add, drop-drop, take-append_seam, drop-append_seam, drop-cons, length-take-le}
use Rattle.base.specs.Lists.{total, cut}

-- the sizes from group g on: the group's own, and those behind it
module _ (ns : List ℕ) (g : ℕ) where
  pub total_turn : g < length ns → total (drop g ns) ≡ get_or ns g 0 + total (drop (g + 1) ns)
  unfolding total
  total_turn h = rw (add-one, drop-cons ns g 0 h)

  pub total_done : length ns ≤ g → total (drop g ns) ≡ 0
  unfolding total
  total_done h = rw (drop_of_length-le ns h)

pub total_split : (ns : List ℕ) (g : ℕ) → total ns ≡ total (take g ns) + total (drop g ns)
unfolding total
total_split ns zero = omega arith
total_split [] (suc g) = refl
total_split (n ∷ ns) (suc g) = omega (arith, total_split ns g)

module _ {A : Type 0} where
  pub length_cut : (ns : List ℕ) (xs : List A) → length (cut ns xs) ≡ length ns
  unfolding cut
  length_cut [] xs = refl
  length_cut (n ∷ ns) xs = ap suc (length_cut ns (drop n xs))

  -- group g: as many as its size, behind those of the groups before it
  pub cut_at : (ns : List ℕ) (g : ℕ) (xs : List A) → g < length ns → get_or (cut ns xs) g [] ≡ take (get_or ns g 0) (drop (total (take g ns)) xs)
  unfolding cut total
  cut_at [] g xs h = absurd (not-suc-le-zero h)
  cut_at (n ∷ ns) zero xs h = refl
  cut_at (n ∷ ns) (suc g) xs h = cut_at ns g (drop n xs) (le_of_suc-le-suc h) ∙ rw drop-drop

  -- the groups joined again
  pub flatten_cut : (ns : List ℕ) (xs : List A) → flatten (cut ns xs) ≡ take (total ns) xs
  unfolding cut total flatten
  flatten_cut [] xs = refl
  flatten_cut (n ∷ ns) xs = rw (take-add, flatten_cut ns (drop n xs))

  -- groups laid one after another are cut again as they were
  pub cut_flatten : (gs : List (List A)) (xs : List A) → cut (map length gs) (flatten gs ++ xs) ≡ gs
  unfolding cut flatten
  cut_flatten [] xs = refl
  cut_flatten (g ∷ gs) xs = rw (append_assoc, take-append_seam, drop-append_seam, cut_flatten gs xs)

  pub own_cut : (gs : List (List A)) → cut (map length gs) (flatten gs) ≡ gs
  own_cut gs = rw append-nil at (cut_flatten gs [])

  pub total_flatten : (gs : List (List A)) → total (map length gs) ≡ length (flatten gs)
  unfolding total flatten
  total_flatten [] = refl
  total_flatten (g ∷ gs) = rw (length-append, total_flatten gs)

  -- the groups' lengths are the sizes where the list has them all
  pub lengths_cut : (ns : List ℕ) (xs : List A) → total ns ≤ length xs → map length (cut ns xs) ≡ ns
  unfolding cut total
  lengths_cut [] xs h = refl
  lengths_cut (n ∷ ns) xs h = rw (length-take-le n xs (omega arith), lengths_cut ns (drop n xs) (rw length-drop (omega arith)))

  -- a walk over the groups: `at` is where group g begins, and its end is worked out as at + its size
  module _ (ns : List ℕ) (xs : List A) (at g : ℕ) where
    pub cut_turn : g < length ns → cut (drop g ns) (drop at xs) ≡ take (at + get_or ns g 0 - at) (drop at xs) ∷ cut (drop (g + 1) ns) (drop (at + get_or ns g 0) xs)
    unfolding cut
    cut_turn h = rw (add-one, drop-cons ns g 0 h, drop-drop, add-sub_cancel_left)

    pub cut_done : length ns ≤ g → cut (drop g ns) (drop at xs) ≡ []
    unfolding cut
    cut_done h = rw (drop_of_length-le ns h)

  -- the same walk over what is left: `rest` begins with group g
  module _ (ns : List ℕ) (g : ℕ) (rest : List A) where
    pub cut_next : g < length ns → cut (drop g ns) rest ≡ take (get_or ns g 0) rest ∷ cut (drop (g + 1) ns) (drop (get_or ns g 0) rest)
    unfolding cut
    cut_next h = rw (add-one, drop-cons ns g 0 h)

    pub cut_over : length ns ≤ g → cut (drop g ns) rest ≡ []
    unfolding cut
    cut_over h = rw (drop_of_length-le ns h)
