-- Laws of f of the first k elements: how many there are, which stands at g, and the first of them.
use mathlib.Core.Path.{◌≡◌, refl, ap, ◌∙◌}
use mathlib.Core.List.{List, [], ◌∷◌, map}
use Prim.Native.Nat.{ℕ, zero, suc, ◌<◌, ◌≤◌}
use lib.ListN.{get_or, length, take, length-map, get_or-map}
use lib.Seq.{get_or-take, length-take-le, take-take}

module _ {A B : Type 0} (f : A → B) where
  take_map : (g : ℕ) (xs : List A) → take g (map f xs) ≡ map f (take g xs)
  take_map zero xs = refl
  take_map (suc g) [] = refl
  take_map (suc g) (x ∷ xs) = ap (λ (ys : List B). f x ∷ ys) (take_map g xs)

  module _ (k : ℕ) (xs : List A) where
    pub length_firsts : k ≤ length xs → length (map f (take k xs)) ≡ k
    length_firsts l = length-map (take k xs) f ∙ length-take-le k xs l

    pub firsts_at : (d : A) (g : ℕ) → g < k → get_or (map f (take k xs)) g (f d) ≡ f (get_or xs g d)
    firsts_at d g h = get_or-map f (take k xs) g d ∙ ap f (get_or-take k xs g d h)

    pub take_firsts : (g : ℕ) → g ≤ k → take g (map f (take k xs)) ≡ map f (take g xs)
    take_firsts g h = take_map g (take k xs) ∙ ap (map f) (take-take g k xs h)
