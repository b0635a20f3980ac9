-- Laws of a walk over what is left of a list from i on: it begins with the element at i, or there is none.
use Prim.Native.Nat.{ℕ, ◌+◌, ◌<◌, ◌≤◌}
use mathlib.Core.Path.{◌≡◌, sym, ap, ◌∙◌}
use mathlib.Core.List.{List, [], ◌∷◌}
use native.Mathlib.Numerals.{add-one}
use native.Mathlib.Omega.{arith}
use lib.ListN.{length, get_or, drop, length-drop}
use lib.Seq.{drop-cons}

module _ {A : Type 0} (xs : List A) (i : ℕ) where
  pub first_left : (d : A) {x : A} {rest : List A} → drop i xs ≡ x ∷ rest → (i < length xs) × (x ≡ get_or xs i d) × (rest ≡ drop (i + 1) xs)
  first_left d e =
      let h : i < length xs = omega (arith, ap length e, length-drop i xs) in
      let p = sym e ∙ drop-cons xs i d h in
      (h, ap (λ (l : List A). get_or l 0 d) p, rw add-one (ap (drop 1) p))

  pub over_at : drop i xs ≡ [] → length xs ≤ i
  over_at e = omega (arith, ap length e, length-drop i xs)
