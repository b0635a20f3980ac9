-- A walk over the first places of a list, or over those from q on: which place of the list each turn has, and how many turns there are.
use Prim.Native.Nat.{ℕ, ◌+◌, ◌-◌, ◌<◌, ◌≤◌}
use mathlib.Core.Path.{◌≡◌, ◌∙◌}
use mathlib.Core.List.{List}
use native.Mathlib.Omega.{arith}
use lib.ListN.{length, get_or, take, drop, length-take, length-drop}
use lib.Seq.{get_or-take, get_or-drop, length-take-le}

module _ {A : Type 0} (k : ℕ) (xs : List A) (fits : k ≤ length xs) where
  pub first_long : length (take k xs) ≡ k
  first_long = length-take-le k xs fits

  pub first_here : (d : A) {i : ℕ} → i < length (take k xs) → (i < k) × (get_or (take k xs) i d ≡ get_or xs i d)
  first_here d {i} h = let l : i < k = omega (arith, first_long) in (l, get_or-take k xs i d l)

module _ {A : Type 0} (q p : ℕ) (xs : List A) (fits : q + p ≤ length xs) where
  pub part_long : length (take (q + p - q) (drop q xs)) ≡ p
  part_long = simp (length-take, length-drop) (omega arith)

  pub part_here : (d : A) {i : ℕ} → i < length (take (q + p - q) (drop q xs)) → (i < p) × (get_or (take (q + p - q) (drop q xs)) i d ≡ get_or xs (q + i) d)
  part_here d {i} h = let l : i < p = omega (arith, part_long) in (l, get_or-take (q + p - q) (drop q xs) i d (omega (arith, l)) ∙ get_or-drop q xs i d)
