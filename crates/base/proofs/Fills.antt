-- Laws of a loop that puts f of each element into its place: what is still to be put from i on, laid over what is there.
use mathlib.Core.Path.{◌≡◌, ◌∙◌}
use mathlib.Core.List.{List, map}
use Prim.Native.Nat.{ℕ, ◌+◌, ◌<◌, ◌≤◌}
use native.Mathlib.Nat.{zero-add}
use native.Mathlib.Numerals.{add-one}
use lib.ListN.{get_or, length, set, drop, drop_of_length-le, length-map}
use lib.Seq.{drop-cons, sets, sets-eq}
use Rattle.base.specs.Lists.{over}

module _ {A B : Type 0} (f : A → B) (xs : List A) where
  abbrev pub fill : List B → ℕ → List B
  fill out i = sets out i (map f (drop i xs))

  pub fill_starts : (zs : List B) → length xs ≤ length zs → fill zs 0 ≡ over (map f xs) zs
  fill_starts zs h = sets-eq (map f xs) zs 0 (rw (zero-add, length-map) h) ∙ rw zero-add

  pub fill_step : (d : A) (out : List B) (i : ℕ) (y : B) {whole : List B} → fill out i ≡ whole → i < length xs → y ≡ f (get_or xs i d) → fill (set out i y) (i + 1) ≡ whole
  fill_step d out i y e h q = rw (q, add-one) (rw (drop-cons xs i d h) at e)

  pub fill_ends : (out : List B) (i : ℕ) {whole : List B} → fill out i ≡ whole → length xs ≤ i → out ≡ whole
  fill_ends out i e h = rw (drop_of_length-le xs h) at e
