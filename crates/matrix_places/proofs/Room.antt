-- When the places of a sum are all there, and that the sum is then the plain one.
use Prim.Native.Nat.{ℕ, ◌+◌, ◌*◌, ◌<◌, ◌≤◌}
use mathlib.Core.Path.{◌≡◌, sym, ◌∙◌}
use mathlib.Core.Bool.{Bool, true, false}
use mathlib.Core.List.{List}
use native.Mathlib.Omega.{arith}
use borrow.Author.Tests.{le-ltb, lt-leb, ltb-false, leb-false}
use lib.Dec.{ltb}
use lib.ListN.{length}
use lib.Ieee.{Float}
use Rattle.base.proofs.Bounds.{row_end}
use Rattle.base.proofs.Faults.{neither}
use Rattle.matrix_places.specs.Places.{lacks, dot, dot_in}
use Rattle.base.specs.Limits.{most_conditions}

-- n places from p on in steps of s: few, near each other, begun and ended within the memory
abbrev pub Room : ℕ → ℕ → ℕ → ℕ → Type 0
Room p s n len = (n ≤ most_conditions) × ((s ≤ most_conditions) × ((p ≤ len) × (p + n * s < len + s)))

module _ (p s n len : ℕ) where
  pub not_lacking : Room p s n len → lacks p s n len ≡ false
  unfolding lacks
  not_lacking r = rw (le-ltb most_conditions n r.0, le-ltb most_conditions s r.1.0, le-ltb len p r.1.1.0, lt-leb (len + s) (p + n * s) r.1.1.1)

  pub roomy : lacks p s n len ≡ false → Room p s n len
  unfolding lacks
  roomy e =
      let one = neither (ltb most_conditions n) _ e in
      let two = neither (ltb most_conditions s) _ one.1 in
      let three = neither (ltb len p) _ two.1 in
      (ltb-false most_conditions n one.0, (ltb-false most_conditions s two.0, (ltb-false len p three.0, leb-false (len + s) (p + n * s) three.1)))

-- each of those places lies within the memory
pub place_within : (p s n len m : ℕ) → Room p s n len → m < n → p + m * s < len
place_within p s n len m r h = let a = row_end m n s {len = n * s} h (omega arith) in omega (arith, a, r.1.1.1)

-- the same, where a test found none lacking
pub not_lacked : (p s n len m : ℕ) {b : Bool} → b ≡ lacks p s n len → b ≡ false → m < n → p + m * s < len
not_lacked p s n len m e h l = place_within p s n len m (roomy p s n len (sym e ∙ h)) l

module _ (z : Float) (x : List Float) (p s : ℕ) (y : List Float) (q t n : ℕ) where
  -- b and d are what the tests of x and of y said
  module _ {b : Bool} (e : b ≡ lacks p s n (length x)) where
    pub first_lacking : b ≡ true → z ≡ dot_in z x p s y q t n
    unfolding dot_in
    first_lacking h = rw (← e, h)

    module _ (h : b ≡ false) {d : Bool} (e' : d ≡ lacks q t n (length y)) where
      pub second_lacking : d ≡ true → z ≡ dot_in z x p s y q t n
      unfolding dot_in
      second_lacking h' = rw (← e, h, ← e', h')

      pub none_lacking : {r : Float} → d ≡ false → r ≡ dot z x p s y q t n → r ≡ dot_in z x p s y q t n
      unfolding dot_in
      none_lacking h' i = rw (← e, h, ← e', h') i

  -- where the places are there, what `dot` gives is the plain sum
  pub dot_room : {r : Float} → Room p s n (length x) → Room q t n (length y) → r ≡ dot_in z x p s y q t n → r ≡ dot z x p s y q t n
  unfolding dot_in
  dot_room a b e = rw (not_lacking p s n (length x) a, not_lacking q t n (length y) b) at e
