-- Memory that is wiped; and that nothing is left of what a call did in the places that are wiped.
use mathlib.Core.Path.{◌≡◌, refl, sym, ap, ◌∙◌}
use mathlib.Core.Bool.{Bool, true, false}
use mathlib.Core.List.{List, ◌++◌, append-nil}
use Prim.Native.Nat.{ℕ, ◌<◌, ◌≤◌, min}
use native.Mathlib.Omega.{arith}
use borrow.Author.Tests.{leb-true, leb-false}
use lib.Dec.{leb}
use lib.ListN.{length, drop, drop_of_length-le}
use lib.Ieee.{Float}
use Rattle.base.specs.Limits.{scratch_places}
use Rattle.lent.specs.Wiping.{zeros, wiped}

-- the first places, as many as there are up to 6,400, hold +0.0
pub wiped_by : (k : ℕ) (front d : List Float) → k ≡ min (length d) scratch_places → front ≡ zeros k → front ++ drop k d ≡ wiped d
unfolding wiped
wiped_by k front d h e =
    let m : k ≡ min scratch_places (length d) = omega (arith, h) in
    rw (e, m) (ap (λ (t : List Float). zeros (min scratch_places (length d)) ++ t) (behind (leb (length d) scratch_places) refl))
  where
    behind : (t : Bool) → leb (length d) scratch_places ≡ t → drop (min scratch_places (length d)) d ≡ drop scratch_places d
    behind true q =
        let l : length d ≤ scratch_places = leb-true (length d) scratch_places q in
        drop_of_length-le d {i = min scratch_places (length d)} (omega arith) ∙ sym (drop_of_length-le d l)
    behind false q =
        let l : scratch_places < length d = leb-false (length d) scratch_places q in
        let m : min scratch_places (length d) ≡ scratch_places = omega arith in
        ap (λ (k : ℕ). drop k d) m

-- few places: all of them
pub wiped_short : (d : List Float) → length d ≤ scratch_places → wiped d ≡ zeros (length d)
unfolding wiped
wiped_short d h =
    let m : min scratch_places (length d) ≡ length d = omega arith in
    rw (m, drop_of_length-le d h) (append-nil (zeros (length d)))
