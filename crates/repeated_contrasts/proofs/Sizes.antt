-- What sizes that fit leave known.
use Prim.Native.Nat.{ℕ, ◌*◌, ◌-◌, ◌≤◌}
use mathlib.Core.Path.{◌≡◌}
use mathlib.Core.Bool.{true}
use mathlib.Core.List.{List}
use borrow.Author.Tests.{leb-true, eqb-true}
use lib.Dec.{eqb, leb}
use lib.Ieee.{Float}
use lib.ListN.{length}
use Rattle.base.proofs.Faults.{both}
use Rattle.repeated_contrasts.specs.Inner.{Laid}
use Rattle.repeated_contrasts.specs.Contrasts.{fits}

-- what is known where the sizes fit: how the readings and means lie, and that there is room
pub laid : (n k : ℕ) (xs ms : List Float) (room : ℕ) → fits n k (length xs) (length ms) room ≡ true → Laid n k xs ms × ((k - 1) * (k - 1) ≤ room)
unfolding fits
laid n k xs ms room h =
    let one = both (leb 2 n) _ h in
    let two = both (leb n 64) _ one.1 in
    let three = both (leb 2 k) _ two.1 in
    let four = both (leb k 12) _ three.1 in
    let five = both (eqb (length xs) (n * k)) _ four.1 in
    let six = both (leb k (length ms)) _ five.1 in (
      record {
        low_n = leb-true 2 n one.0;
        high_n = leb-true n 64 two.0;
        low_k = leb-true 2 k three.0;
        high_k = leb-true k 12 four.0;
        all = eqb-true (length xs) (n * k) five.0;
        each = leb-true k (length ms) six.0;
      },
      leb-true ((k - 1) * (k - 1)) room six.1,
    )
