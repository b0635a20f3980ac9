-- When the matrices of a product fit, and that the call then gives the plain product.
use Prim.Native.Nat.{ℕ, ◌+◌, ◌*◌, ◌<◌, ◌≤◌}
use mathlib.Core.Path.{◌≡◌}
use mathlib.Core.Bool.{false}
use mathlib.Core.List.{List}
use borrow.Author.Tests.{le-ltb, lt-leb, ltb-false, leb-false}
use native.Mathlib.Omega.{arith}
use lib.Dec.{ltb}
use lib.ListN.{length}
use lib.Ieee.{Float}
use Rattle.base.proofs.Faults.{neither}
use Rattle.matrix_places.specs.Places.{refuses}
use Rattle.matrix_places.proofs.Sizes.{Sized, sized, not_refused}
use Rattle.matrix_product.specs.Product.{misfits, product, product_in}
use Rattle.base.specs.Limits.{most_conditions}

-- what is known where all fit
pub record Fits (x y u t n l w z : ℕ) : Type 0 where
  pub rows : Sized most_conditions n l x
  pub room : Sized most_conditions n w z
  pub near_columns : u ≤ most_conditions
  pub near_places : t ≤ most_conditions
  pub columns : w * u + l * t < y + t + u

module _ (x y u t n l w z : ℕ) where
  pub fitting : misfits x y u t n l w z ≡ false → Fits x y u t n l w z
  unfolding misfits
  fitting e =
      let one = neither (refuses most_conditions n l x) _ e in
      let two = neither (refuses most_conditions n w z) _ one.1 in
      let three = neither (ltb most_conditions u) _ two.1 in
      let four = neither (ltb most_conditions t) _ three.1 in
      record {
        rows = sized most_conditions n l x one.0;
        room = sized most_conditions n w z two.0;
        near_columns = ltb-false most_conditions u three.0;
        near_places = ltb-false most_conditions t four.0;
        columns = leb-false (y + t + u) (w * u + l * t) four.1;
      }

  no_misfit : Fits x y u t n l w z → misfits x y u t n l w z ≡ false
  unfolding misfits
  no_misfit f =
      let rows-there = not_refused most_conditions n l x (omega arith) f.rows in
      let room_there = not_refused most_conditions n w z (omega arith) f.room in
      rw (rows-there, room_there, le-ltb most_conditions u f.near_columns, le-ltb most_conditions t f.near_places, lt-leb (y + t + u) (w * u + l * t) f.columns)

-- where the matrices fit, what `product` leaves is the plain product
pub product_room : (a b : List Float) (u t n l w : ℕ) (out : List Float) {r : List Float}
    → Fits (length a) (length b) u t n l w (length out) → r ≡ product_in a b u t n l w out → r ≡ product a b u t n l w out
unfolding product_in
product_room a b u t n l w out f e = rw (no_misfit (length a) (length b) u t n l w (length out) f) at e
