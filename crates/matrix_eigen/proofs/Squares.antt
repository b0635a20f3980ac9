-- The product of two matrices of n rows of n places fits, where each has its room.
use Prim.Native.Nat.{ℕ, ◌*◌, ◌<◌, ◌≤◌}
use native.Mathlib.Omega.{arith}
use Rattle.matrix_places.proofs.Sizes.{Sized}
use Rattle.matrix_product.proofs.Fits.{Fits}
use Rattle.base.specs.Limits.{most_conditions}
use Rattle.matrix_places.specs.Places.{most_contrasts}

square : (n x : ℕ) → 0 < n → n ≤ most_contrasts → n * n ≤ x → Sized most_conditions n n x
square n x a b h =
    record {
      some_rows = a;
      few_rows = omega arith;
      some_places = a;
      few_places = omega arith;
      held = h;
    }

pub square_fits : (n x y z : ℕ) → 0 < n → n ≤ most_contrasts → n * n ≤ x → n * n ≤ y → n * n ≤ z → Fits x y 1 n n n n z
square_fits n x y z a b h i j =
    record {
      rows = square n x a b h;
      room = square n z a b j;
      near_columns = omega arith;
      near_places = omega arith;
      columns = omega arith;
    }
