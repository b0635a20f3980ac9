-- Laws of bounds and of choices.
use Prim.Native.Nat.{ℕ, suc, ◌+◌, ◌*◌, ◌<◌, ◌≤◌}
use mathlib.Core.Path.{◌≡◌}
use mathlib.Core.Bool.{Bool, true, false, cond}
use native.Mathlib.Omega.{arith}
use native.Mathlib.Nat.{mul-le-mul_right, mul-le-mul, suc-mul}

-- the row r of n rows, w places apart, ends within what holds them all
pub row_end : (r n w : ℕ) {len : ℕ} → r < n → n * w ≤ len → r * w + w ≤ len
row_end r n w h k = let a : suc r * w ≤ n * w = mul-le-mul_right w h in omega (arith, suc-mul r w)

pub product_le : (a b : ℕ) {x y : ℕ} → x ≤ a → y ≤ b → x * y ≤ a * b
product_le a b h k = mul-le-mul h k

-- a choice, from its test and what the arm gives
module _ {A : Type 0} where
  pub then_of : (b : Bool) (x y : A) {z : A} → b ≡ true → z ≡ x → z ≡ cond b x y
  then_of b x y p q = rw p q

  pub else_of : (b : Bool) (x y : A) {z : A} → b ≡ false → z ≡ y → z ≡ cond b x y
  else_of b x y p q = rw p q
