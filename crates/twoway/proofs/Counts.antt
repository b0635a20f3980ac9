-- Laws of the design's counts.
use Prim.Native.Nat.{ℕ, ◌-◌, ◌*◌, ◌≤◌}
use native.Mathlib.Nat.{mul-le-mul}
use native.Mathlib.Omega.{arith}
use Rattle.base.proofs.Bounds.{product_le}

pub less_few : (a b : ℕ) → a ≤ 6 → b ≤ 6 → (a - 1) * (b - 1) ≤ 36
less_few a b h k = product_le 6 6 (omega arith) (omega arith)

-- a design with a cell has a reading
pub some : (a b : ℕ) {n : ℕ} → 1 ≤ a → 1 ≤ b → a * b ≤ n → 1 ≤ n
some a b h k l = let one : 1 * 1 ≤ a * b = mul-le-mul h k in omega (arith, one)
