-- How many columns the design has, and how much room the system takes.
use Prim.Native.Nat.{ℕ, ◌+◌, ◌-◌, ◌*◌, ◌<◌, ◌≤◌}
use mathlib.Core.Path.{◌≡◌}
use native.Mathlib.Nat.{add-mul, mul-add, mul-le-mul}
use native.Mathlib.Omega.{arith}
use Rattle.base.specs.Limits.{most_cells, most_levels}
use Rattle.base.proofs.Bounds.{product_le}
use Rattle.twoway_normal.specs.Equations.{rows_from}

pub cells_most : (a b : ℕ) → a ≤ most_levels → b ≤ most_levels → a * b ≤ most_cells
cells_most a b h k = product_le most_levels most_levels h k

pub system_most : (p : ℕ) → p ≤ most_cells → p * (p + 1) ≤ rows_from
system_most p h = product_le most_cells (most_cells + 1) {x = p} {y = p + 1} h (omega arith)

-- the columns of the interaction: some, not many, and as many as are left behind those of the factors
abbrev pub Interaction : ℕ → ℕ → Type 0
Interaction a b = (0 < (a - 1) * (b - 1)) × ((a - 1) * (b - 1) ≤ (most_levels - 1) * (most_levels - 1)) × (a + (b - 1) + (a - 1) * (b - 1) ≡ a * b)

pub columns : (a b : ℕ) → 2 ≤ a → a ≤ most_levels → 2 ≤ b → b ≤ most_levels → Interaction a b
columns a b h k l m = (
  (let e : 1 * 1 ≤ (a - 1) * (b - 1) = mul-le-mul {n₁ = 1} {m₁ = 1} {n₂ = a - 1} {m₂ = b - 1} (omega arith) (omega arith) in omega (arith, e)),
  product_le 5 5 {x = a - 1} {y = b - 1} (omega arith) (omega arith),
  all (a - 1) (b - 1) a b (omega arith) (omega arith),
)
  where
    all : (x y a b : ℕ) → a ≡ x + 1 → b ≡ y + 1 → a + (b - 1) + x * y ≡ a * b
    all x y a b e f =
        let p : a * b ≡ (x + 1) * (y + 1) = rw (e, f) in
        let q : (x + 1) * (y + 1) ≡ x * y + x + (y + 1) = rw (add-mul x 1 (y + 1), mul-add x y 1) (omega arith) in
        omega (arith, p, q)
