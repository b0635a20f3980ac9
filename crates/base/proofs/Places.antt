-- Places of a flat matrix: they differ in another row, or in another column; and those of a row, and of a column, lie within it.
use Prim.Native.Nat.{ℕ, ◌+◌, ◌*◌, ◌<◌}
use mathlib.Core.Path.{◌≡◌, refl, sym}
use mathlib.Core.Bool.{Bool, true, false}
use native.Mathlib.Omega.{arith}
use native.Mathlib.Nat.{le_refl, mul-one, mul-le-mul_right}
use borrow.Author.Tests.{ltb-true, ltb-false}
use lib.Dec.{ltb}
use Rattle.base.specs.Inner.{Line}
use Rattle.base.proofs.Bounds.{row_end}

pub other_row : (a b w x y : ℕ) → a < b → x < w → a * w + x ≡ b * w + y → ⊥
other_row a b w x y h k e =
    let r = row_end a b w {len = b * w} h (omega arith) in
    omega (arith, r)

pub other_column : (a b w x y : ℕ) → y < x → x < w → a * w + x ≡ b * w + y → ⊥
other_column a b w x y h k e = go (ltb a b) refl
  where
    go : (t : Bool) → ltb a b ≡ t → ⊥
    go true q = other_row a b w x y (ltb-true a b q) k e
    go false q =
        let r = mul-le-mul_right w (ltb-false a b q) in
        omega (arith, r)

pub another_row : (a b w x y : ℕ) → (a ≡ b → ⊥) → x < w → y < w → a * w + x ≡ b * w + y → ⊥
another_row a b w x y h j k e = go (ltb a b) (ltb b a) refl refl
  where
    go : (s t : Bool) → ltb a b ≡ s → ltb b a ≡ t → ⊥
    go true t p q = other_row a b w x y (ltb-true a b p) j e
    go false true p q = other_row b a w y x (ltb-true b a q) k (sym e)
    go false false p q = h (omega (arith, ltb-false a b p, ltb-false b a q))

pub another_column : (a b w x y : ℕ) → (x ≡ y → ⊥) → x < w → y < w → a * w + x ≡ b * w + y → ⊥
another_column a b w x y h j k e = go (ltb x y) (ltb y x) refl refl
  where
    go : (s t : Bool) → ltb x y ≡ s → ltb y x ≡ t → ⊥
    go true t p q = other_column b a w y x (ltb-true x y p) k (sym e)
    go false true p q = other_column a b w x y (ltb-true y x q) j e
    go false false p q =
        let l = ltb-false x y p in
        let g = ltb-false y x q in
        h (omega arith)

-- a row, and a column, of a rows of b places
module _ (a b : ℕ) where
  pub row_line : (i : ℕ) → i < a → Line (a * b) (i * b) 1 b
  row_line i h q l = omega (arith, row_end i a b h (le_refl (a * b)), mul-one q)

  pub column_line : (j : ℕ) → j < b → Line (a * b) (j * 1) b a
  column_line j h q l = omega (arith, row_end q a b l (le_refl (a * b)), mul-one j)
