-- The row of a reading: its length, and the steps by which it is made.
use Prim.Native.Nat.{ℕ, ◌-◌, ◌*◌}
use mathlib.Core.Path.{◌≡◌, ◌∙◌}
use mathlib.Core.List.{List}
use lib.ListN.{length, set, length-set, length-replicate}
use lib.Ieee.{Float}
use Rattle.base.proofs.Loops.{loop_length}
use Rattle.float.specs.Words.{plus_zero, one}
use Rattle.lent.specs.Wiping.{zeros}
use Rattle.twoway_normal.specs.Coding.{code_at, codes_from, product_at, products_of, products, design_row}

pub codes_length : (p levels u : ℕ) (x : List Float) → length (codes_from p levels u x) ≡ length x
unfolding codes_from
codes_length p levels u x = loop_length 0 (levels - 1) (code_at p levels u) (λ k s. simp length-set) x

pub products_length : (a b : ℕ) (x : List Float) → length (products a b x) ≡ length x
unfolding products products_of
products_length a b x = loop_length 0 (a - 1) (products_of a b) (λ ka s. loop_length 0 (b - 1) (product_at a b ka) (λ kb t. simp length-set) s) x

module _ (a b u v : ℕ) (y : Float) where
  pub row_length : length (design_row a b u v y) ≡ 37
  unfolding design_row zeros
  row_length =
      let x₀ = set (zeros 37) 0 one in
      let x₁ = codes_from 1 a u x₀ in
      let x₂ = codes_from a b v x₁ in
      length-set (products a b x₂) (a * b) y
      ∙ products_length a b x₂
      ∙ codes_length a b v x₁
      ∙ codes_length 1 a u x₀
      ∙ length-set (zeros 37) 0 one
      ∙ length-replicate 37 plus_zero

  -- x is the memory after each step
  pub row_built : {x₀ x₁ x₂ x₃ : List Float} → x₀ ≡ set (zeros 37) 0 one → x₁ ≡ codes_from 1 a u x₀ → x₂ ≡ codes_from a b v x₁ → x₃ ≡ products a b x₂ → set x₃ (a * b) y ≡ design_row a b u v y
  unfolding design_row
  row_built p q r s = rw (s, r, q, p)
