-- What stands in the columns of a reading's row: 1, the codes of A, those of B, their products, and the value.
use Prim.Native.Nat.{ℕ, ◌+◌, ◌-◌, ◌*◌, ◌<◌, ◌≤◌}
use mathlib.Core.Path.{◌≡◌, refl, ◌∙◌}
use mathlib.Core.Bool.{Bool, true, false}
use mathlib.Core.List.{List}
use native.Mathlib.Nat.{not-suc-le-zero}
use native.Mathlib.Omega.{arith}
use borrow.Author.Tests.{ltb-true, ltb-false}
use lib.Dec.{ltb}
use lib.ListN.{length, set, length-set, length-replicate}
use lib.Seq.{get_or-set_same, get_or-set_other}
use lib.Ieee.{Float, nan}
use Rattle.base.specs.Loop.{loop}
use Rattle.base.proofs.Bounds.{row_end}
use Rattle.base.proofs.Walks.{walks}
use Rattle.float.specs.Words.{◌⊗◌, plus_zero, one}
use Rattle.lent.specs.Wiping.{zeros}
use Rattle.matrix_places.specs.Places.{at}
use Rattle.twoway_normal.specs.Coding.{effect_code, code_at, codes_from, product_at, products_of, products, design_row}
use Rattle.twoway_normal.proofs.Built.{codes_length, products_length}
use Rattle.twoway_normal.proofs.Sizes.{cells_most, columns}

-- a loop that puts g j at place p + j, as long as the places before p are as they were
module _ (p n : ℕ) (f : ℕ → List Float → List Float) (g : ℕ → Float) (x : List Float) (room : p + n ≤ length x) where
  -- the places before p are as they were
  abbrev Before : List Float → Type 0
  Before s = (q : ℕ) → q < p → at s q ≡ at x q

  abbrev Put : ℕ → List Float → Type 0
  Put j s = (length s ≡ length x) × Before s × ((k : ℕ) → k < j → at s (p + k) ≡ g k)

  module _ (each : (j : ℕ) (s : List Float) → j < n → Before s → f j s ≡ set s (p + j) (g j)) where
    next : (j : ℕ) (s : List Float) → j < n → Put j s → Put (j + 1) (f j s)
    next j s h i = rw (each j s h i.1) (
      length-set s (p + j) (g j) ∙ i.0,
      (λ q l. get_or-set_other s (p + j) q (g j) nan (λ e. omega arith) ∙ i.1 q l),
      (λ k l. here k l (ltb k j) refl),
    )
      where
        here : (k : ℕ) → k < j + 1 → (t : Bool) → ltb k j ≡ t → at (set s (p + j) (g j)) (p + k) ≡ g k
        here k l true e =
            let b : k < j = ltb-true k j e in
            get_or-set_other s (p + j) (p + k) (g j) nan (λ q. omega arith) ∙ i.2 k b
        here k l false e =
            let b : j ≤ k = ltb-false k j e in
            let q : k ≡ j = omega arith in
            rw q (get_or-set_same s (p + j) (g j) nan (omega (arith, i.0)))

    pub puts : Put n (loop 0 n f x)
    puts = walks f Put n next 0 x (omega arith) (refl, (λ q l. refl), (λ k l. absurd (not-suc-le-zero l)))

-- the columns of a factor
module _ (p levels u : ℕ) (x : List Float) (room : p + (levels - 1) ≤ length x) where
  codes_put : Put p (levels - 1) (code_at p levels u) (effect_code levels u) x room (levels - 1) (codes_from p levels u x)
  unfolding codes_from
  codes_put = puts p (levels - 1) (code_at p levels u) (effect_code levels u) x room (λ j s h b. refl)

-- the products, where x has the columns of both factors
module _ (a b : ℕ) (low : 2 ≤ a) (high : 2 ≤ b) (x : List Float) (room : a * b ≤ length x) (all : a + (b - 1) + (a - 1) * (b - 1) ≡ a * b) where
  abbrev base : ℕ
  base = a + (b - 1)

  abbrev product : ℕ → ℕ → Float
  product ka kb = at x (1 + ka) ⊗ at x (a + kb)

  abbrev Laid : ℕ → List Float → Type 0
  Laid i s = (length s ≡ length x) × ((q : ℕ) → q < base → at s q ≡ at x q) × ((ka kb : ℕ) → ka < i → kb < b - 1 → at s (base + (ka * (b - 1) + kb)) ≡ product ka kb)

  laid_next : (i : ℕ) (s : List Float) → i < a - 1 → Laid i s → Laid (i + 1) (products_of a b i s)
  unfolding products_of
  laid_next i s h l = (
    r.0 ∙ l.0,
    (λ q k. r.1 q (omega arith) ∙ l.1 q k),
    (λ ka kb k m. here ka kb k m (ltb ka i) refl),
  )
    where
      p : ℕ
      p = base + i * (b - 1)

      inside : p + (b - 1) ≤ length s
      inside = omega (arith, row_end i (a - 1) (b - 1) {len = (a - 1) * (b - 1)} h (omega arith), all, l.0)

      r : Put p (b - 1) (product_at a b i) (product i) s inside (b - 1) (loop 0 (b - 1) (product_at a b i) s)
      r = puts p (b - 1) (product_at a b i) (product i) s inside (λ j t k m.
          let e : base + (i * (b - 1) + j) ≡ p + j = omega arith in
          let c : at t (1 + i) ≡ at x (1 + i) = m (1 + i) (omega arith) ∙ l.1 (1 + i) (omega arith) in
          let d : at t (a + j) ≡ at x (a + j) = m (a + j) (omega arith) ∙ l.1 (a + j) (omega arith) in
          rw (c, d, e))

      here : (ka kb : ℕ) → ka < i + 1 → kb < b - 1 → (t : Bool) → ltb ka i ≡ t → at (loop 0 (b - 1) (product_at a b i) s) (base + (ka * (b - 1) + kb)) ≡ product ka kb
      here ka kb k m true e =
          let c : ka < i = ltb-true ka i e in
          let n : base + (ka * (b - 1) + kb) < p = omega (arith, row_end ka i (b - 1) {len = i * (b - 1)} c (omega arith)) in
          r.1 (base + (ka * (b - 1) + kb)) n ∙ l.2 ka kb c m
      here ka kb k m false e =
          let c : i ≤ ka = ltb-false ka i e in
          let q : ka ≡ i = omega arith in
          let n : base + (i * (b - 1) + kb) ≡ p + kb = omega arith in
          rw (q, n) (r.2 kb m)

  products_laid : Laid (a - 1) (products a b x)
  unfolding products
  products_laid = walks (products_of a b) Laid (a - 1) laid_next 0 x (omega arith) (refl, (λ q l. refl), (λ ka kb k m. absurd (not-suc-le-zero k)))

module _ (a b u v : ℕ) (y : Float) (low-a : 2 ≤ a) (high-a : a ≤ 6) (low-b : 2 ≤ b) (high-b : b ≤ 6) where
  abbrev x₀ : List Float
  x₀ = set (zeros 37) 0 one

  abbrev x₁ : List Float
  x₁ = codes_from 1 a u x₀

  abbrev x₂ : List Float
  x₂ = codes_from a b v x₁

  abbrev x₃ : List Float
  x₃ = products a b x₂

  long₀ : length x₀ ≡ 37
  unfolding zeros
  long₀ = length-set (zeros 37) 0 one ∙ length-replicate 37 plus_zero

  long₁ : length x₁ ≡ 37
  long₁ = codes_length 1 a u x₀ ∙ long₀

  long₂ : length x₂ ≡ 37
  long₂ = codes_length a b v x₁ ∙ long₁

  long₃ : length x₃ ≡ 37
  long₃ = products_length a b x₂ ∙ long₂

  count : a + (b - 1) + (a - 1) * (b - 1) ≡ a * b
  count = (columns a b low-a high-a low-b high-b).2

  most : a * b ≤ 36
  most = cells_most a b high-a high-b

  inside : a * b ≤ length x₂
  inside = omega (arith, most, long₂)

  -- a place before the value
  kept : (q : ℕ) → q < a * b → at (design_row a b u v y) q ≡ at x₃ q
  unfolding design_row
  kept q h = get_or-set_other x₃ (a * b) q y nan (λ e. omega arith)

  -- and before the products, and before the columns of B
  kept₂ : (q : ℕ) → q < a + (b - 1) → at (design_row a b u v y) q ≡ at x₂ q
  kept₂ q h = kept q (omega (arith, count)) ∙ (products_laid a b low-a low-b x₂ inside count).1 q h

  kept₁ : (q : ℕ) → q < a → at x₂ q ≡ at x₁ q
  kept₁ q h = (codes_put a b v x₁ (omega (arith, long₁))).1 q h

  codes_a : (k : ℕ) → k < a - 1 → at x₂ (1 + k) ≡ effect_code a u k
  codes_a k h = kept₁ (1 + k) (omega arith) ∙ (codes_put 1 a u x₀ (omega (arith, long₀))).2 k h

  codes_b : (k : ℕ) → k < b - 1 → at x₂ (a + k) ≡ effect_code b v k
  codes_b k h = (codes_put a b v x₁ (omega (arith, long₁))).2 k h

  pub row_first : at (design_row a b u v y) 0 ≡ one
  unfolding zeros
  row_first = kept₂ 0 (omega arith) ∙ kept₁ 0 (omega arith) ∙ (codes_put 1 a u x₀ (omega (arith, long₀))).1 0 (omega arith)

  pub row_a : (k : ℕ) → k < a - 1 → at (design_row a b u v y) (1 + k) ≡ effect_code a u k
  row_a k h = kept₂ (1 + k) (omega arith) ∙ codes_a k h

  pub row_b : (k : ℕ) → k < b - 1 → at (design_row a b u v y) (a + k) ≡ effect_code b v k
  row_b k h = kept₂ (a + k) (omega arith) ∙ codes_b k h

  pub row_ab : (ka kb : ℕ) → ka < a - 1 → kb < b - 1 → at (design_row a b u v y) (a + (b - 1) + (ka * (b - 1) + kb)) ≡ effect_code a u ka ⊗ effect_code b v kb
  row_ab ka kb h k =
      let l : a + (b - 1) + (ka * (b - 1) + kb) < a * b = omega (arith, count, row_end ka (a - 1) (b - 1) {len = (a - 1) * (b - 1)} h (omega arith)) in
      kept (a + (b - 1) + (ka * (b - 1) + kb)) l
      ∙ (products_laid a b low-a low-b x₂ inside count).2 ka kb h k
      ∙ rw (codes_a ka h, codes_b kb k)

  pub row_value : at (design_row a b u v y) (a * b) ≡ y
  unfolding design_row
  row_value = get_or-set_same x₃ (a * b) y nan (omega (arith, most, long₃))
