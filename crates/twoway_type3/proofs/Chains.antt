-- Calls one after another on parts of the lent memory: w₀, w₁, .. is the memory, and x what a call left in the part that it was lent.
use Prim.Native.Nat.{ℕ, ◌+◌, ◌-◌, ◌*◌, ◌<◌, ◌≤◌}
use mathlib.Core.Path.{◌≡◌, ap, ◌∙◌}
use mathlib.Core.List.{List, ◌++◌}
use native.Mathlib.Omega.{arith}
use lib.ListN.{length, take, drop}
use lib.Ieee.{Float}
use Rattle.base.specs.Limits.{most_cells, scratch_places}
use Rattle.base.specs.Lists.{part, within}
use Rattle.matrix_linear.specs.declared.Elimination.{Elimination}
use Rattle.matrix_linear.specs.System.{solve_linear_system}
use Rattle.matrix_linear.specs.Inverse.{matrix_inverse}
use Rattle.matrix_linear.proofs.Lengths.{solve_length, inverse_length}
use Rattle.twoway_normal.specs.Tables.{table}
use Rattle.twoway_normal.proofs.Entries.{length_places}
use Rattle.twoway_normal.proofs.Lent.{length_part, part_of_taken, laid_length, laid_same, laid_taken, laid_before, laid_after}
use Rattle.twoway_normal.proofs.Sizes.{system_most}
use Rattle.twoway_type3.specs.Matrices.{left_half}
use Rattle.twoway_type3.specs.Inner.{half_at, inverse_from, block_from, most_columns}
use Rattle.twoway_type3.specs.declared.wald.Effect.{Effect}
use Rattle.twoway_type3.specs.declared.wald.Solved.{Solved}
use Rattle.twoway_type3.specs.Wald.{wald_sum, block_of, cov_inv, cov_skips, wald_ss}
use Rattle.twoway_type3.specs.Answer.{cross_products, beta, inverse, solved_skips, effects_from}
use Rattle.twoway_type3.proofs.Sizes.{inverse_most, block_most, system_rows, block_rows}
use Rattle.twoway_type3.proofs.Halves.{half_part}

pub half_length : (n from w : ℕ) (m : List Float) → length (left_half n from w m) ≡ n * (2 * n)
unfolding left_half table
half_length n from w m = length_places 0 (n * (2 * n)) (half_at n from w m)

-- what is put in the place of part a, k
abbrev laid : ℕ → ℕ → List Float → List Float → List Float
laid a k x s = take a s ++ (x ++ drop k (drop a s))

-- an effect: its block is laid behind the inverse, and inverted there
module _ (p s n : ℕ) (z : 0 < n) (few : n ≤ most_columns) (inside : s + n ≤ p) (most : p ≤ most_cells) (w₀ : List Float) (long : length w₀ ≡ scratch_places) where
  pub wald_chain : {w₁ x : List Float} {t : Elimination} {r : Float}
      → w₁ ≡ within block_from (n * (2 * n)) (λ _. left_half n (inverse_from + (s * (2 * p) + (p + s))) (2 * p) w₀) w₀
      → (x, t) ≡ matrix_inverse n (part block_from (n * (2 * n)) w₁)
      → r ≡ wald_sum p s n (part 0 (p * (p + 1)) (laid block_from (n * (2 * n)) x w₁)) (part block_from (n * (2 * n)) (laid block_from (n * (2 * n)) x w₁))
      → (record { ss = r; skipped = t.skipped } ≡ wald_ss p s n (part 0 (p * (p + 1)) w₀) (part inverse_from (p * (2 * p)) w₀)) × (take block_from (laid block_from (n * (2 * n)) x w₁) ≡ take block_from w₀)
  unfolding cov_inv cov_skips within
  wald_chain {w₁} {x} {t} {r} e f g = (λ i. record { ss = sum i; skipped = (inverted i).1.skipped }, taken)
    where
      k : ℕ
      k = n * (2 * n)

      h : List Float
      h = left_half n (inverse_from + (s * (2 * p) + (p + s))) (2 * p) w₀

      room : block_from + n * (2 * n) ≤ length w₀
      room = omega (arith, block_most n few)

      long₁ : length w₁ ≡ scratch_places
      long₁ = ap length e ∙ laid_length block_from k h w₀ room (half_length n (inverse_from + (s * (2 * p) + (p + s))) (2 * p) w₀) ∙ long

      room₁ : block_from + n * (2 * n) ≤ length w₁
      room₁ = omega (arith, block_most n few, long₁)

      block : part block_from k w₁ ≡ h
      block = ap (part block_from k) e ∙ laid_same block_from k h w₀ room (half_length n (inverse_from + (s * (2 * p) + (p + s))) (2 * p) w₀)

      long_x : length x ≡ n * (2 * n)
      long_x = ap (λ (y : List Float × Elimination). length y.0) f ∙ inverse_length n (part block_from k w₁) ∙ length_part block_from k w₁ room₁

      taken : take block_from (laid block_from k x w₁) ≡ take block_from w₀
      taken = laid_taken block_from k x w₁ room₁ long_x block_from (omega arith) ∙ ap (take block_from) e ∙ laid_taken block_from k h w₀ room (half_length n (inverse_from + (s * (2 * p) + (p + s))) (2 * p) w₀) block_from (omega arith)

      front : part 0 (p * (p + 1)) (laid block_from k x w₁) ≡ part 0 (p * (p + 1)) w₀
      front = part_of_taken 0 (p * (p + 1)) block_from (laid block_from k x w₁) w₀ (omega (arith, system_most p most)) taken

      inverted : (x, t) ≡ matrix_inverse n (block_of p s n (part inverse_from (p * (2 * p)) w₀))
      inverted = f ∙ ap (matrix_inverse n) (block ∙ half_part n (s * (2 * p) + (p + s)) (2 * p) inverse_from (p * (2 * p)) w₀ z (block_rows p s n inside))

      back : part block_from k (laid block_from k x w₁) ≡ (matrix_inverse n (block_of p s n (part inverse_from (p * (2 * p)) w₀))).0
      back = laid_same block_from k x w₁ room₁ long_x ∙ ap (λ (y : List Float × Elimination). y.0) inverted

      sum : r ≡ wald_sum p s n (part 0 (p * (p + 1)) w₀) (matrix_inverse n (block_of p s n (part inverse_from (p * (2 * p)) w₀))).0
      sum = g ∙ ap (λ (b : List Float). wald_sum p s n b (part block_from k (laid block_from k x w₁))) front ∙ ap (wald_sum p s n (part 0 (p * (p + 1)) w₀)) back

  -- the same, where j and k are the lengths of the parts as the code works them out
  pub wald_lent : (j k : ℕ) → j ≡ p * (p + 1) → k ≡ n * (2 * n) → {w₁ x : List Float} {t : Elimination} {r : Float}
      → w₁ ≡ within block_from (n * (2 * n)) (λ _. left_half n (inverse_from + (s * (2 * p) + (p + s))) (2 * p) w₀) w₀
      → (x, t) ≡ matrix_inverse n (take k (drop block_from w₁))
      → r ≡ wald_sum p s n (take j (drop 0 (laid block_from k x w₁))) (take k (drop block_from (laid block_from k x w₁)))
      → (record { ss = r; skipped = t.skipped } ≡ wald_ss p s n (part 0 (p * (p + 1)) w₀) (part inverse_from (p * (2 * p)) w₀)) × (take block_from (laid block_from k x w₁) ≡ take block_from w₀)
  unfolding part
  wald_lent j k ej ek e f g = rw ek (wald_chain e (rw ek at f) (rw (ej, ek) at g))

-- the system m, in the first places of w₁, is copied, solved and inverted
module _ (a b : ℕ) (some : 0 < a * b) (most : a * b ≤ most_cells) (w₁ : List Float) (long₁ : length w₁ ≡ scratch_places) where
  abbrev m : List Float
  m = part 0 (a * b * (a * b + 1)) w₁

  pub solve_chain : {w₂ x₃ x₄ : List Float} {t₃ t₄ : Elimination}
      → w₂ ≡ within inverse_from (a * b * (2 * (a * b))) (λ _. left_half (a * b) 0 (a * b + 1) w₁) w₁
      → (x₃, t₃) ≡ solve_linear_system (a * b) (part 0 (a * b * (a * b + 1)) w₂)
      → (x₄, t₄) ≡ matrix_inverse (a * b) (part inverse_from (a * b * (2 * (a * b))) (laid 0 (a * b * (a * b + 1)) x₃ w₂))
      → (part 0 (a * b * (a * b + 1)) (laid inverse_from (a * b * (2 * (a * b))) x₄ (laid 0 (a * b * (a * b + 1)) x₃ w₂)) ≡ beta m a b)
      × (part inverse_from (a * b * (2 * (a * b))) (laid inverse_from (a * b * (2 * (a * b))) x₄ (laid 0 (a * b * (a * b + 1)) x₃ w₂)) ≡ inverse m a b)
      × (record { solver = t₃.skipped; inverse = t₄.skipped } ≡ solved_skips m a b)
  unfolding beta inverse solved_skips within
  solve_chain {w₂} {x₃} {x₄} {t₃} {t₄} e₂ e₃ e₄ = (front, back, λ i. record { solver = (solved i).1.skipped; inverse = (inverted i).1.skipped })
    where
      p : ℕ
      p = a * b

      z : ℕ
      z = a * b * (a * b + 1)

      k : ℕ
      k = a * b * (2 * (a * b))

      h : List Float
      h = left_half p 0 (p + 1) w₁

      zs : a * b * (a * b + 1) ≤ inverse_from
      zs = system_most (a * b) most

      ks : a * b * (2 * (a * b)) ≤ most_cells * (2 * most_cells)
      ks = inverse_most (a * b) most

      room₁ : inverse_from + k ≤ length w₁
      room₁ = omega (arith, ks, long₁)

      long_h : length h ≡ k
      long_h = half_length p 0 (p + 1) w₁

      long₂ : length w₂ ≡ scratch_places
      long₂ = ap length e₂ ∙ laid_length inverse_from k h w₁ room₁ long_h ∙ long₁

      room₂ : 0 + z ≤ length w₂
      room₂ = omega (arith, zs, long₂)

      system : part 0 z w₂ ≡ m
      system = ap (part 0 z) e₂ ∙ laid_before inverse_from k h w₁ room₁ long_h 0 z (omega (arith, zs))

      half : part inverse_from k w₂ ≡ cross_products m a b
      half = ap (part inverse_from k) e₂ ∙ laid_same inverse_from k h w₁ room₁ long_h ∙ half_part p 0 (p + 1) 0 z w₁ some (system_rows p)

      solved : (x₃, t₃) ≡ solve_linear_system p m
      solved = e₃ ∙ ap (solve_linear_system p) system

      long_x₃ : length x₃ ≡ z
      long_x₃ = ap (λ (y : List Float × Elimination). length y.0) e₃ ∙ solve_length p (part 0 z w₂) ∙ length_part 0 z w₂ room₂

      w₃ : List Float
      w₃ = laid 0 z x₃ w₂

      long₃ : length w₃ ≡ scratch_places
      long₃ = laid_length 0 z x₃ w₂ room₂ long_x₃ ∙ long₂

      room₃ : inverse_from + k ≤ length w₃
      room₃ = omega (arith, ks, long₃)

      inverted : (x₄, t₄) ≡ matrix_inverse p (cross_products m a b)
      inverted = e₄ ∙ ap (matrix_inverse p) (laid_after 0 z x₃ w₂ room₂ long_x₃ inverse_from k (omega (arith, zs)) ∙ half)

      long_x₄ : length x₄ ≡ k
      long_x₄ = ap (λ (y : List Float × Elimination). length y.0) e₄ ∙ inverse_length p (part inverse_from k w₃) ∙ length_part inverse_from k w₃ room₃

      front : part 0 z (laid inverse_from k x₄ w₃) ≡ (solve_linear_system p m).0
      front =
          laid_before inverse_from k x₄ w₃ room₃ long_x₄ 0 z (omega (arith, zs))
          ∙ laid_same 0 z x₃ w₂ room₂ long_x₃
          ∙ ap (λ (y : List Float × Elimination). y.0) solved

      back : part inverse_from k (laid inverse_from k x₄ w₃) ≡ (matrix_inverse p (cross_products m a b)).0
      back = laid_same inverse_from k x₄ w₃ room₃ long_x₄ ∙ ap (λ (y : List Float × Elimination). y.0) inverted

  -- the same, where j and k are the lengths of the parts as the code works them out
  pub solve_lent : (j k : ℕ) → j ≡ a * b * (a * b + 1) → k ≡ a * b * (2 * (a * b)) → {w₂ x₃ x₄ : List Float} {t₃ t₄ : Elimination}
      → w₂ ≡ within inverse_from (a * b * (2 * (a * b))) (λ _. left_half (a * b) 0 (a * b + 1) w₁) w₁
      → (x₃, t₃) ≡ solve_linear_system (a * b) (take j (drop 0 w₂))
      → (x₄, t₄) ≡ matrix_inverse (a * b) (take k (drop inverse_from (laid 0 j x₃ w₂)))
      → (part 0 (a * b * (a * b + 1)) (laid inverse_from k x₄ (laid 0 j x₃ w₂)) ≡ beta m a b)
      × (part inverse_from (a * b * (2 * (a * b))) (laid inverse_from k x₄ (laid 0 j x₃ w₂)) ≡ inverse m a b)
      × (record { solver = t₃.skipped; inverse = t₄.skipped } ≡ solved_skips m a b)
  unfolding part
  solve_lent j k ej ek e₂ e₃ e₄ = rw (ej, ek) (solve_chain e₂ (rw ej at e₃) (rw (ej, ek) at e₄))

-- the three effects, one after another: each leaves the coefficients and the inverse as they were
module _ (m : List Float) (a b : ℕ) (most : a * b ≤ most_cells) where
  abbrev pub front : List Float → List Float
  front w = part 0 (a * b * (a * b + 1)) w

  abbrev pub back : List Float → List Float
  back w = part inverse_from (a * b * (2 * (a * b))) w

  abbrev pub Ready : List Float → Type 0
  Ready w = (front w ≡ beta m a b) × (back w ≡ inverse m a b)

  still : (v w : List Float) → Ready v → take block_from w ≡ take block_from v → Ready w
  still v w r e = (
    part_of_taken 0 (a * b * (a * b + 1)) block_from w v (omega (arith, system_most (a * b) most)) e ∙ r.0,
    part_of_taken inverse_from (a * b * (2 * (a * b))) block_from w v (omega (arith, inverse_most (a * b) most)) e ∙ r.1,
  )

  one : (s n : ℕ) (w : List Float) {r : Effect} → Ready w → r ≡ wald_ss (a * b) s n (front w) (back w) → r ≡ wald_ss (a * b) s n (beta m a b) (inverse m a b)
  one s n w r e = e ∙ rw (r.0, r.1)

  abbrev pub Wald : ℕ → ℕ → Effect → List Float → List Float → Type 0
  Wald s n r v w = (r ≡ wald_ss (a * b) s n (front v) (back v)) × (take block_from w ≡ take block_from v)

  pub effects_chain : (w₁ w₂ w₃ w₄ : List Float) {q : Solved} {r₁ r₂ r₃ : Effect} → Ready w₁ → q ≡ solved_skips m a b
      → Wald 1 (a - 1) r₁ w₁ w₂
      → Wald a (b - 1) r₂ w₂ w₃
      → Wald (a + (b - 1)) ((a - 1) * (b - 1)) r₃ w₃ w₄
      → record {
        ss_a = r₁.ss;
        ss_b = r₂.ss;
        ss_ab = r₃.ss;
        skips = record { solver = q.solver; inverse = q.inverse; block_a = r₁.skipped; block_b = r₂.skipped; block_ab = r₃.skipped };
      }
      ≡ effects_from m a b
  unfolding effects_from
  effects_chain w₁ w₂ w₃ w₄ r d e f g =
      let r₂ = still w₁ w₂ r e.1 in
      let r₃ = still w₂ w₃ r₂ f.1 in
      rw (d, one 1 (a - 1) w₁ r e.0, one a (b - 1) w₂ r₂ f.0, one (a + (b - 1)) ((a - 1) * (b - 1)) w₃ r₃ g.0)
