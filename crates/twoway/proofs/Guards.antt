-- An accepted design passes every guard inside the definitions that its sums of squares are made of: none of them is the zero, and no matrix the one, that stands for what does not fit.
-- So its counts of skipped columns are those told from the matrices.
use Prim.Native.Nat.{ℕ, ◌+◌, ◌-◌, ◌*◌, ◌<◌, ◌≤◌}
use mathlib.Core.Path.{◌≡◌, refl, sym, ap, ◌∙◌}
use mathlib.Core.List.{List}
use native.Mathlib.Omega.{arith}
use borrow.Author.Tests.{le-ltb, eq-eqb}
use lib.Ieee.{Float}
use lib.ListN.{length, get_or, take, replicate}
use lib.Seq.{get_or-take, length-take-le}
use Rattle.std.specs.Prelude.{Ok}
use Rattle.base.specs.Lists.{over}
use Rattle.base.proofs.Loops.{listed_length}
use Rattle.base.proofs.Order.{passed_answer}
use Rattle.float.specs.Words.{plus_zero}
use Rattle.matrix_linear.specs.System.{forward, skipped_count, backward}
use Rattle.matrix_linear.specs.Inverse.{unit, full_columns, skipped_inverse_count}
use Rattle.results.specs.declared.Skips.{Skips}
use Rattle.twoway_balanced.specs.Squares.{balanced_ss, effects_of}
use Rattle.twoway_cells.specs.Organized.{cell_order, left_alone, organize_two_way_data}
use Rattle.twoway_cells.proofs.Designs.{Held, held}
use Rattle.twoway_checks.specs.Cells.{cells, cell_counts}
use Rattle.twoway_checks.specs.Checks.{levels, two_way_refusal}
use Rattle.twoway_checks.specs.Data.{two_way_data}
use Rattle.twoway_means.specs.Table.{cell_mean, cell_means, no_cells}
use Rattle.twoway_normal.specs.Normal.{normal_system}
use Rattle.twoway_normal.proofs.Entries.{system_length}
use Rattle.twoway_normal.proofs.Sizes.{columns}
use Rattle.twoway_type3.specs.Answer.{cross_products, beta, inverse, solved_skips, effects_from, all_effects}
use Rattle.twoway_type3.specs.Wald.{block_of, cov_inv, cov_skips}
use Rattle.twoway_type3.proofs.Guards.{beta_there, inverse_there, skips_there, block_there, block_skips_there}
use Rattle.twoway.proofs.Counts.{some}

module _ (xs : List Float) (us vs : List ℕ) (a b : ℕ) where
  -- the normal equations
  abbrev pub system : List Float
  system = normal_system xs us vs a b

  abbrev pub means : List Float
  means = take (a * b) (cell_means (cells a b xs us vs) (a * b))

  abbrev pub first : ℕ
  first = get_or (cell_counts a b xs us vs) 0 0

  -- the block of the effect with the n columns from s on
  abbrev pub block : ℕ → ℕ → List Float
  block s n = block_of (a * b) s n (inverse system a b)

  -- it is inverted
  abbrev pub Inverted : ℕ → ℕ → Type 0
  Inverted s n = cov_inv (a * b) s n (inverse system a b) ≡ full_columns n (2 * n) (unit n (block s n))

  abbrev Counted : ℕ → ℕ → Type 0
  Counted s n = cov_skips (a * b) s n (inverse system a b) ≡ skipped_inverse_count n (block s n)

  -- the columns that elimination skips, told from each matrix
  abbrev pub told_skips : Skips
  told_skips = record {
    solver = skipped_count (a * b) (a * b + 1) system;
    inverse = skipped_inverse_count (a * b) (cross_products system a b);
    block_a = skipped_inverse_count (a - 1) (block 1 (a - 1));
    block_b = skipped_inverse_count (b - 1) (block a (b - 1));
    block_ab = skipped_inverse_count ((a - 1) * (b - 1)) (block (a + (b - 1)) ((a - 1) * (b - 1)));
  }

  -- everything is worked out
  pub record Worked : Type 0 where
    pub balanced : balanced_ss means first a b ≡ effects_of means first a b
    pub solved : beta system a b ≡ backward (a * b) (forward (a * b) (a * b + 1) system)
    pub inverted : inverse system a b ≡ full_columns (a * b) (2 * (a * b)) (unit (a * b) (cross_products system a b))
    pub block_a : Inverted 1 (a - 1)
    pub block_b : Inverted a (b - 1)
    pub block_ab : Inverted (a + (b - 1)) ((a - 1) * (b - 1))
    pub counted : (all_effects xs us vs a b).skips ≡ told_skips

  all_counted_lem : solved_skips system a b ≡ record { solver = told_skips.solver; inverse = told_skips.inverse }
      → Counted 1 (a - 1)
      → Counted a (b - 1)
      → Counted (a + (b - 1)) ((a - 1) * (b - 1))
      → (all_effects xs us vs a b).skips ≡ told_skips
  unfolding effects_from
  all_counted_lem s e f g = rw (s, e, f, g)

means_long : (cs : List (List Float)) (k : ℕ) → length (cell_means cs k) ≡ 36
unfolding cell_means no_cells
means_long cs k = listed_length k (cell_mean cs) (replicate 36 plus_zero)

balanced_worked : (ms : List Float) (r a b : ℕ) → a ≤ 6 → b ≤ 6 → r ≤ 512 → length ms ≡ a * b → balanced_ss ms r a b ≡ effects_of ms r a b
unfolding balanced_ss
balanced_worked ms r a b h k l e = rw (le-ltb 6 a h, le-ltb 6 b k, le-ltb 512 r l, eq-eqb (length ms) (a * b) e)

module _ (xs : List Float) (us vs : List ℕ) (scratch : List Float) (accepted : (two_way_refusal xs us vs (length scratch)).number ≡ 0) where
  abbrev a : ℕ
  a = levels us

  abbrev b : ℕ
  b = levels vs

  abbrev after : List Float
  after = over (cell_order a b xs us vs) scratch

  known : Held xs us vs scratch after (two_way_data a b xs us vs)
  unfolding organize_two_way_data
  known = held xs us vs scratch after {x = Ok (two_way_data a b xs us vs)} (sym (passed_answer (two_way_refusal xs us vs (length scratch)) (left_alone scratch) (after, Ok (two_way_data a b xs us vs)) accepted)) refl

  pub guards_passed : Worked xs us vs a b
  guards_passed =
      let c = columns a b known.low_a known.high_a known.low_b known.high_b in
      record {
        balanced = balanced_there;
        solved = beta_there (system xs us vs a b) a b known.high_a known.high_b whole;
        inverted = inverse_there (system xs us vs a b) a b known.high_a known.high_b whole;
        block_a = block_there (a * b) 1 (a - 1) (inverse (system xs us vs a b) a b) (omega (arith, known.high_a));
        block_b = block_there (a * b) a (b - 1) (inverse (system xs us vs a b) a b) (omega (arith, known.high_b));
        block_ab = block_there (a * b) (a + (b - 1)) ((a - 1) * (b - 1)) (inverse (system xs us vs a b) a b) (omega (arith, c));
        counted = counted_there;
      }
    where
      whole : length (system xs us vs a b) ≡ a * b * (a * b + 1)
      whole = system_length xs us vs a b

      counted_there : (all_effects xs us vs a b).skips ≡ told_skips xs us vs a b
      counted_there =
          let c = columns a b known.low_a known.high_a known.low_b known.high_b in
          all_counted_lem xs us vs a b (skips_there (system xs us vs a b) a b known.high_a known.high_b whole)
          (block_skips_there (a * b) 1 (a - 1) (inverse (system xs us vs a b) a b) (omega (arith, known.high_a)))
          (block_skips_there (a * b) a (b - 1) (inverse (system xs us vs a b) a b) (omega (arith, known.high_b)))
          (block_skips_there (a * b) (a + (b - 1)) ((a - 1) * (b - 1)) (inverse (system xs us vs a b) a b) (omega (arith, c)))

      cell : 0 < a * b
      cell = some a b {n = a * b} (omega (arith, known.low_a)) (omega (arith, known.low_b)) (omega arith)

      same : get_or (two_way_data a b xs us vs).cell_n 0 0 ≡ first xs us vs a b
      same = sym (get_or-take (a * b) (two_way_data a b xs us vs).cell_n 0 0 cell) ∙ ap (λ (ns : List ℕ). get_or ns 0 0) known.counts

      all : length (means xs us vs a b) ≡ a * b
      all = length-take-le (a * b) (cell_means (cells a b xs us vs) (a * b)) (omega (arith, known.few, wide))
        where
          wide : length (cell_means (cells a b xs us vs) (a * b)) ≡ 36
          wide = means_long (cells a b xs us vs) (a * b)

      balanced_there : balanced_ss (means xs us vs a b) (first xs us vs a b) a b ≡ effects_of (means xs us vs a b) (first xs us vs a b) a b
      balanced_there = balanced_worked (means xs us vs a b) (first xs us vs a b) a b known.high_a known.high_b (rw (← same) (known.small 0 cell)) all
