-- The call, from the design that the checks answered with and what the sort left in the scratch.
use mathlib.Core.Path.{◌≡◌, sym, ap, ◌∙◌}
use mathlib.Core.List.{List, flatten}
use Prim.Native.Nat.{ℕ, ◌<◌}
use native.Mathlib.Omega.{arith}
use lib.Ieee.{Float}
use lib.ListN.{length}
use Rattle.std.specs.Prelude.{Result, Ok, Err}
use Rattle.base.specs.declared.Refusal.{Refusal}
use Rattle.base.specs.Lists.{over}
use Rattle.base.proofs.Order.{passed_answer, refused_answer, was_passed, was_refused}
use Rattle.base.proofs.Judged.{was_answered}
use Rattle.base.proofs.Cuts.{total_flatten}
use Rattle.base.proofs.Runs.{length_over}
use Rattle.twoway_checks.specs.declared.TwoWayData.{TwoWayData}
use Rattle.twoway_checks.specs.Cells.{cells, cell_counts}
use Rattle.twoway_checks.specs.Checks.{levels, two_way_refusal}
use Rattle.twoway_checks.specs.Data.{no_counts, two_way_data, checked_data}
use Rattle.twoway_checks.specs.Inner.{keys, sorted}
use Rattle.twoway_checks.proofs.Doors.{Passed, passed, coded, at_most_36, tally_counts}
use Rattle.twoway_cells.specs.Organized.{cell_order, left_alone, organize_two_way_data}
use Rattle.twoway_cells.specs.Inner.{Tallied}
use Rattle.twoway_cells.proofs.Orders.{sorted_order}

-- the answer x of the checks, and the design d that they handed back
module _ (xs : List Float) (us vs : List ℕ) (scratch : List Float) {x : Result TwoWayData Refusal} (e : x ≡ checked_data xs us vs (length scratch)) where
  pub organized_refused : {r : Refusal} → x ≡ Err r → (scratch, Err r) ≡ organize_two_way_data xs us vs scratch
  unfolding checked_data organize_two_way_data
  organized_refused p =
      let w = was_refused (two_way_refusal xs us vs (length scratch)) _ e p in
      sym (refused_answer (two_way_refusal xs us vs (length scratch)) (left_alone scratch) _ w.1 ∙ ap (left_alone scratch) w.0)

  module _ {d : TwoWayData} (z : x ≡ Ok d) where
    passes : (two_way_refusal xs us vs (length scratch)).number ≡ 0
    unfolding checked_data
    passes = was_passed _ _ e z

    data_told : d ≡ two_way_data (levels us) (levels vs) xs us vs
    unfolding checked_data
    data_told = was_answered (two_way_refusal xs us vs (length scratch)) _ e z

    here : Passed xs us vs (length scratch)
    here = passed xs us vs (length scratch) passes

    its_levels : d.levels_b ≡ levels vs
    its_levels = ap (λ (x : TwoWayData). x.levels_b) data_told

    its_counts : d.cell_n ≡ over (cell_counts (levels us) (levels vs) xs us vs) no_counts
    its_counts = ap (λ (x : TwoWayData). x.cell_n) data_told

    pub organized_tallied : Tallied xs us vs d.levels_b d.cell_n scratch
    organized_tallied =
        let k = here.design in
        rw (its_levels, its_counts) (record {
          coded = coded xs us vs (levels us) (levels vs) k;
          same = k.same_a;
          counts = sym (tally_counts xs us vs (levels us) (levels vs) k);
          room = omega (arith, here.shape.places, k.readings);
        })

    pub organized_narrow : d.levels_b < 4294967296
    organized_narrow = omega (arith, its_levels, here.design.high_b)

    order_is : flatten (sorted (keys d.levels_b us vs) xs) ≡ cell_order (levels us) (levels vs) xs us vs
    order_is =
        let k = here.design in
        let o = sorted_order (levels us) (levels vs) xs us vs k.same_a k.same_b (omega arith) (omega arith) (at_most_36 xs us vs (levels us) (levels vs) k) in
        rw (its_levels, o)

    -- `after` is what the sort left in the scratch
    pub organized_length : (after : List Float) → after ≡ over (flatten (sorted (keys d.levels_b us vs) xs)) scratch → length after ≡ length scratch
    organized_length after p =
        let n : length (cell_order (levels us) (levels vs) xs us vs) ≡ length xs = sym (total_flatten (cells (levels us) (levels vs) xs us vs)) ∙ here.adds in
        rw (p, order_is) (length_over (cell_order (levels us) (levels vs) xs us vs) scratch (omega (arith, here.shape)))

    pub organized_passed : (after : List Float) → after ≡ over (flatten (sorted (keys d.levels_b us vs) xs)) scratch → (after, Ok d) ≡ organize_two_way_data xs us vs scratch
    unfolding organize_two_way_data
    organized_passed after p =
        let q : after ≡ over (cell_order (levels us) (levels vs) xs us vs) scratch = p ∙ ap (λ (front : List Float). over front scratch) order_is in
        rw (q, data_told) (sym (passed_answer (two_way_refusal xs us vs (length scratch)) (left_alone scratch) _ passes))
