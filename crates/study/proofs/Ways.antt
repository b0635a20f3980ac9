-- The ways through a study: refused by two-way's checks, refused for want of balance, answered.
use mathlib.Core.Path.{◌≡◌, refl, sym, ap, ◌∙◌}
use mathlib.Core.List.{List}
use Prim.Native.Nat.{ℕ, ◌*◌, ◌≤◌, ◌<◌}
use native.Mathlib.Omega.{arith}
use native.Mathlib.Nat.{mul-le-mul}
use lib.Ieee.{Float}
use lib.ListN.{length, get_or, take}
use lib.Seq.{get_or-take, length-take-le}
use Rattle.base.specs.declared.Refusal.{Refusal}
use Rattle.base.specs.Lists.{over}
use Rattle.base.proofs.Order.{first_wins, second_asked, passed_answer, refused_answer, was_passed, was_refused}
use Rattle.base.proofs.Judged.{was_answered}
use Rattle.base.specs.Refusals.{verdict}
use Rattle.std.specs.Prelude.{Result, Ok, Err, ⊤}
use Rattle.twoway_checks.specs.declared.TwoWayData.{TwoWayData}
use Rattle.twoway_checks.specs.Cells.{cell_counts}
use Rattle.twoway_checks.specs.Checks.{levels, two_way_refusal}
use Rattle.twoway_checks.specs.Data.{checked_data, two_way_data}
use Rattle.twoway_cells.specs.Organized.{cell_order, organize_two_way_data, left_alone}
use Rattle.twoway_cells.proofs.Designs.{Held, held}
use Rattle.lent.specs.Wiping.{wiped}
use Rattle.twoway.specs.declared.TwoWayAnovaResult.{TwoWayAnovaResult}
use Rattle.twoway.specs.Results.{answer_of}
use Rattle.twoway.specs.Anova.{two_way_anova, two_way_of, untouched}
use Rattle.study.specs.declared.GaugeStudy.{GaugeStudy}
use Rattle.study.specs.Study.{balance_refusal, study_refusal, refused_study, components_of, gauge_study}
use Rattle.study.specs.Study.{untouched as alone}

-- the answer x of two-way's checks
module _ (xs : List Float) (us vs : List ℕ) (scratch : List Float) {x : Result TwoWayData Refusal} (e : x ≡ checked_data xs us vs (length scratch)) where
  -- refused by them
  pub not_passed : (r : GaugeStudy) {s : Refusal} → x ≡ Err s → r ≡ refused_study s → ◌≡◌ {A = List Float × GaugeStudy} (scratch, r) (gauge_study xs us vs scratch)
  unfolding checked_data gauge_study study_refusal
  not_passed r p q =
      let w = was_refused (two_way_refusal xs us vs (length scratch)) _ e p in
      rw (q, ← w.0, first_wins (two_way_refusal xs us vs (length scratch)) (balance_refusal (cell_counts (levels us) (levels vs) xs us vs)) w.1) (sym (refused_answer (two_way_refusal xs us vs (length scratch)) (alone scratch) _ w.1))

-- two-way's checks were asked, and handed back the design d
pub record Checked (xs : List Float) (us vs : List ℕ) (scratch : List Float) (d : TwoWayData) : Type 0 where
  pub passed : (two_way_refusal xs us vs (length scratch)).number ≡ 0
  pub handed : d ≡ two_way_data (levels us) (levels vs) xs us vs

pub checked : (xs : List Float) (us vs : List ℕ) (scratch : List Float) {x : Result TwoWayData Refusal} {d : TwoWayData} → x ≡ checked_data xs us vs (length scratch) → x ≡ Ok d → Checked xs us vs scratch d
unfolding checked_data
checked xs us vs scratch e p = record { passed = was_passed (two_way_refusal xs us vs (length scratch)) _ e p; handed = was_answered (two_way_refusal xs us vs (length scratch)) _ e p }

module _ (xs : List Float) (us vs : List ℕ) (scratch : List Float) (d : TwoWayData) (k : Checked xs us vs scratch d) where
  -- the design as if its readings had been laid into the scratch
  pub design : Held xs us vs scratch (over (cell_order (levels us) (levels vs) xs us vs) scratch) d
  unfolding organize_two_way_data
  design =
      held xs us vs scratch _ {x = Ok d}
      (rw k.handed (sym (passed_answer (two_way_refusal xs us vs (length scratch)) (left_alone scratch) _ k.passed))) refl

  abbrev a : ℕ
  a = d.levels_a

  abbrev b : ℕ
  b = d.levels_b

  pub counts_length : length (take (a * b) d.cell_n) ≡ a * b
  counts_length = length-take-le (a * b) d.cell_n (omega (arith, design.few, design.wide))

  pub some : 0 < a * b
  some = let four : 2 * 2 ≤ a * b = mul-le-mul design.low_a design.low_b in omega (arith, four)

  -- the counts at hand are the cells'
  are_counts : take (a * b) d.cell_n ≡ cell_counts (levels us) (levels vs) xs us vs
  are_counts = rw (← design.is_a, ← design.is_b) design.counts

  both : (study_refusal xs us vs (length scratch)) ≡ balance_refusal (take (a * b) d.cell_n)
  unfolding study_refusal
  both = rw are_counts (second_asked (two_way_refusal xs us vs (length scratch)) _ k.passed)

  -- refused for want of balance
  pub not_balanced : {u : Result ⊤ Refusal} {s : Refusal} (r : GaugeStudy) → u ≡ verdict (balance_refusal (take (a * b) d.cell_n)) → u ≡ Err s → r ≡ refused_study s → ◌≡◌ {A = List Float × GaugeStudy} (scratch, r) (gauge_study xs us vs scratch)
  unfolding gauge_study
  not_balanced r p e q =
      let w = was_refused (study_refusal xs us vs (length scratch)) tt (rw (← both) at p) e in
      rw (q, ← w.0) (sym (refused_answer (study_refusal xs us vs (length scratch)) (alone scratch) _ w.1))

  module _ (after : List Float) (t : TwoWayAnovaResult) (q : ◌≡◌ {A = List Float × TwoWayAnovaResult} (after, t) (two_way_anova xs us vs scratch)) where
    table : ◌≡◌ {A = List Float × TwoWayAnovaResult} (after, t) (wiped scratch, two_way_of xs us vs (levels us) (levels vs))
    unfolding two_way_anova
    table = q ∙ passed_answer (two_way_refusal xs us vs (length scratch)) (untouched scratch) _ k.passed

    is_table : t ≡ two_way_of xs us vs (levels us) (levels vs)
    is_table = ap (λ (x : List Float × TwoWayAnovaResult). x.1) table

    pub few_meters : t.levels_a ≤ 6
    unfolding answer_of
    few_meters = rw (is_table, ← design.is_a) design.high_a

    pub few_benches : t.levels_b ≤ 6
    unfolding answer_of
    few_benches = rw (is_table, ← design.is_b) design.high_b

    -- answered
    pub answered : {u : Result ⊤ Refusal} (r : GaugeStudy) → u ≡ verdict (balance_refusal (take (a * b) d.cell_n)) → u ≡ Ok tt → r ≡ components_of t (get_or d.cell_n 0 0) → ◌≡◌ {A = List Float × GaugeStudy} (after, r) (gauge_study xs us vs scratch)
    unfolding gauge_study
    answered r p y w =
        let first : get_or d.cell_n 0 0 ≡ get_or (cell_counts (levels us) (levels vs) xs us vs) 0 0 = sym (get_or-take (a * b) d.cell_n 0 0 some) ∙ ap (λ (ns : List ℕ). get_or ns 0 0) are_counts in
        let s : after ≡ wiped scratch = ap (λ (x : List Float × TwoWayAnovaResult). x.0) table in
        rw (w, s, is_table, first) (sym (passed_answer (study_refusal xs us vs (length scratch)) (alone scratch) _ (was_passed _ tt (rw (← both) at p) y)))
