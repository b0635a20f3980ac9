-- A load by its two ways out.
use mathlib.Core.Path.{◌≡◌, refl, sym, ap, ◌∙◌}
use mathlib.Core.List.{List, [], flatten}
use Prim.Native.Nat.{ℕ, ◌≤◌}
use native.Mathlib.Omega.{arith}
use lib.Ieee.{Float}
use lib.ListN.{length}
use lib.Seq.{take_all}
use Rattle.base.specs.declared.Refusal.{Refusal}
use Rattle.base.specs.Lists.{total, cut}
use Rattle.base.specs.Refusals.{none, verdict}
use Rattle.std.specs.Prelude.{Result, Ok, Err, ⊤}
use Rattle.base.proofs.Cuts.{length_cut, flatten_cut}
use Rattle.base.proofs.Order.{answers_refused, answers_numbers, passed_answer, refused_answer, was_passed, was_refused}
use Rattle.lent.specs.Laying.{laid}
use Rattle.lent.proofs.Lays.{laid_room}
use Rattle.oneway_rows.specs.declared.GroupStats.{GroupStats}
use Rattle.oneway_checks.specs.Checks.{one_way_refusal}
use Rattle.oneway_rows.specs.Rows.{rows_of, empty_rows, refused_stats, validate_anova_groups}
use Rattle.oneway_checks.proofs.Doors.{passed}
use Rattle.oneway_rows.proofs.Told.{which, passes}
use Rattle.sheet.specs.Sheets.{zero_places, sheet_of}
use Rattle.sheet.specs.Calls.{refused_with, load_of}

-- t is what the check of the groups answered
module _ (xs : List Float) (ns : List ℕ) (t : GroupStats) (e : t ≡ validate_anova_groups xs ns) where
  pub load_refused : {v : Result ⊤ Refusal} → v ≡ verdict t.refusal → {q : Refusal} → v ≡ Err q → record { refusal = q; sheet = record { places = zero_places; rows = t.rows; groups = 0 } } ≡ load_of xs ns
  unfolding load_of sheet_of rows_of validate_anova_groups flatten
  load_refused told f =
      let said = was_refused t.refusal tt told f in
      let n = said.1 in
      let w = which xs ns t e n in
      let r : t.rows ≡ empty_rows = ap (λ (u : GroupStats). u.rows) (e ∙ refused_answer (one_way_refusal xs ns) refused_stats _ (λ z. n (rw w z))) in
      answers_refused (one_way_refusal xs ns) (refused_with (sheet_of [])) _ (sym said.0 ∙ w) (λ z. n (rw (← said.0) at z)) (rw r)

  module _ {v : Result ⊤ Refusal} (told : v ≡ verdict t.refusal) (f : v ≡ Ok tt) where
    z : t.refusal.number ≡ 0
    z = was_passed t.refusal tt told f

    load_fits : length xs ≤ 512
    load_fits = (passed xs ns (passes xs ns t e z)).sizes.readings

    pub load_made : {ps : List Float} → ps ≡ laid xs zero_places → {n : Refusal} → n ≡ none → record { refusal = n; sheet = record { places = ps; rows = t.rows; groups = length ns } } ≡ load_of xs ns
    unfolding load_of sheet_of validate_anova_groups zero_places
    load_made p m =
        let q = passes xs ns t e z in
        let r : t.rows ≡ rows_of (cut ns xs) = ap (λ (u : GroupStats). u.rows) (e ∙ passed_answer (one_way_refusal xs ns) refused_stats _ q) in
        let f : flatten (cut ns xs) ≡ xs = flatten_cut ns xs ∙ take_all (total ns) xs (omega (arith, (passed xs ns q).sizes.adds)) in
        answers_numbers (one_way_refusal xs ns) (refused_with (sheet_of [])) _ refl q (rw (p ∙ laid_room xs zero_places load_fits, m, r, f, length_cut ns xs))
