-- A report of any sheet, from load or not: the sheet hands over as many readings as its rows say.
use mathlib.Core.Path.{◌≡◌, sym, ap, ◌∙◌}
use mathlib.Core.List.{flatten}
use Prim.Native.Nat.{ℕ, ◌≤◌}
use native.Mathlib.Omega.{arith}
use lib.ListN.{length, take}
use lib.Seq.{length-take-le}
use Rattle.base.specs.declared.Refusal.{Refusal}
use Rattle.base.specs.Lists.{total}
use Rattle.base.specs.Refusals.{guarded}
use Rattle.base.proofs.Cuts.{flatten_cut}
use Rattle.base.proofs.Order.{either, passed_answer, refused_answer}
use Rattle.oneway_rows.specs.Soundness.{sound_refusal}
use Rattle.oneway_rows.proofs.Counted.{sound, sound_passes}
use Rattle.results.specs.declared.OneWayAnovaResult.{OneWayAnovaResult}
use Rattle.results.specs.Results.{refused_result}
use Rattle.oneway.specs.declared.AnovaKind.{AnovaKind}
use Rattle.oneway.specs.Anova.{anova, rows_report}
use Rattle.oneway.proofs.Reports.{formulas_accept, report_unsound, report_sound}
use Rattle.sheet.specs.declared.Sheet.{Sheet}
use Rattle.sheet.specs.Sheets.{sizes_of, groups_of}
use Rattle.sheet.specs.Calls.{report_of}
use Rattle.sheet.specs.Inner.{no_use, used_in}

module _ (s : Sheet) (l : length s.places ≡ 512) where
  abbrev met : Refusal
  met = sound_refusal s.groups s.rows

  -- sound rows: they say no more readings than there are places
  module _ (z : met.number ≡ 0) where
    room : total (sizes_of s) ≤ length s.places
    room = omega (arith, (sound s.groups s.rows z).fits)

    all_there : total (sizes_of s) ≡ length (flatten (groups_of s))
    unfolding groups_of
    all_there = sym (ap length (flatten_cut (sizes_of s) s.places) ∙ length-take-le (total (sizes_of s)) s.places room)

    sound_report : (kind : AnovaKind) → report_of kind s ≡ anova kind (take s.groups s.rows) (flatten (groups_of s))
    unfolding report_of
    sound_report kind = report_sound kind s.groups s.rows (flatten (groups_of s)) z all_there

    sound_used : used_in s.groups s.rows ≡ total (sizes_of s)
    unfolding used_in
    sound_used = passed_answer met no_use (total (sizes_of s)) z

  module _ (n : met.number ≡ 0 → ⊥) where
    unsound_report : (kind : AnovaKind) → report_of kind s ≡ refused_result met
    unfolding report_of
    unsound_report kind = report_unsound kind s.groups s.rows (flatten (groups_of s)) n

    unsound_used : used_in s.groups s.rows ≡ 0
    unfolding used_in
    unsound_used = refused_answer met no_use (total (sizes_of s)) n

  -- A report is the formulas over the sheet's rows and readings, or check 13's refusal.
  pub report_is : (kind : AnovaKind) → report_of kind s ≡ guarded met refused_result (anova kind (take s.groups s.rows) (flatten (groups_of s)))
  report_is kind =
      either met
      (λ z. sound_report z kind ∙ sym (passed_answer met refused_result _ z))
      (λ n. unsound_report n kind ∙ sym (refused_answer met refused_result _ n))

  -- So it is refused by 13 alone, and never by 10.
  pub never_ten : (kind : AnovaKind) → (report_of kind s).refusal ≡ met
  never_ten kind =
      either met
      (λ z. ap (λ (r : OneWayAnovaResult). r.refusal) (sound_report z kind) ∙ formulas_accept kind (take s.groups s.rows) (flatten (groups_of s)) ∙ sym (sound_passes s.groups s.rows (sound s.groups s.rows z)))
      (λ n. ap (λ (r : OneWayAnovaResult). r.refusal) (unsound_report n kind))

  -- u is what the code worked out as the number of readings in use
  module _ {u : ℕ} (w : u ≡ used_in s.groups s.rows) where
    pub report_fits : u ≤ length s.places
    report_fits = either met (λ z. rw (w, sound_used z) (room z)) (λ n. rw (w, unsound_used n) (omega arith))

    taken : met.number ≡ 0 → take u s.places ≡ flatten (groups_of s)
    unfolding groups_of
    taken z = ap (λ (n : ℕ). take n s.places) (w ∙ sound_used z) ∙ sym (flatten_cut (sizes_of s) s.places)

    handed : met.number ≡ 0 → (kind : AnovaKind) → rows_report kind s.groups s.rows (take u s.places) ≡ report_of kind s
    unfolding report_of
    handed z kind = ap (rows_report kind s.groups s.rows) (taken z)

    pub report_made : (kind : AnovaKind) {x : OneWayAnovaResult} → x ≡ rows_report kind s.groups s.rows (take u s.places) → x ≡ report_of kind s
    report_made kind q =
        q ∙ either met (λ z. handed z kind)
        (λ n. report_unsound kind s.groups s.rows (take u s.places) n ∙ sym (unsound_report n kind))
