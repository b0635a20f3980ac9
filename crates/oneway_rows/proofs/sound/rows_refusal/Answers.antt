-- The two tests are those of the definition, which joins them by "or" (`unsound_rows`).
use Rattle.std.proofs.Common.{◌≡◌, true, false, sym, ◌∙◌}
use Rattle.oneway_rows.specs.Soundness.{sizes_in, unsound, sound_refusal}
use Rattle.oneway_rows.proofs.Counted.{unsound_rows}
use Rattle.oneway_rows.proofs.sound.rows_refusal.Goals.{then-outside-via-then-outside, then-outside-via-else-outside+then-unsound}
use Rattle.oneway_rows.proofs.sound.rows_refusal.Goals as goal

pub returns-then-outside : goal.returns-then-outside
unfolding sound_refusal
returns-then-outside c =
    let found : unsound c.args.k (sizes_in c.args.k c.args.rows) ≡ true =
    elim c.then-outside.branch [
      | then-outside-via-then-outside w ↦ sym (unsound_rows c.args.k c.args.rows) ∙ rw (sym c.outside.ensures ∙ w.if-outside.true)
      | then-outside-via-else-outside+then-unsound w ↦ sym (unsound_rows c.args.k c.args.rows) ∙ rw (sym c.outside.ensures ∙ w.if-outside.false, sym w.unsound.ensures ∙ w.if-unsound.true)
    ] in
    rw (found, c.new.ensures)
