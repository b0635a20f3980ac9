-- The two lengths are asked first; then the answer is either a refusal or Fisher's five lines, and both fit into 256 places.
use mathlib.Core.Path.{◌∙◌, ap, sym}
use Rattle.base.proofs.Order.{was_passed, was_refused}
use Rattle.base.specs.declared.Refusal.{Refusal}
use Rattle.fisherline.specs.Rows.{puts}
use Rattle.fisherline.specs.Answers.{refused_text}
use Rattle.fisherline.proofs.Short.{too_long, answers_refusal, answers_fisher}
use Rattle.fisherline.proofs.answers.answer.Goals as goal

pub returns-then-set-gt-LONGEST : goal.returns-then-set-gt-LONGEST
returns-then-set-gt-LONGEST c =
    too_long _ _ c.if-out-lt-ROOM.false c.if-set-gt-LONGEST.true
    (c.refused.ensures ∙ ap (λ (r : Refusal). puts c.args.out.now 0 (refused_text r)) c.new.ensures)

pub returns-in-Ok : goal.returns-in-Ok
returns-in-Ok c =
    answers_fisher _ _ c.if-out-lt-ROOM.false c.if-set-gt-LONGEST.false c.set_anova-a.result c.set_anova-a.ensures
    (was_passed _ _ c.check.ensures c.in-Ok.is) c.fisher.ensures

pub returns-in-Err : goal.returns-in-Err
returns-in-Err c =
    let w = was_refused c.set_anova-a.result.refusal tt c.check.ensures c.in-Err.is in
    answers_refusal _ _ c.if-out-lt-ROOM.false c.if-set-gt-LONGEST.false c.set_anova-a.result c.set_anova-a.ensures
    w.1 (c.refused-in-Err.ensures ∙ ap (λ (r : Refusal). puts c.args.out.now 0 (refused_text r)) (sym w.0))
