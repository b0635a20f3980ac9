-- The fold goes on as long as the counts so far come to no more than n.
use Rattle.std.proofs.Common.{rules, ◌∙◌, tests}
use Rattle.std.proofs.lemmas.Iterator.{YieldsList-from_slice}
use Rattle.twoway_means.proofs.Left.{left_within}
use Rattle.twoway_means.proofs.counts_within.Goals as goal

pub returns : goal.returns
returns c =
    c.is_some.ensures ∙ left_within _ _ (λ y. y.now) _ _ (λ a x r q k. search (rules, tests)) c.args.n c.try_fold.result _ _ c.args.counts.now c.try_fold.ensures.ran (YieldsList-from_slice _ c.iter.ensures.rest)
