-- What is said of the first empty cell that is found.
use Rattle.std.proofs.Common.{rules, Some, None, sym, ◌∙◌, tests}
use Rattle.std.proofs.lemmas.Iterator.{YieldsList-from_slice}
use Rattle.std.proofs.lemmas.Iterator.Search.{position_from_yields_List}
use Rattle.twoway_checks.proofs.Empties.{is_empty, first_empty}
use Rattle.twoway_checks.proofs.refusals.empty_refusal.Goals as goal

pub returns-in-Some : goal.returns-in-Some
returns-in-Some c =
    let found = position_from_yields_List is_empty _ _ c.position.result c.position.ensures.ran (YieldsList-from_slice _ c.iter.ensures.rest) (λ x b q k. search (rules, tests)) in
    rw (c.new.ensures, ← first_empty c.args.levels_b c.args.counts.now (Some c.in-Some.c) (sym c.in-Some.is ∙ found)) (search rules)

pub returns-in-None : goal.returns-in-None
returns-in-None c =
    let found = position_from_yields_List is_empty _ _ c.position.result c.position.ensures.ran (YieldsList-from_slice _ c.iter.ensures.rest) (λ x b q k. search (rules, tests)) in
    rw (← first_empty c.args.levels_b c.args.counts.now None (sym c.in-None.is ∙ found)) (search rules)
