-- Behind its own check for room the call hands out what the analysis said: the refusal's number, or its numbers, which `lent::put` puts.
use Rattle.base.proofs.Order.{was_passed, was_refused}
use Rattle.speed_twoway.proofs.Laid.{accepted, refused}
use Rattle.speed_twoway.proofs.speed_two_way.Goals as goal

pub returns-in-Err : goal.returns-in-Err
returns-in-Err c =
    let w = was_refused _ _ c.check.ensures c.in-Err.is in
    rw (← w.0) (refused _ _ _ _ _ _ _ c.two_way_anova-r.ensures c.if-out-lt-PLACES.false w.1)

pub returns : goal.returns
returns c =
    accepted _ _ _ _ _ _ _ c.two_way_anova-r.ensures _ c.if-out-lt-PLACES.false (was_passed _ _ c.check.ensures c.in_default.is) c.put.ensures
