-- `float::power`: what is left of the loop gives the whole power. Its first `if` makes the result the definition's next one (`odd_turn`, `even_turn`).
use Rattle.std.proofs.Common.{◌∙◌, arith}
use Rattle.float.proofs.Powers.{odd_turn, even_turn, next_turn, last_turn, ends}
use Rattle.float.proofs.power.Goals as goal

pub loop-left-preserved-then-left-ne0 : goal.loop-left-preserved-then-left-ne0
loop-left-preserved-then-left-ne0 c =
    let s = c.loop-left in
    next_turn s.result s.base s.left _ s.invariant c.loop-left-test.true (grind (arith, odd_turn, even_turn)) c.if-left-ne0.true

pub loop-left-preserved : goal.loop-left-preserved
loop-left-preserved c =
    let s = c.loop-left in
    last_turn s.result s.base s.left _ s.invariant c.loop-left-test.true (grind (arith, odd_turn, even_turn)) c.if-left-ne0.false

pub returns : goal.returns
returns c =
    let s = c.loop-left in
    c.canon.ensures ∙ ends s.result s.base s.left _ s.invariant c.loop-left-test.false
