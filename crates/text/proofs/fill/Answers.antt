-- The digits are put from the last one on: what is left of n is what the places before will hold.
use Rattle.text.proofs.Fills.{fill_ends}
use Rattle.text.proofs.fill.Goals as goal

pub returns : goal.returns
returns c = fill_ends c.args.base c.loop-i.out c.loop-i.i c.loop-i.rest c.loop-i.invariant c.loop-i-test.false
