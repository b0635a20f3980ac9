-- The digits of what is left, and behind them those that are in out already, are all of them.
use Rattle.std.proofs.Common.{◌≡◌, ◌++◌, length, drop}
use Rattle.text.specs.Numbers.{digits}
use Rattle.text.proofs.fill.Given as goal

abbrev pub invariant-loop-i : goal.invariant-loop-i
invariant-loop-i l = digits l.base l.i l.rest ++ drop l.i l.out ≡ digits l.base (length l.initial.out) l.n
