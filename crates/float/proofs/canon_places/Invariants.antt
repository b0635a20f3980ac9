-- Each place is handed through `canon`, which changes no number.
use Rattle.std.proofs.Common.{◌≡◌}
use Rattle.float.proofs.canon_places.Given as goal

abbrev pub invariant-loop-x : goal.invariant-loop-x
invariant-loop-x l = l.x-items ≡ l.initial.x-items
