-- What is still to be copied, from place i on, gives the whole diagonal.
use Rattle.std.proofs.Common.{◌≡◌}
use Rattle.base.specs.Loop.{loop}
use Rattle.matrix_eigen.specs.Values.{diagonal_at, diagonal}
use Rattle.matrix_eigen.proofs.values.diagonal.Given as goal

abbrev pub invariant-loop-i : goal.invariant-loop-i
invariant-loop-i l = loop l.i l.n (diagonal_at l.n l.m) l.values ≡ diagonal l.n l.m l.initial.values
