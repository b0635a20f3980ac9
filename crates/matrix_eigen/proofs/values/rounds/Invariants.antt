use mathlib.Core.Path.{◌≡◌}
use Rattle.matrix_eigen.specs.Values.{round_at, rounds}
use Rattle.base.specs.Loop.{loop}
use Rattle.matrix_eigen.proofs.values.rounds.Given as goal

abbrev pub invariant-loop-round : goal.invariant-loop-round
invariant-loop-round l = loop l._round 100 (round_at l.n) l.m ≡ rounds l.n l.initial.m
