use mathlib.Core.Path.{◌≡◌}
use Rattle.base.specs.Loop.{loop}
use Rattle.matrix_places.specs.Places.{dot_at, dot}
use Rattle.matrix_places.proofs.dot.Given as goal

abbrev pub invariant-loop-m : goal.invariant-loop-m
invariant-loop-m l = loop l.m l.n (dot_at l.x l.p l.s l.y l.q l.t) l.sum ≡ dot l.z l.x l.p l.s l.y l.q l.t l.n
