use Prim.Native.Nat.{◌-◌}
use mathlib.Core.Path.{◌≡◌}
use Rattle.matrix_linear.specs.System.{back_row, backward}
use Rattle.base.specs.Loop.{loop}
use Rattle.matrix_linear.proofs.system.backward.Given as goal

abbrev pub invariant-loop-i : goal.invariant-loop-i
invariant-loop-i l = loop (l.n - l.i) l.n (back_row l.n) l.m ≡ backward l.n l.initial.m
