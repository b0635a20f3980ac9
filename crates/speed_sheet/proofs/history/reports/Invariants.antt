-- What is left to do from turn i on gives the whole.
use Rattle.std.proofs.Common.{length, ◌≡◌}
use Rattle.speed_sheet.specs.Histories.{reported}
use Rattle.base.specs.Loop.{loop}
use Rattle.speed_sheet.proofs.history.reports.Given as goal

abbrev pub invariant-loop-i : goal.invariant-loop-i
invariant-loop-i l =
    loop l.i (length l.initial.out) (reported l.kind l.edits l.fresh) (record { sheet = l.sheet; out = l.out })
    ≡ loop 0 (length l.initial.out) (reported l.kind l.edits l.fresh) (record { sheet = l.initial.sheet; out = l.initial.out })
