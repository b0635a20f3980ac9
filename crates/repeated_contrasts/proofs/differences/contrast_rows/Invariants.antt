-- Row after row is put down.
use Rattle.std.proofs.Common.{◌≡◌}
use Rattle.base.specs.Loop.{loop}
use Rattle.repeated_contrasts.specs.Contrasts.{contrast_row, contrast_rows}
use Rattle.repeated_contrasts.proofs.differences.contrast_rows.Given as goal

abbrev pub invariant-loop-i : goal.invariant-loop-i
invariant-loop-i l = loop l.i l.i-end (contrast_row l.k) l.c ≡ contrast_rows l.k l.initial.c
