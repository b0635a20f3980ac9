-- What is still to be taken away, from place k on, gives the whole.
use Rattle.std.proofs.Common.{◌≡◌}
use Rattle.base.specs.Loop.{loop}
use Rattle.matrix_eigen.specs.Qr.{less_column_at, less_column}
use Rattle.matrix_eigen.proofs.qr.less_column.Given as goal

abbrev pub invariant-loop-k : goal.invariant-loop-k
invariant-loop-k l = loop l.k l.n (less_column_at l.n l.q l.i l.f) l.v ≡ less_column l.n l.q l.i l.f l.initial.v
