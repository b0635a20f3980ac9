-- What is still to be copied, from place k on, gives the whole column.
use Rattle.std.proofs.Common.{◌≡◌}
use Rattle.base.specs.Loop.{loop}
use Rattle.matrix_eigen.specs.Qr.{take_at, column_of}
use Rattle.matrix_eigen.proofs.qr.take_column.Given as goal

abbrev pub invariant-loop-k : goal.invariant-loop-k
invariant-loop-k l = loop l.k l.n (take_at l.n l.a l.j) l.v ≡ column_of l.n l.a l.j l.initial.v
