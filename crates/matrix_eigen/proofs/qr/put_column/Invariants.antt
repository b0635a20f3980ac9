-- What is still to be put, from place k on, gives the whole column.
use Rattle.std.proofs.Common.{◌≡◌}
use Rattle.base.specs.Loop.{loop}
use Rattle.matrix_eigen.specs.Qr.{put_at, put_column}
use Rattle.matrix_eigen.proofs.qr.put_column.Given as goal

abbrev pub invariant-loop-k : goal.invariant-loop-k
invariant-loop-k l = loop l.k l.n (put_at l.n l.v l.j l.d) l.q ≡ put_column l.n l.v l.j l.d l.initial.q
