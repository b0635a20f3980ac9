-- The bytes that are not yet answered lie in the buffer.
use Rattle.std.proofs.Common.{length}
use Rattle.replay.specs.Streams.{Inside}
use Rattle.replay.proofs.stream.run.Given as goal

abbrev pub invariant-loop : goal.invariant-loop
invariant-loop l = Inside l.held (length l.buffer)
