-- What is known of a stream: the bytes that are not yet answered lie in the buffer.
use Rattle.std.specs.Prelude.{ℕ, ◌≤◌}
use Rattle.replay.specs.declared.stream.Held.{Held}

pub record Inside (s : Held) (length : ℕ) : Type 0 where
  pub order : s.from ≤ s.to
  pub within : s.to ≤ length
