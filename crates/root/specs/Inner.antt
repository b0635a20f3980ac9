-- What the contracts of private functions cite, and no public one.
use Rattle.std.specs.Prelude.{ℕ, ◌+◌, ◌*◌, ◌≤◌, ◌<◌}

-- r is the root of n, cut to a whole number.
abbrev pub IsFloor : ℕ → ℕ → Type 0
IsFloor n r = (r * r ≤ n) × (n < (r + 1) * (r + 1))
