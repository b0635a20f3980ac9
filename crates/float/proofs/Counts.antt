-- A whole number up to 2^53 is a double.
use Prim.Native.Nat.{ℕ, ◌≤◌, ◌^◌}
use lib.Dec.{T, le→leb}
use lib.IntN.{pos}
use lib.Ieee.{binary64, in_float}

pub small_count : (n : ℕ) → n ≤ 2 ^ 53 → T (in_float binary64 (pos n))
unfolding in_float
small_count n h = le→leb n (2 ^ 53) h
