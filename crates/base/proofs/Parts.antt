-- Laws of a part of a list: its length, and what a change of it leaves of the whole.
use Prim.Native.Nat.{ℕ, ◌+◌, ◌-◌, ◌≤◌}
use mathlib.Core.Path.{◌≡◌}
use mathlib.Core.List.{List}
use native.Mathlib.Omega.{arith}
use native.Mathlib.Nat.{add-sub_cancel_left}
use lib.ListN.{length, take, drop, length-drop}
use lib.Seq.{length-take-le, take_all}

module _ {A : Type 0} where
  -- `&s[a..a + k]` has k places
  pub length_part : (a k : ℕ) (s : List A) → a + k ≤ length s → length (take (a + k - a) (drop a s)) ≡ k
  length_part a k s h = rw add-sub_cancel_left (length-take-le k (drop a s) (rw length-drop (omega arith)))

  -- `&s[a..]` is all from a on
  pub rest_part : (a : ℕ) (s : List A) → take (length s - a) (drop a s) ≡ drop a s
  rest_part a s = take_all (length s - a) (drop a s) (rw length-drop (omega arith))
