-- Text in lent memory.
use Rattle.std.specs.Prelude.{ℕ, ◌+◌, List, ◌++◌, cond, leb, length, take, drop}

-- src laid over out from `at` on: the places before and behind it keep what they hold
abbrev pub laid : List ℕ → ℕ → List ℕ → List ℕ
laid out at src = take at out ++ src ++ drop (at + length src) out

-- out with src laid over it, and the place behind src; where src does not fit, out as it is, and `at`
unfoldable pub put_of : List ℕ → ℕ → List ℕ → List ℕ × ℕ
put_of out at src = cond (leb (at + length src) (length out)) (laid out at src, at + length src) (out, at)
