-- Numbers in bytes, the lowest first.
use Rattle.std.specs.Prelude.{ℕ, zero, suc, ◌+◌, ◌*◌, ◌/◌, ◌%◌, List, [], ◌∷◌, Float}
use Rattle.float.specs.Words.{bits}

-- the number that bytes stand for
unfoldable pub little : List ℕ → ℕ
little [] = 0
little (b ∷ bs) = b + 256 * little bs

-- the reading that eight bytes stand for
abbrev pub reading : List ℕ → Float
reading bs = bits (little bs)

-- the k lowest bytes of a number
unfoldable pub bytes : ℕ → ℕ → List ℕ
bytes zero w = []
bytes (suc k) w = w % 256 ∷ bytes k (w / 256)
