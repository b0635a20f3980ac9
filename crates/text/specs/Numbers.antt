-- Numbers as text: their digits in ASCII, the most significant first.
use Rattle.std.specs.Prelude.{ℕ, zero, suc, ◌+◌, ◌/◌, ◌%◌, List, [], ◌∷◌, ◌++◌, cond, ltb}

-- the digit of a number below 16: `0` to `9`, then `A` to `F`
abbrev pub glyph : ℕ → ℕ
glyph d = cond (ltb d 10) (48 + d) (55 + d)

-- the k lowest digits of n in a base
unfoldable pub digits : ℕ → ℕ → ℕ → List ℕ
digits base zero n = []
digits base (suc k) n = digits base k (n / base) ++ (glyph (n % base) ∷ [])

-- the 16 hex digits of a number of 64 bits
unfoldable pub hex_of : ℕ → List ℕ
hex_of x = digits 16 16 x

-- how many decimal digits n has, if there are at most k + 1
unfoldable pub width_in : ℕ → ℕ → ℕ
width_in zero n = 1
width_in (suc k) n = cond (ltb n 10) 1 (suc (width_in k (n / 10)))

-- how many decimal digits a number of 64 bits has: at most 20
unfoldable pub width_of : ℕ → ℕ
width_of n = width_in 19 n

-- the decimal digits of n, with no zeros in front: 0 is `0`
unfoldable pub numeral_of : ℕ → List ℕ
numeral_of n = digits 10 (width_of n) n
