-- Worked texts.
use Rattle.std.specs.Prelude.{◌≡◌, refl, [], ◌∷◌}
use Rattle.text.specs.Ascii.{ascii}
use Rattle.text.specs.Numbers.{digits, hex_of, width_in, width_of, numeral_of}
use Rattle.text.specs.Put.{put_of}

hex_worked : hex_of 0x0123456789ABCDEF ≡ ascii "0123456789ABCDEF"
unfolding hex_of digits
hex_worked = refl

zero_worked : numeral_of 0 ≡ ascii "0"
unfolding numeral_of width_of width_in digits
zero_worked = refl

numeral_worked : numeral_of 1024 ≡ ascii "1024"
unfolding numeral_of width_of width_in digits
numeral_worked = refl

-- the largest of 64 bits
largest_worked : numeral_of 0xFFFFFFFFFFFFFFFF ≡ ascii "18446744073709551615"
unfolding numeral_of width_of width_in digits
largest_worked = refl

-- two bytes that end where out ends, and two that do not fit
put_worked : (put_of (1 ∷ 2 ∷ 3 ∷ []) 1 (8 ∷ 9 ∷ []) ≡ (1 ∷ 8 ∷ 9 ∷ [], 3)) × (put_of (1 ∷ 2 ∷ 3 ∷ []) 2 (8 ∷ 9 ∷ []) ≡ (1 ∷ 2 ∷ 3 ∷ [], 2))
unfolding put_of
put_worked = (refl, refl)
