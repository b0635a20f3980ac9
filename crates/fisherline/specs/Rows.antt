-- A line of text: a name, and numbers that each stand behind a space.
use Rattle.std.specs.Prelude.{ℕ, ◌+◌, List, [], ◌∷◌, ◌++◌, Float, length}
use Rattle.std.specs.Float.{binary64}
use Rattle.std.specs.Float.Ieee.{to_bits}
use Rattle.std.proofs.lemmas.List.Edits.{sets}
use Rattle.base.specs.Lists.{run}
use Rattle.text.specs.Numbers.{hex_of, numeral_of}

-- a float's bits as 16 hex digits, and a count in decimal, each behind a space
abbrev pub hex_bits : Float → List ℕ
hex_bits x = hex_of (to_bits binary64 x)

abbrev pub spaced_hex : Float → List ℕ
spaced_hex x = 32 ∷ hex_bits x

abbrev pub spaced_decimal : ℕ → List ℕ
spaced_decimal n = 32 ∷ numeral_of n

-- a name, numbers as their words behind a space each, and a newline
abbrev pub line_of : {A : Type 0} → (A → List ℕ) → List ℕ → List A → List ℕ
line_of word name xs = name ++ (run (λ x. 32 ∷ word x) xs ++ (10 ∷ []))

abbrev pub floats_line : List ℕ → List Float → List ℕ
floats_line name xs = name ++ (run spaced_hex xs ++ (10 ∷ []))

abbrev pub counts_line : List ℕ → List ℕ → List ℕ
counts_line name ns = name ++ (run spaced_decimal ns ++ (10 ∷ []))

-- text laid over out from a place on, and the place behind it
unfoldable pub puts : List ℕ → ℕ → List ℕ → List ℕ × ℕ
puts out at t = (sets out at t, at + length t)
