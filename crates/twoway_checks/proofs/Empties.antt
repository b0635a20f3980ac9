-- The search for an empty cell among these counts: what is said of the first that is found.
use mathlib.Core.Path.{◌≡◌, refl, ap, ◌∙◌}
use mathlib.Core.Bool.{Bool, true, false, cond}
use mathlib.Core.List.{List, [], ◌∷◌}
use Prim.Native.Nat.{ℕ, ◌+◌, ◌/◌, ◌%◌}
use lib.Dec.{eqb, ltb}
use lib.ListN.{length}
use Rattle.std.specs.Prelude.{Option, None, Some}
use Rattle.std.specs.List.{position_or_len, position_from}
use Rattle.std.proofs.lemmas.Iterator.Adapters.{position_from-zero}
use Rattle.base.specs.declared.Refusal.{Refusal}
use Rattle.base.specs.Refusals.{refuse, none, ◌or_else◌, first_fault}
use Rattle.twoway_checks.specs.Checks.{empty_refusal}

abbrev pub is_empty : ℕ → Bool
is_empty n = eqb n 0

-- what is said where the cell that was found has this number
abbrev pub said : ℕ → Option ℕ → Refusal
said b None = none
said b (Some c) = refuse 7 (c / b) (c % b)

said_from : (b c : ℕ) (ns : List ℕ) → said b (position_from is_empty c ns) ≡ empty_refusal b c ns
unfolding first_fault
said_from b c [] = refl
said_from b c (n ∷ ns) = go (eqb n 0) (said_from b (c + 1) ns)
  where
    go : (t : Bool) → said b (position_from is_empty (c + 1) ns) ≡ empty_refusal b (c + 1) ns
        → said b (cond t (Some c) (position_from is_empty (c + 1) ns)) ≡ (cond t (refuse 7 (c / b) (c % b)) none or_else empty_refusal b (c + 1) ns)
    go true e = refl
    go false e = e

pub first_empty : (b : ℕ) (ns : List ℕ) (r : Option ℕ) → r ≡ cond (ltb (position_or_len is_empty ns) (length ns)) (Some (position_or_len is_empty ns)) None → said b r ≡ empty_refusal b 0 ns
first_empty b ns r e = ap (said b) (e ∙ position_from-zero is_empty ns) ∙ said_from b 0 ns
