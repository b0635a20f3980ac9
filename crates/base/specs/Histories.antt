-- Things that are edited by calls, and what their calls are told.
use Rattle.std.specs.Prelude.{ℕ, cond, List, [], ◌∷◌, eqb}
use Rattle.base.specs.declared.Refusal.{Refusal}

-- the contents d after a call: changed where the rule accepts it, and else as they were
abbrev pub after_call : {D C : Type 0} → (C → D → Refusal) → (C → D → D) → D → C → D
after_call judge change d c = cond (eqb (judge c d).number 0) (change c d) d

-- what each call of a history is told
unfoldable pub verdicts : {D C : Type 0} → (C → D → Refusal) → (D → C → D) → D → List C → List Refusal
verdicts told step d [] = []
verdicts told step d (c ∷ cs) = told c d ∷ verdicts told step (step d c) cs

-- a call with its maker's number: those of l alone
unfoldable pub own : {C : Type 0} → ℕ → List (ℕ × C) → List C
own l [] = []
own l (c ∷ cs) = cond (eqb c.0 l) (c.1 ∷ own l cs) (own l cs)

-- two makers, 1 and 2, each with contents of its own; another number changes nothing
abbrev pub turn_of : {D C : Type 0} → (D → C → D) → D × D → ℕ × C → D × D
turn_of step d c = cond (eqb c.0 1) (step d.0 c.1, d.1) (cond (eqb c.0 2) (d.0, step d.1 c.1) d)
