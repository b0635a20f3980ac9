-- How a call refuses: a number of document 01's table with its two details, and the order of checks.
use Rattle.std.specs.Prelude.{ℕ, ◌+◌, Bool, cond, List, [], ◌∷◌, eqb, Result, Ok, Err, ⊤}
use Rattle.base.specs.declared.Refusal.{Refusal}

infixr 20 ◌or_else◌
-- the refusal with this number and these details
abbrev pub refuse : ℕ → ℕ → ℕ → Refusal
refuse n a b = record { number = n; first = a; second = b }

-- number 0: nothing is refused
abbrev pub none : Refusal
none = refuse 0 0 0

-- one check: this refusal where the fault is there
abbrev pub when : Bool → Refusal → Refusal
when fault r = cond fault r none

-- one check, said the other way: this refusal where what is needed is not there
abbrev pub unless : Bool → Refusal → Refusal
unless holds r = cond holds none r

-- checks in their order: the first refusal wins
abbrev pub ◌or_else◌ : Refusal → Refusal → Refusal
r or_else s = cond (eqb r.number 0) s r

-- a search, one after another: the first fault that is found among these, of which the first has the number i
unfoldable pub first_fault : {A : Type 0} → (ℕ → A → Refusal) → ℕ → List A → Refusal
first_fault fault i [] = none
first_fault fault i (x ∷ xs) = fault i x or_else first_fault fault (i + 1) xs

-- a call's answer: its numbers, or, where it is refused, an answer that carries the refusal alone
unfoldable pub guarded : {A : Type 0} → Refusal → (Refusal → A) → A → A
guarded r refused numbers = cond (eqb r.number 0) numbers (refused r)

-- what a call hands back that can be refused: its answer, or the refusal in its place
abbrev pub judged : {A : Type 0} → Refusal → A → Result A Refusal
judged r x = cond (eqb r.number 0) (Ok x) (Err r)

-- what a check hands back
abbrev pub verdict : Refusal → Result ⊤ Refusal
verdict r = judged r tt
