-- Laws of the order of checks: which refusal wins, and what a check that was passed leaves known.
use mathlib.Core.Path.{◌≡◌, refl, sym, ap, ◌∙◌}
use mathlib.Core.Bool.{Bool, true, false, cond}
use borrow.Author.Tests.{eqb-true, eqb-false, eq-eqb, ne_eqb}
use lib.Dec.{eqb}
use Rattle.base.specs.declared.Refusal.{Refusal}
use Rattle.std.specs.Prelude.{Result, Ok, Err, ⊤, is_ok}
use Rattle.std.proofs.lemmas.Bool.{false≢true, true≢false}
use Rattle.base.specs.Refusals.{none, when, unless, ◌or_else◌, guarded, judged, verdict}

-- the first of two refusals, where it is one, and the second where the first is none
module _ (r s : Refusal) where
  pub first_wins : (r.number ≡ 0 → ⊥) → (r or_else s) ≡ r
  first_wins n = rw (ne_eqb r.number 0 n)

  pub second_asked : r.number ≡ 0 → (r or_else s) ≡ s
  second_asked e = rw (eq-eqb r.number 0 e)

  -- where nothing is refused, neither is
  pub both_passed : (r or_else s).number ≡ 0 → (r.number ≡ 0) × (s.number ≡ 0)
  both_passed h = go (eqb r.number 0) refl h
    where
      go : (b : Bool) → eqb r.number 0 ≡ b → (cond b s r).number ≡ 0 → (r.number ≡ 0) × (s.number ≡ 0)
      go true e h = (eqb-true r.number 0 e, h)
      go false e h = absurd (eqb-false r.number 0 e h)

-- a refusal is none, or it is one
pub either : {P : Type 0} (r : Refusal) → (r.number ≡ 0 → P) → ((r.number ≡ 0 → ⊥) → P) → P
either {P} r passed refused = go (eqb r.number 0) refl
  where
    go : (b : Bool) → eqb r.number 0 ≡ b → P
    go true e = passed (eqb-true r.number 0 e)
    go false e = refused (eqb-false r.number 0 e)

-- the code asks q first, r is what it was told, and goes on only where that is no refusal
module _ (q s : Refusal) {r : Refusal} where
  pub stops : r ≡ q → (r.number ≡ 0 → ⊥) → r ≡ (q or_else s)
  stops e n = e ∙ sym (first_wins q s (λ z. n (rw e z)))

  pub goes_on : {x : Refusal} → r ≡ q → r.number ≡ 0 → x ≡ s → x ≡ (q or_else s)
  goes_on e z p = p ∙ sym (second_asked q s (rw e at z))

-- a check that was passed did not find its fault
pub no_fault : (b : Bool) (r : Refusal) → (r.number ≡ 0 → ⊥) → (when b r).number ≡ 0 → b ≡ false
no_fault true r n h = absurd (n h)
no_fault false r n h = refl

pub needed_there : (b : Bool) (r : Refusal) → (r.number ≡ 0 → ⊥) → (unless b r).number ≡ 0 → b ≡ true
needed_there true r n h = refl
needed_there false r n h = absurd (n h)

-- the two answers of a call, from what its check said: r is what the code worked out
module _ {A : Type 0} (q : Refusal) (refused : Refusal → A) (numbers : A) {r : Refusal} {x : A} where
  pub answers_refused : r ≡ q → (r.number ≡ 0 → ⊥) → x ≡ refused r → x ≡ guarded q refused numbers
  unfolding guarded
  answers_refused e n p = rw (← e, ne_eqb r.number 0 n) p

  pub answers_numbers : r ≡ q → r.number ≡ 0 → x ≡ numbers → x ≡ guarded q refused numbers
  unfolding guarded
  answers_numbers e z p = rw (← e, eq-eqb r.number 0 z) p

-- what a caller learns of the answer that it was given; `tell` reads the refusal off an answer
module _ {A : Type 0} (q : Refusal) (refused : Refusal → A) (numbers : A) where
  pub passed_answer : q.number ≡ 0 → guarded q refused numbers ≡ numbers
  unfolding guarded
  passed_answer e = rw (eq-eqb q.number 0 e)

  pub refused_answer : (q.number ≡ 0 → ⊥) → guarded q refused numbers ≡ refused q
  unfolding guarded
  refused_answer n = rw (ne_eqb q.number 0 n)

  -- what holds of the numbers and of the refused answer holds of the answer
  pub either_answer : (P : A → Type 0) → (q.number ≡ 0 → P numbers) → P (refused q) → P (guarded q refused numbers)
  unfolding guarded
  either_answer P passed not_passed = go (eqb q.number 0) refl
    where
      go : (b : Bool) → eqb q.number 0 ≡ b → P (cond b numbers (refused q))
      go true e = passed (eqb-true q.number 0 e)
      go false e = not_passed

  module _ (tell : A → Refusal) (tells : (r : Refusal) → tell (refused r) ≡ r) (fine : tell numbers ≡ none) where
    pub told : {a : A} → a ≡ guarded q refused numbers → (tell a).number ≡ q.number
    unfolding guarded
    told e = rw e (go (eqb q.number 0) refl)
      where
        go : (b : Bool) → eqb q.number 0 ≡ b → (tell (cond b numbers (refused q))).number ≡ q.number
        go true e = ap (λ (r : Refusal). r.number) fine ∙ sym (eqb-true q.number 0 e)
        go false e = ap (λ (r : Refusal). r.number) (tells q)

    -- a refused answer carries the refusal
    pub told_which : {a : A} → a ≡ guarded q refused numbers → ((tell a).number ≡ 0 → ⊥) → tell a ≡ q
    told_which {a} e n = ap tell (e ∙ refused_answer (λ z. n (told e ∙ z))) ∙ tells q

-- an answer that can be refused: a refusal comes back only where it is met, and an answer only where none is
module _ {A : Type 0} (q : Refusal) (a : A) where
  pub judged_refused : (q.number ≡ 0 → ⊥) → judged q a ≡ Err q
  judged_refused n = rw (ne_eqb q.number 0 n)

  pub judged_passed : q.number ≡ 0 → judged q a ≡ Ok a
  judged_passed e = rw (eq-eqb q.number 0 e)

  -- what is learnt from the answer x that a call handed back
  module _ {x : Result A Refusal} (told : x ≡ judged q a) where
    pub was_passed : {b : A} → x ≡ Ok b → q.number ≡ 0
    was_passed {b} e = go (eqb q.number 0) refl (sym told ∙ e)
      where
        go : (t : Bool) → eqb q.number 0 ≡ t → cond t (Ok a) (Err q) ≡ Ok b → q.number ≡ 0
        go true h p = eqb-true q.number 0 h
        go false h p = absurd (false≢true (ap is_ok p))

    pub was_refused : {r : Refusal} → x ≡ Err r → (q ≡ r) × (q.number ≡ 0 → ⊥)
    was_refused {r} e = go (eqb q.number 0) refl (sym told ∙ e)
      where
        held : Result A Refusal → Refusal
        held x = elim x [ Ok b ↦ q | Err e ↦ e ]

        go : (t : Bool) → eqb q.number 0 ≡ t → cond t (Ok a) (Err q) ≡ Err r → (q ≡ r) × (q.number ≡ 0 → ⊥)
        go true h p = absurd (true≢false (ap is_ok p))
        go false h p = (ap held p, eqb-false q.number 0 h)

-- `?`: the code asks q first, x is what it was told, and goes on only where that is no refusal
module _ (q s : Refusal) {x : Result ⊤ Refusal} (told : x ≡ verdict q) where
  pub ends_there : {r : Refusal} → x ≡ Err r → Err r ≡ verdict (q or_else s)
  ends_there e = let w = was_refused q tt told e in rw (first_wins q s w.1) (sym (judged_refused q tt w.1 ∙ ap Err w.0))

  pub asks_next : {y : Result ⊤ Refusal} → x ≡ Ok tt → y ≡ verdict s → y ≡ verdict (q or_else s)
  asks_next e p = rw (second_asked q s (was_passed q tt told e)) p

-- an answer behind a check that was asked: x is what the check said, y what the code hands back
module _ {A : Type 0} (q : Refusal) (refused : Refusal → A) (numbers : A) {x : Result ⊤ Refusal} (told : x ≡ verdict q) {y : A} where
  pub answers_err : {r : Refusal} → x ≡ Err r → y ≡ refused r → y ≡ guarded q refused numbers
  answers_err e p = let w = was_refused q tt told e in answers_refused q refused numbers (sym w.0) (λ z. w.1 (rw w.0 z)) p

  pub answers_ok : x ≡ Ok tt → y ≡ numbers → y ≡ guarded q refused numbers
  answers_ok e p = answers_numbers q refused numbers refl (was_passed q tt told e) p
