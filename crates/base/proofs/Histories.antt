-- Laws of things that are edited by calls. `make d` is the thing that holds the contents d; a call turns the thing by `next`, and its contents by `step`.
-- Where one call does to the thing what it does to the contents, every list of calls does, refused ones among them.
use mathlib.Core.Path.{◌≡◌, refl, sym, ap, ◌∙◌}
use mathlib.Core.Bool.{Bool, true, false, cond}
use mathlib.Core.List.{List, [], ◌∷◌, foldl}
use Prim.Native.Nat.{ℕ}
use native.Mathlib.Omega.{arith}
use borrow.Author.Tests.{eqb-true, eqb-false}
use lib.Dec.{eqb}
use Rattle.base.specs.declared.Refusal.{Refusal}
use Rattle.base.specs.Histories.{after_call, verdicts, own, turn_of}

module _ {S D C : Type 0} (next : S → C → S) (make : D → S) (step : D → C → D) (Good : D → Type 0) where
  -- one call does, and good contents stay good
  abbrev pub Follows : Type 0
  Follows = (d : D) → Good d → (c : C) → (next (make d) c ≡ make (step d c)) × Good (step d c)

  module _ (f : Follows) where
    pub any_calls : (cs : List C) (d : D) → Good d → (foldl next (make d) cs ≡ make (foldl step d cs)) × Good (foldl step d cs)
    any_calls [] d g = (refl, g)
    any_calls (c ∷ cs) d g =
        let s = f d g c in
        let h = any_calls cs (step d c) s.1 in
        (rw s.0 h.0, h.1)

    -- where one call is told what the rule says of the contents, so is each call of a history
    pub all_told : (told : C → S → Refusal) (rule : C → D → Refusal) → ((d : D) → Good d → (c : C) → told c (make d) ≡ rule c d)
        → (cs : List C) (d : D) → Good d → verdicts told next (make d) cs ≡ verdicts rule step d cs
    unfolding verdicts
    all_told told rule e [] d g = refl
    all_told told rule e (c ∷ cs) d g =
        let s = f d g c in
        rw (e d g c, s.0) (ap (λ (r : List Refusal). rule c d ∷ r) (all_told told rule e cs (step d c) s.1))

-- a step that a rule decides: an accepted call, and a refused one
module _ {S D C : Type 0} (next : S → C → S) (make : D → S) (judge : C → D → Refusal) (change : C → D → D) (Good : D → Type 0) where
  pub by_rule : ((d : D) → Good d → (c : C) → (judge c d).number ≡ 0 → (next (make d) c ≡ make (change c d)) × Good (change c d))
      → ((d : D) → Good d → (c : C) → ((judge c d).number ≡ 0 → ⊥) → next (make d) c ≡ make d)
      → Follows next make (after_call judge change) Good
  by_rule accepted refused d g c = go (eqb (judge c d).number 0) refl
    where
      go : (b : Bool) → eqb (judge c d).number 0 ≡ b → (next (make d) c ≡ make (cond b (change c d) d)) × Good (cond b (change c d) d)
      go true e = accepted d g c (eqb-true (judge c d).number 0 e)
      go false e = (refused d g c (eqb-false (judge c d).number 0 e), g)

-- two makers: what a history leaves of each one's contents is what its own calls leave
module _ {D C : Type 0} (step : D → C → D) where
  pub apart : (cs : List (ℕ × C)) (d e : D) → foldl (turn_of step) (d, e) cs ≡ (foldl step d (own 1 cs), foldl step e (own 2 cs))
  unfolding own
  apart [] d e = refl
  apart (c ∷ cs) d e = go (λ x y. apart cs x y) (eqb c.0 1) (eqb c.0 2) refl refl
    where
      go : ((x y : D) → foldl (turn_of step) (x, y) cs ≡ (foldl step x (own 1 cs), foldl step y (own 2 cs)))
          → (p q : Bool) → eqb c.0 1 ≡ p → eqb c.0 2 ≡ q
          → foldl (turn_of step) (cond p (step d c.1, e) (cond q (d, step e c.1) (d, e))) cs
          ≡ (foldl step d (cond p (c.1 ∷ own 1 cs) (own 1 cs)), foldl step e (cond q (c.1 ∷ own 2 cs) (own 2 cs)))
      go f true true a b = let x = eqb-true c.0 1 a in let y = eqb-true c.0 2 b in absurd (omega arith)
      go f true false a b = f (step d c.1) e
      go f false true a b = f d (step e c.1)
      go f false false a b = f d e

  -- so two histories with the same calls of one leave that one's contents the same
  pub first_unmoved : (cs ds : List (ℕ × C)) (d e : D) → own 1 cs ≡ own 1 ds → (foldl (turn_of step) (d, e) cs).0 ≡ (foldl (turn_of step) (d, e) ds).0
  first_unmoved cs ds d e q = ap (λ (x : D × D). x.0) (apart cs d e) ∙ ap (foldl step d) q ∙ sym (ap (λ (x : D × D). x.0) (apart ds d e))

  pub second_unmoved : (cs ds : List (ℕ × C)) (d e : D) → own 2 cs ≡ own 2 ds → (foldl (turn_of step) (d, e) cs).1 ≡ (foldl (turn_of step) (d, e) ds).1
  second_unmoved cs ds d e q = ap (λ (x : D × D). x.1) (apart cs d e) ∙ ap (foldl step e) q ∙ sym (ap (λ (x : D × D). x.1) (apart ds d e))
