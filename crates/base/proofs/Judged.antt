-- Laws of `?` in a call that hands back an answer of its own: the check before it ends the call, or the call goes on.
use mathlib.Core.Path.{◌≡◌, sym, ap, ◌∙◌}
use Rattle.base.specs.declared.Refusal.{Refusal}
use Rattle.std.specs.Prelude.{Result, Ok, Err, ⊤}
use Rattle.base.specs.Refusals.{◌or_else◌, judged, verdict}
use Rattle.base.proofs.Order.{first_wins, second_asked, judged_refused, judged_passed, was_passed, was_refused}

-- the code asks q, x is what it was told, and a is the answer behind all checks
module _ {A : Type 0} (q : Refusal) (a : A) {x : Result ⊤ Refusal} (told : x ≡ verdict q) where
  -- the last check
  pub last_ends : {r : Refusal} → x ≡ Err r → Err r ≡ judged q a
  last_ends e = let w = was_refused q tt told e in sym (judged_refused q a w.1 ∙ ap Err w.0)

  pub last_passed : x ≡ Ok tt → Ok a ≡ judged q a
  last_passed e = sym (judged_passed q a (was_passed q tt told e))

  -- a check before others
  module _ (s : Refusal) where
    pub ends_call : {r : Refusal} → x ≡ Err r → Err r ≡ judged (q or_else s) a
    ends_call e = let w = was_refused q tt told e in rw (first_wins q s w.1) (sym (judged_refused q a w.1 ∙ ap Err w.0))

    pub asks_further : {y : Result A Refusal} → x ≡ Ok tt → y ≡ judged s a → y ≡ judged (q or_else s) a
    asks_further e p = rw (second_asked q s (was_passed q tt told e)) p

-- what a caller learns from the answer b that it was handed
module _ {A : Type 0} (q : Refusal) (a : A) {x : Result A Refusal} (told : x ≡ judged q a) where
  pub was_answered : {b : A} → x ≡ Ok b → b ≡ a
  was_answered e = ap held (sym e ∙ told ∙ judged_passed q a (was_passed q a told e))
    where
      held : Result A Refusal → A
      held x = elim x [ Ok b ↦ b | Err e ↦ a ]
