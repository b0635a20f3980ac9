-- What the checks of `mean` and `variance` leave known, and when they are passed.
use mathlib.Core.Path.{◌≡◌, refl, sym, ◌∙◌}
use mathlib.Core.Bool.{Bool, true, false, cond}
use Rattle.std.specs.Prelude.{Result, Ok, Err, ⊤}
use Prim.Native.Nat.{ℕ, zero, suc, ◌≤◌}
use native.Mathlib.Omega.{arith}
use borrow.Author.Tests.{ltb-false, eqb-false, lt-ltb, le-ltb, ne_eqb}
use lib.Dec.{ltb, eqb}
use mathlib.Core.List.{List}
use lib.ListN.{length}
use lib.Ieee.{Float}
use Rattle.base.specs.declared.Refusal.{Refusal}
use Rattle.base.specs.Refusals.{refuse, when, guarded, judged, verdict}
use Rattle.base.proofs.Order.{both_passed, no_fault, was_refused, was_passed, judged_refused, judged_passed}
use Rattle.stats.specs.Sums.{mean_of}
use Rattle.stats.specs.Figures.{mean_refusal, variance_refusal, figure, refused_figure, figure_of, counted, mean_answer}

pub mean_passed : (n : ℕ) → (mean_refusal n).number ≡ 0 → n ≤ 512
unfolding mean_refusal
mean_passed n h =
    let p = both_passed (when (ltb 512 n) (refuse 11 2 n)) (when (eqb n 0) (refuse 1 0 0)) h in
    ltb-false 512 n (no_fault (ltb 512 n) (refuse 11 2 n) (eqb-false 11 0 refl) p.0)

pub variance_passed : (n : ℕ) → (variance_refusal n).number ≡ 0 → (n ≤ 512) × (2 ≤ n)
unfolding variance_refusal
variance_passed n h =
    let p = both_passed (when (ltb 512 n) (refuse 11 2 n)) (when (ltb n 2) (refuse 2 2 n)) h in (
      ltb-false 512 n (no_fault (ltb 512 n) (refuse 11 2 n) (eqb-false 11 0 refl) p.0),
      ltb-false n 2 (no_fault (ltb n 2) (refuse 2 2 n) (eqb-false 2 0 refl) p.1),
    )

-- of 1 to 512 readings `mean` answers the mean
pub mean_answers : (xs : List Float) → 1 ≤ length xs → length xs ≤ 512 → mean_answer xs ≡ figure (mean_of xs)
unfolding mean_answer mean_refusal guarded
mean_answers xs l u = rw (le-ltb 512 (length xs) u, ne_eqb (length xs) 0 (λ e. omega arith))

-- a check in front of a number, and the answer that is made of both
module _ (q : Refusal) (x : Float) where
  pub figure_told : figure_of (judged q x) ≡ guarded q refused_figure (figure x)
  unfolding guarded
  figure_told = go (eqb q.number 0)
    where
      go : (b : Bool) → figure_of (cond b (Ok x) (Err q)) ≡ cond b (figure x) (refused_figure q)
      go true = refl
      go false = refl

  module _ {told : Result ⊤ Refusal} (e : told ≡ verdict q) where
    pub check_refuses : {r : Refusal} → told ≡ Err r → Err r ≡ judged q x
    check_refuses p = let w = was_refused q tt e p in rw (← w.0) (sym (judged_refused q x w.1))

    pub check_passes : {y : Float} → told ≡ Ok tt → y ≡ x → Ok y ≡ judged q x
    check_passes p n = rw n (sym (judged_passed q x (was_passed q tt e p)))

-- the two checks said by the fewest readings that they take; `told` is what the code was told
module _ (n : ℕ) {r : Refusal} {told : Result ⊤ Refusal} where
  pub mean_told : r ≡ refuse 1 0 0 → told ≡ verdict (counted 1 n r) → told ≡ verdict (mean_refusal n)
  unfolding mean_refusal
  mean_told p e = e ∙ rw (p, none_there n)
    where
      none_there : (n : ℕ) → ltb n 1 ≡ eqb n 0
      none_there zero = lt-ltb 0 1 (omega arith)
      none_there (suc n) = le-ltb (suc n) 1 (omega arith) ∙ sym (ne_eqb (suc n) 0 (λ e. omega arith))

  pub variance_told : r ≡ refuse 2 2 n → told ≡ verdict (counted 2 n r) → told ≡ verdict (variance_refusal n)
  unfolding variance_refusal
  variance_told p e = e ∙ rw p
