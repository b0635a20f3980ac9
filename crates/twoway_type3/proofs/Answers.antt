-- The two ends of `type3_ss`, from what the call of the normal equations said: r, with the memory w.
use Prim.Native.Nat.{ℕ, ◌*◌, ◌+◌, ◌≤◌}
use mathlib.Core.Path.{◌≡◌, sym, ap, ◌∙◌}
use mathlib.Core.Bool.{Bool, true, false, cond, true≢false}
use mathlib.Core.List.{List, ◌++◌}
use native.Mathlib.Omega.{arith}
use lib.ListN.{length, drop, take}
use lib.Seq.{take-take}
use lib.Ieee.{Float}
use Rattle.base.specs.Limits.{scratch_places}
use Rattle.base.specs.Lists.{part}
use Rattle.lent.specs.Wiping.{zeros, wiped}
use Rattle.lent.proofs.Wipes.{wiped_by}
use Rattle.results.specs.declared.Effects.{Effects}
use Rattle.results.specs.Effects.{no_effects}
use Rattle.twoway_normal.specs.Equations.{laid_system, normal_equations}
use Rattle.twoway_normal.specs.Inner.{Fitting}
use Rattle.twoway_normal.specs.Shape.{fits}
use Rattle.twoway_normal.proofs.Keeping.{rows_room}
use Rattle.twoway_normal.proofs.Laid.{laid_system_lem, laid_wiped, equations_taken, equations_room}
use Rattle.twoway_type3.specs.Answer.{effects_from, all_effects, type3_ss}

module _ (values : List Float) (us vs : List ℕ) (a b : ℕ) (work : List Float) {w : List Float} {r : Bool} (e : (w, r) ≡ normal_equations values us vs a b work) where
  abbrev asked : Bool
  asked = fits (length values) (length us) (length vs) a b (length work)

  pub not_taken_lem : {d : Effects} → r ≡ false → d ≡ no_effects → ◌≡◌ {A = List Float × Effects} (w, d) (type3_ss values us vs a b work)
  unfolding normal_equations type3_ss
  not_taken_lem {d} f q = go asked e
    where
      go : (t : Bool) → ◌≡◌ {A = List Float × Bool} (w, r) (cond t (laid_system values us vs a b work, true) (work, false)) → ◌≡◌ {A = List Float × Effects} (w, d) (cond t (wiped work, all_effects values us vs a b) (work, no_effects))
      go true p = absurd (true≢false (sym (ap (λ (y : List Float × Bool). y.1) p) ∙ f))
      go false p = rw (q, ap (λ (y : List Float × Bool). y.0) p)

  -- x is what the effects left in the first 6,400 places
  pub taken : {x : List Float} {d : Effects} → r ≡ true → (x ≡ zeros scratch_places) × (d ≡ effects_from (part 0 (a * b * (a * b + 1)) (take scratch_places w)) a b)
      → ◌≡◌ {A = List Float × Effects} (x ++ drop scratch_places w, d) (type3_ss values us vs a b work)
  unfolding normal_equations type3_ss part
  taken {x} {d} f q = go asked e
    where
      go : (t : Bool) → ◌≡◌ {A = List Float × Bool} (w, r) (cond t (laid_system values us vs a b work, true) (work, false))
          → ◌≡◌ {A = List Float × Effects} (x ++ drop scratch_places w, d) (cond t (wiped work, all_effects values us vs a b) (work, no_effects))
      go false u = absurd (true≢false (sym f ∙ ap (λ (y : List Float × Bool). y.1) u))
      go true u = λ i. (all i, same i)
        where
          known : Fitting values us vs a b × (scratch_places ≤ length work) × (w ≡ laid_system values us vs a b work)
          known = equations_taken values us vs a b work e f

          all : x ++ drop scratch_places w ≡ wiped work
          all = wiped_by scratch_places x w (omega (arith, equations_room values us vs a b work e f)) q.0 ∙ ap wiped known.2 ∙ laid_wiped values us vs a b work known.0 known.1

          -- the system is within the first 6,400 places
          first : take (a * b * (a * b + 1)) (take scratch_places w) ≡ take (a * b * (a * b + 1)) w
          first = take-take (a * b * (a * b + 1)) scratch_places w (omega (arith, rows_room a b known.0.most_a known.0.most_b))

          same : d ≡ all_effects values us vs a b
          same = q.1 ∙ ap (λ (y : List Float). effects_from y a b) (first ∙ ap (λ (y : List Float). take (a * b * (a * b + 1)) y) known.2 ∙ laid_system_lem values us vs a b work)
