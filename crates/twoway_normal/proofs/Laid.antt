-- What a call of `normal_equations` leaves, for those who call it: where the design fits, the system in the first places of memory that is as long as it was.
use Prim.Native.Nat.{ℕ, ◌+◌, ◌*◌, ◌≤◌}
use mathlib.Core.Path.{◌≡◌, refl, sym, ap, ◌∙◌}
use mathlib.Core.Bool.{Bool, true, false, true≢false}
use mathlib.Core.List.{List, ◌++◌, append_assoc}
use native.Mathlib.Omega.{arith}
use lib.ListN.{length, take, drop, length-append, length-take, length-drop, length-replicate}
use lib.Seq.{take_at, length-take-le, drop-append-le}
use lib.Ieee.{Float}
use Rattle.base.specs.Limits.{scratch_places}
use Rattle.base.specs.Lists.{part, within}
use Rattle.float.specs.Words.{plus_zero}
use Rattle.lent.specs.Wiping.{zeros, wiped}
use Rattle.twoway_normal.specs.Equations.{rows_from, rows_places, laid_system, normal_equations}
use Rattle.twoway_normal.specs.Inner.{Fitting}
use Rattle.twoway_normal.specs.Normal.{normal_system}
use Rattle.twoway_normal.specs.Shape.{fits}
use Rattle.twoway_normal.proofs.Entries.{system_length}
use Rattle.twoway_normal.proofs.Fitted.{fitting}
use Rattle.twoway_normal.proofs.Keeping.{rows_room}
use Rattle.twoway_normal.proofs.Lent.{laid_length as over_length, laid_dropped, laid_first}

module _ (values : List Float) (us vs : List ℕ) (a b : ℕ) (work : List Float) where
  pub laid_system_lem : part 0 (a * b * (a * b + 1)) (laid_system values us vs a b work) ≡ normal_system values us vs a b
  unfolding laid_system part
  laid_system_lem = take_at (normal_system values us vs a b) _ (a * b * (a * b + 1)) (system_length values us vs a b)

  pub laid_length : Fitting values us vs a b → scratch_places ≤ length work → length (laid_system values us vs a b work) ≡ length work
  unfolding laid_system within zeros
  laid_length f h =
      let m = rows_room a b f.most_a f.most_b in
      simp (length-append, length-take, length-drop, length-replicate, system_length) (omega (arith, m))

  -- the system in the first places of memory, from those places alone
  pub laid_first_places : Fitting values us vs a b → scratch_places ≤ length work → laid_system values us vs a b (take scratch_places work) ++ drop scratch_places work ≡ laid_system values us vs a b work
  unfolding laid_system within zeros
  laid_first_places f h =
      let m = rows_room a b f.most_a f.most_b in
      let n = rows_places a b in
      let s = normal_system values us vs a b in
      let front = take scratch_places work in
      let long : length front ≡ scratch_places = length-take-le scratch_places work h in
      let back = take rows_from front ++ (zeros n ++ drop n (drop rows_from front)) in
      let whole : length back ≡ scratch_places = over_length rows_from n (zeros n) front (omega (arith, m, long)) (length-replicate n plus_zero) ∙ long in
      append_assoc s (drop (length s) back) (drop scratch_places work)
      ∙ ap (λ (z : List Float). s ++ z) (sym (drop-append-le (length s) back (drop scratch_places work) (omega (arith, whole, m, system_length values us vs a b))) ∙ ap (drop (length s)) (laid_first rows_from n scratch_places (zeros n) work (omega (arith, m)) h))

  -- behind the places that are worked in the memory is as it was, and nothing of the system is left once they are wiped
  laid_behind : Fitting values us vs a b → scratch_places ≤ length work → drop scratch_places (laid_system values us vs a b work) ≡ drop scratch_places work
  unfolding laid_system within zeros
  laid_behind f h =
      let m = rows_room a b f.most_a f.most_b in
      let n = rows_places a b in
      let back = take rows_from work ++ (zeros n ++ drop n (drop rows_from work)) in
      let long = over_length rows_from n (zeros n) work (omega (arith, m)) (length-replicate n plus_zero) in
      ap (λ (k : ℕ). drop scratch_places (normal_system values us vs a b ++ drop k back)) (system_length values us vs a b)
      ∙ laid_dropped 0 (a * b * (a * b + 1)) (normal_system values us vs a b) back (omega (arith, m, long)) (system_length values us vs a b) scratch_places (omega (arith, m))
      ∙ laid_dropped rows_from n (zeros n) work (omega (arith, m)) (length-replicate n plus_zero) scratch_places (omega (arith, m))

  pub laid_wiped : Fitting values us vs a b → scratch_places ≤ length work → wiped (laid_system values us vs a b work) ≡ wiped work
  unfolding wiped
  laid_wiped f h = rw (laid_length f h, laid_behind f h)

  -- what the answer true tells: the design fitted, and the memory is laid out
  pub equations_taken : {w : List Float} {r : Bool} → (w, r) ≡ normal_equations values us vs a b work → r ≡ true → Fitting values us vs a b × (scratch_places ≤ length work) × (w ≡ laid_system values us vs a b work)
  unfolding normal_equations
  equations_taken {w} {r} e t = go (fits (length values) (length us) (length vs) a b (length work)) refl
    where
      go : (s : Bool) → fits (length values) (length us) (length vs) a b (length work) ≡ s → Fitting values us vs a b × (scratch_places ≤ length work) × (w ≡ laid_system values us vs a b work)
      go true q = let k = fitting values us vs a b (length work) q in (k.0, k.1, ap (λ (y : List Float × Bool). y.0) (rw q at e))
      go false q = absurd (true≢false (sym t ∙ ap (λ (y : List Float × Bool). y.1) (rw q at e)))

  -- so it is long enough
  pub equations_room : {w : List Float} {r : Bool} → (w, r) ≡ normal_equations values us vs a b work → r ≡ true → scratch_places ≤ length w
  equations_room e t =
      let k = equations_taken e t in
      omega (arith, k.1, ap length k.2, laid_length k.0 k.1)
