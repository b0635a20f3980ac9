-- Laws of faults: two tests joined by "or" or by "and", and a check that stands behind two others.
use mathlib.Core.Path.{◌≡◌, refl}
use mathlib.Core.Bool.{Bool, true, false, cond, ◌||◌, ◌&&◌}
use lib.Dec.{eqb}
use Rattle.base.specs.declared.Refusal.{Refusal}
use Rattle.base.specs.Refusals.{◌or_else◌}

-- where neither of two faults is there, each is not
pub neither : (x y : Bool) → (x || y) ≡ false → (x ≡ false) × (y ≡ false)
neither true y e = (e, cc)
neither false y e = (refl, e)

-- and where two tests both hold, each does
pub both : (x y : Bool) → (x && y) ≡ true → (x ≡ true) × (y ≡ true)
both true y e = (refl, e)
both false y e = (e, cc)

-- the order of checks, not how they are bracketed, says which refusal wins
pub checks_in_order : (q s t : Refusal) → ((q or_else s) or_else t) ≡ (q or_else (s or_else t))
checks_in_order q s t = go (eqb q.number 0) refl
  where
    go : (b : Bool) → eqb q.number 0 ≡ b → cond (eqb (cond b s q).number 0) t (cond b s q) ≡ cond b (s or_else t) q
    go true e = refl
    go false e = rw e
