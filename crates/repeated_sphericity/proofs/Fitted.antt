-- What is taken: the two ways not to be, and what the sizes leave known.
use Prim.Native.Nat.{ℕ, ◌<◌, ◌≤◌}
use mathlib.Core.Path.{◌≡◌, sym, ap, ◌∙◌}
use mathlib.Core.Bool.{Bool, true, false}
use mathlib.Core.List.{List}
use borrow.Author.Tests.{le-leb, lt-leb}
use lib.Ieee.{Float}
use Rattle.repeated_contrasts.proofs.Sizes.{laid}
use Rattle.repeated_contrasts.proofs.Taken.{taken_fits}
use Rattle.results.specs.Corrections.{no_corrections}
use Rattle.results.specs.declared.Corrections.{Corrections}
use Rattle.repeated_sphericity.specs.Corrections.{csc, corrections_of, compute_sphericity_corrections}
use Rattle.repeated_sphericity.specs.Inner.{Taken}

-- m and b: the matrix, and whether it is there
module _ (n k : ℕ) (xs ms : List Float) where
  pub known : {m : List Float} {b : Bool} → 3 ≤ k → (m, b) ≡ csc n k xs ms → b ≡ true → Taken n k
  unfolding csc
  known h e q =
      let l = (laid n k xs ms _ (taken_fits n k xs ms _ (sym (ap (λ (s : List Float × Bool). s.1) e) ∙ q))).0 in
      record { few_subjects = l.high_n; some_conditions = h; few_conditions = l.high_k }

  module _ (f dn dd : Float) where
    pub two_conditions : k < 3 → no_corrections ≡ compute_sphericity_corrections n k xs ms f dn dd
    unfolding compute_sphericity_corrections
    two_conditions h = rw (lt-leb 3 k h)

    module _ (h : 3 ≤ k) {m : List Float} {b : Bool} (e : (m, b) ≡ csc n k xs ms) where
      pub not_taken_lem : b ≡ false → no_corrections ≡ compute_sphericity_corrections n k xs ms f dn dd
      unfolding compute_sphericity_corrections
      not_taken_lem q = rw (le-leb 3 k h, ← e, q)

      pub sizes_taken : {r : Corrections} → b ≡ true → r ≡ corrections_of n k m f dn dd → r ≡ compute_sphericity_corrections n k xs ms f dn dd
      unfolding compute_sphericity_corrections
      sizes_taken q p = rw (le-leb 3 k h, ← e, q) p
