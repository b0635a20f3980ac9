-- How long a table is and where its entries lie, and so how long the normal equations are and where theirs lie.
use Prim.Native.Nat.{ℕ, zero, suc, ◌+◌, ◌*◌, ◌/◌, ◌%◌, ◌<◌}
use mathlib.Core.Path.{◌≡◌, refl, ap, ◌∙◌}
use mathlib.Core.List.{List}
use native.Mathlib.Nat.{add-zero, not-suc-le-zero, le_of_suc-le-suc}
use native.Mathlib.Omega.{arith}
use lib.ListN.{length, get_or}
use lib.Ieee.{Float, nan}
use Rattle.base.proofs.Bounds.{row_end}
use Rattle.matrix_places.specs.Places.{at}
use Rattle.twoway_normal.specs.Normal.{normal_at, normal_system}
use Rattle.twoway_normal.specs.Tables.{places, table}
use Rattle.twoway_normal.proofs.Ways.{row_of_lem, column_of_lem}

module _ {A : Type 0} where
  pub length_places : (q k : ℕ) (f : ℕ → A) → length (places q k f) ≡ k
  unfolding places
  length_places q zero f = refl
  length_places q (suc k) f = ap suc (length_places (q + 1) k f)

  pub same_places : (q k : ℕ) (f g : ℕ → A) → ((j : ℕ) → j < q + k → f j ≡ g j) → places q k f ≡ places q k g
  unfolding places
  same_places q zero f g e = refl
  same_places q (suc k) f g e = rw (e q (omega arith), same_places (q + 1) k f g (λ j l. e j (omega arith)))

  places_at : (q k : ℕ) (f : ℕ → A) (d : A) (i : ℕ) → i < k → get_or (places q k f) i d ≡ f (q + i)
  unfolding places
  places_at q zero f d i h = absurd (not-suc-le-zero h)
  places_at q (suc k) f d zero h = rw (add-zero q)
  places_at q (suc k) f d (suc i) h =
      let e : q + 1 + i ≡ q + suc i = omega arith in
      places_at (q + 1) k f d i (le_of_suc-le-suc h) ∙ ap f e

  -- f i j stands at place i * w + j
  pub table_at : (n w : ℕ) (f : ℕ → ℕ → A) (d : A) (i j : ℕ) → i < n → j < w → get_or (table n w f) (i * w + j) d ≡ f i j
  unfolding table
  table_at n w f d i j h l =
      let b : i * w + j < n * w = omega (arith, row_end i n w {len = n * w} h (omega arith)) in
      let z : 0 + (i * w + j) ≡ i * w + j = omega arith in
      places_at 0 (n * w) (λ q. f (q / w) (q % w)) d (i * w + j) b ∙ rw (z, row_of_lem i w j l, column_of_lem i w j l)

pub system_length : (values : List Float) (us vs : List ℕ) (a b : ℕ) → length (normal_system values us vs a b) ≡ a * b * (a * b + 1)
unfolding normal_system table
system_length values us vs a b = length_places 0 (a * b * (a * b + 1)) _

-- X'X and X'y, entry by entry
pub normal_entry : (values : List Float) (us vs : List ℕ) (a b j k : ℕ) → j < a * b → k < a * b + 1 → at (normal_system values us vs a b) (j * (a * b + 1) + k) ≡ normal_at values us vs a b j k
unfolding normal_system
normal_entry values us vs a b j k h l = table_at (a * b) (a * b + 1) (normal_at values us vs a b) nan j k h l
