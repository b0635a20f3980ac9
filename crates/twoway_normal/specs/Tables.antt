-- Tables as flat lists.
use Rattle.std.specs.Prelude.{ℕ, zero, suc, ◌+◌, ◌*◌, ◌/◌, ◌%◌, List, [], ◌∷◌}

module _ {A : Type 0} where
  -- f at q, at q + 1, .. : k places
  unfoldable pub places : ℕ → ℕ → (ℕ → A) → List A
  places q zero f = []
  places q (suc k) f = f q ∷ places (q + 1) k f

  -- n rows of w places, one after another: row i has f i j in its column j
  unfoldable pub table : ℕ → ℕ → (ℕ → ℕ → A) → List A
  table n w f = places 0 (n * w) (λ q. f (q / w) (q % w))
