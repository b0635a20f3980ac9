-- When a row is there, that the steps on rows are then the plain ones, and that they keep the memory's length.
use Prim.Native.Nat.{ℕ, ◌+◌, ◌<◌, ◌≤◌}
use mathlib.Core.Path.{◌≡◌, ap}
use mathlib.Core.Bool.{Bool, true, false}
use mathlib.Core.List.{List}
use borrow.Author.Tests.{le-ltb, ltb-false}
use lib.ListN.{length, set, length-set}
use lib.Ieee.{Float}
use Rattle.base.specs.Loop.{loop}
use Rattle.base.proofs.Loops.{step, loop_length}
use Rattle.float.specs.Words.{◌⊖◌, ◌⊗◌, ◌⊘◌}
use Rattle.matrix_places.specs.Places.{at, less_at, less_row, over_at, over_row, short, less_row_in, over_row_in}

module _ (p w len : ℕ) where
  pub ends_within : short p w len ≡ false → p + w ≤ len
  unfolding short
  ends_within e = ltb-false len (p + w) e

  not_short : p + w ≤ len → short p w len ≡ false
  unfolding short
  not_short h = le-ltb len (p + w) h

-- one turn of a step: x is what the code worked out for place j
pub less_turn : (p q : ℕ) (f : Float) (w j : ℕ) (m : List Float) {x : Float} {whole : List Float}
    → loop j w (less_at p q f) m ≡ whole → j < w → x ≡ at m (q + j) ⊖ f ⊗ at m (p + j) → loop (j + 1) w (less_at p q f) (set m (q + j) x) ≡ whole
less_turn p q f w j m e h k = step j w (less_at p q f) m _ _ e h (ap (set m (q + j)) k)

pub over_turn : (p : ℕ) (d : Float) (w j : ℕ) (m : List Float) {x : Float} {whole : List Float}
    → loop j w (over_at p d) m ≡ whole → j < w → x ≡ at m (p + j) ⊘ d → loop (j + 1) w (over_at p d) (set m (p + j) x) ≡ whole
over_turn p d w j m e h k = step j w (over_at p d) m _ _ e h (ap (set m (p + j)) k)

-- b and d are what the tests of the two rows said
module _ (p q : ℕ) (f : Float) (i w : ℕ) (m : List Float) where
  module _ {b : Bool} (e : b ≡ short p w (length m)) where
    pub less_first : b ≡ true → m ≡ less_row_in p q f i w m
    unfolding less_row_in
    less_first h = rw (← e, h)

    module _ (h : b ≡ false) {d : Bool} (e' : d ≡ short q w (length m)) where
      pub less_second : d ≡ true → m ≡ less_row_in p q f i w m
      unfolding less_row_in
      less_second h' = rw (← e, h, ← e', h')

      pub less_done : {r : List Float} → d ≡ false → r ≡ less_row p q f i w m → r ≡ less_row_in p q f i w m
      unfolding less_row_in
      less_done h' k = rw (← e, h, ← e', h') k

  -- where both rows are there, what `less_row` leaves is the plain step
  pub less_room : {r : List Float} → p + w ≤ length m → q + w ≤ length m → r ≡ less_row_in p q f i w m → r ≡ less_row p q f i w m
  unfolding less_row_in
  less_room a b e = rw (not_short p w (length m) a, not_short q w (length m) b) at e

  pub less_length : length (less_row p q f i w m) ≡ length m
  unfolding less_row
  less_length = loop_length i w (less_at p q f) (λ j s. simp length-set) m

module _ (p : ℕ) (d : Float) (w : ℕ) (m : List Float) where
  module _ {b : Bool} (e : b ≡ short p w (length m)) where
    pub over_refused : b ≡ true → m ≡ over_row_in p d w m
    unfolding over_row_in
    over_refused h = rw (← e, h)

    pub over_done : {r : List Float} → b ≡ false → r ≡ over_row p d w m → r ≡ over_row_in p d w m
    unfolding over_row_in
    over_done h k = rw (← e, h) k

  -- where the row is there, what `over_row` leaves is the plain step
  pub over_room : {r : List Float} → p + w ≤ length m → r ≡ over_row_in p d w m → r ≡ over_row p d w m
  unfolding over_row_in
  over_room a e = rw (not_short p w (length m) a) at e

  pub over_length : length (over_row p d w m) ≡ length m
  unfolding over_row
  over_length = loop_length 0 w (over_at p d) (λ j s. simp length-set) m
