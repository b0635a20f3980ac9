-- The laws of the sort, from what the code that lays the readings knows.
use mathlib.Core.Path.{◌≡◌, ◌∙◌}
use mathlib.Core.List.{List, flatten}
use Prim.Native.Nat.{ℕ, ◌+◌, ◌*◌, ◌≤◌, ◌<◌}
use native.Mathlib.Omega.{arith}
use lib.Ieee.{Float, nan}
use lib.ListN.{length, get_or, set}
use Rattle.base.specs.Lists.{over}
use Rattle.twoway_checks.specs.Inner.{keys, sorted}
use Rattle.twoway_checks.proofs.Keys.{Below, coded_keys, coded_below, coded_key, coded_place}
use Rattle.twoway_cells.specs.Inner.{Tallied}
use Rattle.twoway_cells.specs.Starts.{starts_of}
use Rattle.twoway_cells.proofs.Sorts.{Placed, placed_none, place_within, placed_one, placed_all}

module _ (xs : List Float) (us vs : List ℕ) (b : ℕ) (ns : List ℕ) (s₀ : List Float) (t : Tallied xs us vs b ns s₀) where
  same_keys : length (keys b us vs) ≡ length xs
  same_keys = coded_keys us vs b t.coded ∙ t.same

  below : Below 36 (keys b us vs)
  below = coded_below us vs b t.coded

  pub begun : {next : List ℕ} → next ≡ starts_of ns → Placed (keys b us vs) xs s₀ s₀ next 0
  begun h = rw (h, t.counts) (placed_none (keys b us vs) xs s₀ same_keys below t.room (omega (arith, same_keys, coded_keys us vs b t.coded, t.coded.few)))

  module _ (s : List Float) (next : List ℕ) (i : ℕ) (p : Placed (keys b us vs) xs s₀ s next i) where
    -- the cell of reading i is number c
    module _ (h : i < length xs) (c : ℕ) (q : c ≡ get_or us i 0 * b + get_or vs i 0) where
      there : i < length us
      there = omega (arith, h, t.same)

      key_here : c ≡ get_or (keys b us vs) i 0
      key_here = coded_key us vs b t.coded i there c q

      pub place_here : c < 36
      place_here = coded_place us vs b t.coded i there c q

      pub room_here : get_or next c 0 < length s
      room_here = omega (arith, place_within (keys b us vs) xs s₀ same_keys below t.room s next i p h c key_here, p.places, t.room)

      pub one_more : Placed (keys b us vs) xs s₀ (set s (get_or next c 0) (get_or xs i nan)) (set next c (get_or next c 0 + 1)) (i + 1)
      one_more = placed_one (keys b us vs) xs s₀ same_keys below t.room s next i p h c key_here

    pub all_laid : length xs ≤ i → s ≡ over (flatten (sorted (keys b us vs) xs)) s₀
    all_laid h = placed_all (keys b us vs) xs s₀ same_keys below t.room s next i p h
