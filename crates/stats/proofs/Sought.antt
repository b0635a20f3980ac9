-- Groups are searched for a NaN only where there is one among all readings: elsewhere no group has one.
use Rattle.std.specs.Prelude.{ℕ, ◌+◌, Bool, true, false, ◌&&◌, List, [], ◌∷◌, Float}
use mathlib.Core.Path.{◌≡◌, refl, sym}
use lib.Ieee.{is_nan}
use Rattle.base.specs.declared.Refusal.{Refusal}
use Rattle.base.specs.Lists.{cut}
use Rattle.base.specs.Refusals.{refuse, when, ◌or_else◌, first_fault}
use Rattle.stats.specs.Sums.{has_nan}
use Rattle.stats.proofs.Finding.{none_taken, none_left}

-- `first` is what is looked for before the NaN, `nans` whether there may be one
module _ (first : ℕ → List Float → Refusal) where
  abbrev pub sought : Bool → ℕ → List Float → Refusal
  sought nans i group = first i group or_else when (nans && has_nan group) (refuse 4 i 0)

  -- with no NaN in the groups, they need not be searched
  none_sought : (i : ℕ) (ns : List ℕ) (xs : List Float) → has_nan xs ≡ false → first_fault (sought false) i (cut ns xs) ≡ first_fault (sought true) i (cut ns xs)
  unfolding first_fault cut
  none_sought i [] xs e = refl
  none_sought i (n ∷ ns) xs e = rw (none_taken is_nan n xs e, none_sought (i + 1) ns _ (none_left is_nan n xs e)) refl

  pub as_sought : (nans : Bool) (ns : List ℕ) (xs : List Float) → nans ≡ has_nan xs → first_fault (sought nans) 1 (cut ns xs) ≡ first_fault (sought true) 1 (cut ns xs)
  as_sought true ns xs e = refl
  as_sought false ns xs e = none_sought 1 ns xs (sym e)
