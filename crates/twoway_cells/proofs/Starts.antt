-- Laws of running sums: where each cell begins.
use mathlib.Core.Path.{◌≡◌, ap, ◌∙◌}
use mathlib.Core.List.{List, [], ◌∷◌}
use Prim.Native.Nat.{ℕ, zero, suc, ◌+◌, ◌≤◌, ◌<◌}
use native.Mathlib.Nat.{not-suc-le-zero, le_of_suc-le-suc, zero-add}
use native.Mathlib.Numerals.{add-one}
use native.Mathlib.Omega.{arith}
use borrow.Author.Tests.{lt-ltb, le-ltb}
use lib.ListN.{length, get_or, take, drop, set, drop_of_length-le, length-replicate, get_or-append}
use lib.Seq.{drop-cons, sets, take-take}
use Rattle.base.specs.Limits.{most_cells, most_readings}
use Rattle.base.specs.Lists.{total, over}
use Rattle.base.proofs.Cuts.{total_split}
use Rattle.base.proofs.Sizes.{total_next}
use Rattle.base.proofs.Runs.{sets_over, length_over}
use Rattle.twoway_cells.specs.Starts.{sums, no_starts, starts_of}

pub length_sums : (at : ℕ) (ns : List ℕ) → length (sums at ns) ≡ length ns + 1
unfolding sums
length_sums at [] = omega arith
length_sums at (n ∷ ns) = omega (arith, length_sums (at + n) ns)

pub sums_at : (at : ℕ) (ns : List ℕ) (c : ℕ) → c ≤ length ns → get_or (sums at ns) c 0 ≡ at + total (take c ns)
unfolding sums total
sums_at at [] zero h = omega arith
sums_at at [] (suc c) h = absurd (not-suc-le-zero h)
sums_at at (n ∷ ns) zero h = omega arith
sums_at at (n ∷ ns) (suc c) h = omega (arith, sums_at (at + n) ns c (le_of_suc-le-suc h))

-- the loop that puts them down: `at` is the sum of the counts before c
module _ (ns : List ℕ) (few : length ns ≤ 36) where
  pub sums_start : sets no_starts 0 (sums 0 ns) ≡ over (sums 0 ns) no_starts
  unfolding no_starts
  sums_start = sets_over (sums 0 ns) no_starts (rw (length_sums 0 ns, length-replicate) (omega arith))

  module _ (out : List ℕ) (at c : ℕ) (e : sets out c (sums at (drop c ns)) ≡ over (sums 0 ns) no_starts) where
    pub sums_turn : c < length ns → sets (set out c at) (c + 1) (sums (at + get_or ns c 0) (drop (c + 1) ns)) ≡ over (sums 0 ns) no_starts
    unfolding sums
    sums_turn h = rw add-one (rw (drop-cons ns c 0 h) at e)

    pub sums_end : c ≡ length ns → set out (length ns) at ≡ over (sums 0 ns) no_starts
    unfolding sums
    sums_end h = let p : length ns ≤ c = omega arith in rw (← h) (rw (drop_of_length-le ns p) at e)

-- the answers of the call
pub too_many : (ns : List ℕ) → most_cells < length ns → no_starts ≡ starts_of ns
unfolding starts_of
too_many ns h = rw (lt-ltb most_cells (length ns) h)

pub too_long : (ns : List ℕ) → length ns ≤ most_cells → most_readings < total ns → no_starts ≡ starts_of ns
unfolding starts_of
too_long ns few h = rw (le-ltb most_cells (length ns) few, lt-ltb most_readings (total ns) h)

pub told : (ns : List ℕ) → length ns ≤ most_cells → total ns ≤ most_readings → over (sums 0 ns) no_starts ≡ starts_of ns
unfolding starts_of
told ns few h = rw (le-ltb most_cells (length ns) few, le-ltb most_readings (total ns) h)

-- what callers know of it
module _ (ns : List ℕ) (few : length ns ≤ 36) (fits : total ns ≤ 512) where
  pub starts_length : length (starts_of ns) ≡ 37
  unfolding no_starts
  starts_length = rw (← told ns few fits) (length_over (sums 0 ns) no_starts (rw (length_sums 0 ns, length-replicate) (omega arith)) ∙ length-replicate {A = ℕ} 37 0)

  pub starts_at : (c : ℕ) → c ≤ length ns → get_or (starts_of ns) c 0 ≡ total (take c ns)
  starts_at c h = rw (← told ns few fits) (get_or-append (sums 0 ns) _ 0 c (rw (length_sums 0 ns) (omega arith)) ∙ sums_at 0 ns c h ∙ zero-add _)

-- a cell ends before a later one begins, and within the whole
module _ (ns : List ℕ) (c : ℕ) (h : c < length ns) where
  pub ends_within : total (take c ns) + get_or ns c 0 ≤ total ns
  ends_within = omega (arith, total_next ns c h, total_split ns (c + 1))

  pub ends_before : (d : ℕ) → c < d → total (take c ns) + get_or ns c 0 ≤ total (take d ns)
  ends_before d l =
      let t = take-take (c + 1) d ns (omega arith) in
      omega (arith, total_next ns c h, total_split (take d ns) (c + 1), ap total t)
