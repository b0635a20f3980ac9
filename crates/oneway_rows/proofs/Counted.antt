-- Laws of the rows' counts: the tests of the sizes, and what a passed check leaves known.
use mathlib.Core.Path.{◌≡◌, refl, ap, ◌∙◌}
use mathlib.Core.Bool.{Bool, false, ◌||◌, or_assoc}
use mathlib.Core.List.{List, [], ◌∷◌, map}
use Prim.Native.Nat.{ℕ, zero, suc, ◌+◌, ◌<◌, ◌≤◌}
use native.Mathlib.Nat.{not-suc-le-zero, le_of_suc-le-suc, add_assoc, zero-add}
use native.Mathlib.Omega.{arith}
use borrow.Author.Tests.{ltb-false, le-ltb, eqb-false}
use lib.Dec.{ltb}
use lib.Ieee.{nan}
use lib.ListN.{length, get_or, take}
use Rattle.base.specs.Limits.{most_groups, most_readings}
use Rattle.base.specs.Lists.{total}
use Rattle.base.specs.Refusals.{refuse, none}
use Rattle.base.proofs.Faults.{neither}
use Rattle.base.proofs.Firsts.{length_firsts, firsts_at}
use Rattle.base.proofs.Order.{no_fault}
use Rattle.std.specs.List.{list_any, sum_by, fold}
use Rattle.oneway_rows.specs.declared.Row.{Row}
use Rattle.oneway_rows.specs.Inner.{size_of, size_outside}
use Rattle.oneway_rows.specs.Soundness.{sizes_in, outside, some_outside, unsound, sound_refusal}

-- what a read past an array's end would give: no proof turns on it
abbrev pub unread : Row
unread = record { size = 0; mean = nan; sq_dev = nan }

-- a size that is not outside lies between
pub inside : (low high n : ℕ) → outside low high n ≡ false → (low ≤ n) × (n ≤ high)
inside low high n e =
    let p = neither (ltb n low) (ltb high n) e in
    (ltb-false n low p.0, ltb-false high n p.1)

pub not_outside : (low high n : ℕ) → low ≤ n → n ≤ high → outside low high n ≡ false
not_outside low high n l u = rw (le-ltb n low l, le-ltb high n u)

-- the sizes of the first k rows, and what is left of their sum from g on
module _ (k : ℕ) (rows : List Row) where
  pub length_sizes : k ≤ length rows → length (sizes_in k rows) ≡ k
  length_sizes l = length_firsts (λ (r : Row). r.size) k rows l

  pub size_at : (g : ℕ) → g < k → get_or (sizes_in k rows) g 0 ≡ (get_or rows g unread).size
  size_at g h = firsts_at (λ (r : Row). r.size) k rows unread g h

  there : (g : ℕ) → k ≤ length rows → g < k → g < length (sizes_in k rows)
  there g l h = rw (length_sizes l) h

-- the two tests of the first k rows, as the code asks them, and as the definition does
any_outside : (rows : List Row) → list_any size_outside rows ≡ some_outside (map size_of rows)
unfolding some_outside
any_outside [] = refl
any_outside (r ∷ rows) = ap (λ (b : Bool). outside 2 512 r.size || b) (any_outside rows)

added : (rows : List Row) (t : ℕ) → fold (λ n r. n + size_of r) t rows ≡ t + total (map size_of rows)
unfolding total
added [] t = omega arith
added (r ∷ rows) t = added rows (t + r.size) ∙ add_assoc t r.size (total (map size_of rows))

pub sizes_added : (rows : List Row) → sum_by size_of rows ≡ total (map size_of rows)
sizes_added rows = rw (added rows 0) (zero-add _)

pub unsound_rows : (k : ℕ) (rows : List Row) → (outside 2 16 k || (list_any size_outside (take k rows) || ltb 512 (sum_by size_of (take k rows)))) ≡ unsound k (sizes_in k rows)
unfolding unsound
unsound_rows k rows = rw (any_outside (take k rows), sizes_added (take k rows), or_assoc (outside 2 16 k) (some_outside (sizes_in k rows)))

-- where there is none, each size lies between
pub inside_at : (ns : List ℕ) (g : ℕ) → some_outside ns ≡ false → g < length ns → (2 ≤ get_or ns g 0) × (get_or ns g 0 ≤ 512)
unfolding some_outside
inside_at [] g e h = absurd (not-suc-le-zero h)
inside_at (n ∷ ns) zero e h = inside 2 512 n (neither (outside 2 512 n) (some_outside ns) e).0
inside_at (n ∷ ns) (suc g) e h = inside_at ns g (neither (outside 2 512 n) (some_outside ns) e).1 (le_of_suc-le-suc h)

-- what a passed check leaves known
pub record Sound (k : ℕ) (rows : List Row) : Type 0 where
  pub low : 2 ≤ k
  pub high : k ≤ most_groups
  pub each : some_outside (sizes_in k rows) ≡ false
  pub fits : total (sizes_in k rows) ≤ most_readings

module _ (k : ℕ) (rows : List Row) where
  pub sound : (sound_refusal k rows).number ≡ 0 → Sound k rows
  unfolding sound_refusal unsound
  sound h =
      let ns : List ℕ = sizes_in k rows in
      let e = no_fault (outside 2 16 k || some_outside ns || ltb 512 (total ns)) (refuse 13 0 0) (eqb-false 13 0 refl) h in
      let p = neither (outside 2 16 k || some_outside ns) (ltb 512 (total ns)) e in
      let q = neither (outside 2 16 k) (some_outside ns) p.0 in
      let i = inside 2 16 k q.0 in
      record { low = i.0; high = i.1; each = q.1; fits = ltb-false 512 (total ns) p.1 }

  pub sound_passes : Sound k rows → sound_refusal k rows ≡ none
  unfolding sound_refusal unsound
  sound_passes s = rw (not_outside 2 16 k s.low s.high, s.each, le-ltb 512 (total (sizes_in k rows)) s.fits)
