-- Where a group of a sound sheet lies, and the sheet that an edit of it makes.
use mathlib.Core.Path.{◌≡◌, refl, ap, ◌∙◌}
use mathlib.Core.List.{List, [], ◌++◌, flatten}
use Prim.Native.Nat.{ℕ, suc, ◌+◌, ◌-◌, ◌≤◌, ◌<◌}
use native.Mathlib.Numerals.{add-one}
use native.Mathlib.Omega.{arith}
use lib.Ieee.{Float}
use lib.ListN.{length, get_or, take, drop, set, length-drop}
use lib.Seq.{length-take-le}
use Rattle.base.specs.Lists.{total}
use Rattle.base.proofs.Cuts.{total_split, cut_at}
use Rattle.base.proofs.Edits.{flatten_set}
use Rattle.base.proofs.Sizes.{total_next}
use Rattle.base.proofs.Firsts.{take_firsts}
use Rattle.oneway_rows.specs.declared.Row.{Row}
use Rattle.oneway_rows.specs.Rows.{row_of, row_answer}
use Rattle.oneway_rows.specs.Soundness.{sizes_in}
use Rattle.oneway_rows.proofs.Counted.{unread, length_sizes, size_at}
use Rattle.oneway_rows.proofs.Laid.{row_there}
use Rattle.sheet.specs.declared.Sheet.{Sheet}
use Rattle.sheet.specs.Sheets.{sizes_of, groups_of, edited}
use Rattle.sheet.proofs.Judged.{Open}
use Rattle.sheet.proofs.Relaid.{relaid, group_relaid}

-- where group g begins; where all readings end, for the number of groups
abbrev pub start : Sheet → ℕ → ℕ
start s g = total (sizes_in g s.rows)

module _ (k : ℕ) (rows : List Row) (n : ℕ) (h : n ≤ k) where
  first_sizes : take n (sizes_in k rows) ≡ sizes_in n rows
  first_sizes = take_firsts (λ (r : Row). r.size) k rows n h

  ahead_less : total (sizes_in n rows) ≤ total (sizes_in k rows)
  ahead_less = rw (← first_sizes) (omega (arith, total_split (sizes_in k rows) n))

-- what an edit knows of its group g and of the place p in it
pub record Found (s : Sheet) (g p : ℕ) : Type 0 where
  pub open_here : Open s.groups s.rows g p
  pub next : start s (g + 1) ≡ start s g + (get_or s.rows g unread).size
  pub within : start s (g + 1) ≤ start s s.groups

module _ (s : Sheet) (r : length s.rows ≡ 16) (g p : ℕ) where
  there_too : Open s.groups s.rows g p → g < length (sizes_of s)
  there_too o = rw (length_sizes s.groups s.rows (omega (arith, o.counts.high))) o.group

  pub found : Open s.groups s.rows g p → Found s g p
  found o =
      let h = o.group in
      let n = total_next (sizes_of s) g (there_too o) in
      record {
        open_here = o;
        next = rw (← first_sizes s.groups s.rows (g + 1) (omega arith), ← first_sizes s.groups s.rows g (omega arith), ← size_at s.groups s.rows g h) n;
        within = ahead_less s.groups s.rows (g + 1) (omega arith);
      }

  module _ (f : Found s g p) where
    own_start : total (take g (sizes_of s)) ≡ start s g
    own_start = ap total (first_sizes s.groups s.rows g (omega (arith, f.open_here.group)))

    pub own_size : get_or (sizes_of s) g 0 ≡ start s (g + 1) - start s g
    own_size = size_at s.groups s.rows g f.open_here.group ∙ omega (arith, f.next)

    -- the group's readings
    pub group_is : get_or (groups_of s) g [] ≡ take (start s (g + 1) - start s g) (drop (start s g) s.places)
    unfolding groups_of
    group_is = cut_at (sizes_of s) g s.places (there_too f.open_here) ∙ rw (own_start, own_size)

    pub group_length : length s.places ≡ 512 → length (get_or (groups_of s) g []) ≡ start s (g + 1) - start s g
    group_length l =
        let c = f.open_here.counts.fits in
        let m = f.within in
        rw group_is (length-take-le (start s (g + 1) - start s g) (drop (start s g) s.places) (rw length-drop (omega arith)))

    -- all readings, with ys for the group's
    laid : (ys : List Float)
        → flatten (set (groups_of s) g ys) ≡ take (start s g) s.places ++ (ys ++ take (start s s.groups - start s (g + 1)) (drop (start s (g + 1)) s.places))
    unfolding groups_of
    laid ys =
        let i = there_too f.open_here in
        let t : take (suc g) (sizes_of s) ≡ sizes_in (g + 1) s.rows = rw (← add-one g) (first_sizes s.groups s.rows (g + 1) (omega (arith, f.open_here.group))) in
        let b : total (drop (suc g) (sizes_of s)) ≡ start s s.groups - start s (g + 1) = omega (arith, ap total t, total_split (sizes_of s) (suc g)) in
        let e : start s g + get_or (sizes_of s) g 0 ≡ start s (g + 1) = omega (arith, own_size, f.next) in
        flatten_set (sizes_of s) g s.places ys i ∙ rw (own_start, b, e)

    -- new places that are all groups laid anew, and the row of the part from i to j, where the group then lies: the edited sheet
    pub made : length s.places ≡ 512 → (ys : List Float) → 1 ≤ length ys → length ys ≤ 512 → {ps : List Float} {i j : ℕ} {row : Row}
        → ps ≡ relaid s.places (start s g) (start s (g + 1)) (start s s.groups) ys → i ≡ start s g → j ≡ start s g + length ys → row ≡ row_answer (take (j - i) (drop i ps))
        → record { places = ps; rows = set s.rows g row; groups = s.groups } ≡ edited s g ys
    unfolding edited
    made l ys low high {ps} {i} {j} {row} e a b q =
        let c = f.open_here.counts.fits in
        let n = f.next in
        let m = f.within in
        let k : j - i ≡ length ys = omega arith in
        let y : take (j - i) (drop i ps) ≡ ys = rw (k, a, e) (group_relaid s.places (start s g) (start s (g + 1)) (start s s.groups) (omega arith) (omega arith) (omega arith) ys (length ys) refl) in
        let w : row ≡ row_of ys = q ∙ rw y (row_there ys low high) in
        rw (laid ys, w, e)
