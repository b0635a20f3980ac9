-- Demand 3: after any calls from an accepted load, the sheet is the one loaded afresh from the readings that the accepted calls leave.
use mathlib.Core.Path.{◌≡◌, refl, sym, ap, ◌∙◌}
use mathlib.Core.Bool.{false}
use mathlib.Core.List.{List, [], ◌∷◌, ◌++◌, map, flatten, foldl, map-map}
use Prim.Native.Nat.{ℕ, zero, suc, ◌+◌, ◌≤◌, ◌<◌}
use native.Mathlib.Nat.{not-suc-le-zero, le_of_suc-le-suc}
use native.Mathlib.Omega.{arith}
use lib.Ieee.{Float, is_nan}
use lib.ListN.{length, get_or, take, drop, set, replicate, length-append, length-set, length-map, length-drop, length-replicate, get_or-map}
use lib.Seq.{take_at, drop-append_seam, set-append_left, length-take-le}
use Rattle.base.specs.declared.Refusal.{Refusal}
use Rattle.base.specs.Lists.{cut, over}
use Rattle.base.proofs.Cuts.{cut_flatten, own_cut, total_flatten}
use Rattle.base.proofs.Edits.{map_set, flatten_set_length}
use Rattle.base.proofs.Order.{passed_answer, told}
use Rattle.base.proofs.Histories.{Follows, any_calls, by_rule}
use Rattle.float.specs.Words.{plus_zero}
use Rattle.stats.specs.Sums.{some, has_nan}
use Rattle.oneway_rows.specs.declared.Row.{Row}
use Rattle.oneway_checks.specs.Checks.{one_way_refusal}
use Rattle.oneway_rows.specs.Rows.{row_of, rows_of, empty_rows}
use Rattle.oneway_rows.proofs.Clean.{clean_at, clean_long, clean_set, clean_inside, Good, passed_good, good_passes}
use Rattle.oneway_rows.proofs.Counted.{Sound, sound_passes}
use Rattle.oneway.specs.declared.AnovaKind.{AnovaKind}
use Rattle.oneway.specs.Anova.{one_way_anova}
use Rattle.oneway.proofs.Reports.{report_sound}
use Rattle.oneway.proofs.Spread.{analysed}
use Rattle.stats.proofs.Finding.{none_taken, none_left, none_append, none_set}
use Rattle.sheet.specs.declared.Edit.{Edit}
use Rattle.sheet.specs.Sheets.{zero_places, sheet_of, sizes_of, groups_of, edited}
use Rattle.sheet.specs.Calls.{Call, Replace, Append, Remove, judge, refusal_of, target, fresh, renewed, accepted, refused_with, call_of, load_of, report_of, ruled, changed, after, called, groups_left, sheet_after}
use Rattle.sheet.proofs.Judged.{group_there, replace_passed, append_passed, remove_passed}
use Rattle.sheet.proofs.Kept.{refused_unchanged}

-- the sheet of given groups has these groups
rows_of_lem : (gs : List (List Float)) → take (sheet_of gs).groups (sheet_of gs).rows ≡ map row_of gs
unfolding sheet_of rows_of
rows_of_lem gs = take_at (map row_of gs) (drop (length (map row_of gs)) empty_rows) (length gs) (length-map gs row_of)

pub sizes_of_lem : (gs : List (List Float)) → sizes_of (sheet_of gs) ≡ map length gs
sizes_of_lem gs = ap (map (λ (r : Row). r.size)) (rows_of_lem gs) ∙ map-map (λ (r : Row). r.size) row_of gs

pub groups_of_lem : (gs : List (List Float)) → groups_of (sheet_of gs) ≡ gs
unfolding groups_of sheet_of
groups_of_lem gs = ap (λ (ns : List ℕ). cut ns (over (flatten gs) zero_places)) (sizes_of_lem gs) ∙ cut_flatten gs (drop (length (flatten gs)) zero_places)

sound_of : (gs : List (List Float)) → Good gs → Sound (sheet_of gs).groups (sheet_of gs).rows
unfolding sheet_of
sound_of gs k = record {
  low = k.few;
  high = k.many;
  each = rw (sizes_of_lem gs) (clean_inside gs k.clean k.fits);
  fits = rw (sizes_of_lem gs, total_flatten gs) k.fits;
}

-- so a call on it meets what the groups' own rule says
judged : (gs : List (List Float)) → Good gs → (c : Call) → refusal_of c (sheet_of gs).groups (sheet_of gs).rows ≡ judge c (map length gs)
unfolding refusal_of
judged gs k c = rw (sound_passes (sheet_of gs).groups (sheet_of gs).rows (sound_of gs k), sizes_of_lem gs)

-- and an edit of it is the sheet of the groups with the new readings
zeros_again : (n m : ℕ) → n ≤ m → replicate n plus_zero ++ drop n (replicate m plus_zero) ≡ replicate m plus_zero
zeros_again zero m h = refl
zeros_again (suc n) zero h = absurd (not-suc-le-zero h)
zeros_again (suc n) (suc m) h = ap (λ (r : List Float). plus_zero ∷ r) (zeros_again n m (le_of_suc-le-suc h))

cleared : (xs : List Float) → length xs ≤ 512 → over (replicate (length xs) plus_zero) (over xs zero_places) ≡ zero_places
unfolding zero_places
cleared xs h = rw (length-replicate, drop-append_seam) (zeros_again (length xs) 512 h)

pub edited_of : (gs : List (List Float)) (g : ℕ) (ys : List Float) → length (flatten gs) ≤ 512 → g < length gs → edited (sheet_of gs) g ys ≡ sheet_of (set gs g ys)
unfolding edited sheet_of rows_of
edited_of gs g ys f h =
    let z = cleared (flatten gs) f in
    let r : set (over (map row_of gs) empty_rows) g (row_of ys) ≡ over (map row_of (set gs g ys)) empty_rows
    = set-append_left (map row_of gs) (drop (length (map row_of gs)) empty_rows) g (row_of ys) (rw length-map h)
    ∙ rw (map_set row_of gs g ys, length-set) in
    rw (groups_of_lem gs, sizes_of_lem gs, total_flatten gs, z, r, length-set)

-- the new readings of an accepted call: two at least, no NaN, and room for all
pub record New (gs : List (List Float)) (c : Call) : Type 0 where
  pub long : 2 ≤ length (renewed c gs)
  pub clean : has_nan (renewed c gs) ≡ false
  pub room : length (flatten (changed c gs)) ≤ 512

module _ (gs : List (List Float)) (k : Good gs) where
  pub size_of : (g : ℕ) → get_or (map length gs) g 0 ≡ length (get_or gs g [])
  size_of g = get_or-map length gs g []

  pub there : (c : Call) → (judge c (map length gs)).number ≡ 0 → target c < length gs
  there c z = rw length-map at (group_there c (map length gs) z)

  pub new_of : (c : Call) → (judge c (map length gs)).number ≡ 0 → New gs c
  unfolding target fresh some
  new_of (Replace g p x) z =
      let q = replace_passed g p (map length gs) x z in
      let i = there (Replace g p x) z in
      let old : List Float = get_or gs g [] in
      let n : length (set old p x) ≡ length old = length-set old p x in
      record {
        long = rw n (clean_long gs g k.clean i);
        clean = none_set is_nan old p x (clean_at gs g k.clean) q.1;
        room = omega (arith, k.fits, flatten_set_length gs g (set old p x) i);
      }
  new_of (Append g x) z =
      let q = append_passed g (map length gs) x z in
      let i = there (Append g x) z in
      let old : List Float = get_or gs g [] in
      let n : length (old ++ (x ∷ [])) ≡ length old + 1 = length-append old (x ∷ []) in
      record {
        long = omega (arith, clean_long gs g k.clean i);
        clean = none_append is_nan old (x ∷ []) (clean_at gs g k.clean) (rw q.1);
        room = omega (arith, q.2, total_flatten gs, flatten_set_length gs g (old ++ (x ∷ [])) i);
      }
  new_of (Remove g p) z =
      let q = remove_passed g p (map length gs) z in
      let i = there (Remove g p) z in
      let old : List Float = get_or gs g [] in
      let l = size_of g in
      let n : length (take p old ++ drop (suc p) old) + 1 ≡ length old
      = rw (length-append, length-take-le p old (omega arith), length-drop) (omega arith) in
      record {
        long = omega (arith, q.1);
        clean = none_append is_nan (take p old) (drop (suc p) old) (none_taken is_nan p old (clean_at gs g k.clean)) (none_left is_nan (suc p) old (clean_at gs g k.clean));
        room = omega (arith, k.fits, flatten_set_length gs g (take p old ++ drop (suc p) old) i);
      }

  -- a load accepts the groups with such readings again
  stays : (c : Call) → New gs c → Good (changed c gs)
  stays c n = record { few = rw length-set k.few; many = rw length-set k.many; fits = n.room; clean = clean_set gs (target c) (renewed c gs) k.clean n.long n.clean }

  -- one call: the sheet of the groups after it
  accepted_of : (c : Call) → (judge c (map length gs)).number ≡ 0 → call_of c (sheet_of gs) ≡ accepted (sheet_of (changed c gs))
  unfolding call_of
  accepted_of c z =
      passed_answer (refusal_of c (sheet_of gs).groups (sheet_of gs).rows) (refused_with (sheet_of gs)) _ (rw (judged gs k c) z)
      ∙ ap accepted (rw (groups_of_lem gs) (edited_of gs (target c) (renewed c gs) k.fits (there c z)))

  -- the groups' own readings and sizes load afresh
  load_again : load_of (flatten gs) (map length gs) ≡ accepted (sheet_of gs)
  unfolding load_of
  load_again = passed_answer (one_way_refusal (flatten gs) (map length gs)) (refused_with (sheet_of [])) _ (ap (λ (r : Refusal). r.number) (good_passes gs k)) ∙ rw (own_cut gs)

  -- and are analysed as the report of their sheet is
  report_of_lem : (kind : AnovaKind) → report_of kind (sheet_of gs) ≡ one_way_anova kind (flatten gs) (map length gs)
  unfolding report_of
  report_of_lem kind =
      let s = sheet_of gs in
      let z = ap (λ (r : Refusal). r.number) (sound_passes s.groups s.rows (sound_of gs k)) in
      report_sound kind s.groups s.rows (flatten (groups_of s)) z (rw (sizes_of_lem gs, groups_of_lem gs) (total_flatten gs))
      ∙ rw (rows_of_lem gs, groups_of_lem gs) (sym (analysed kind gs k))

-- so one call does to the sheet what the rule says of the groups, and any calls do
follows : Follows called sheet_of after Good
unfolding called after
follows = by_rule called sheet_of ruled changed Good
    (λ gs k c z. (ap (λ (t : Edit). t.sheet) (accepted_of gs k c z), stays gs k c (new_of gs k c z)))
    (λ gs k c n. (refused_unchanged c (sheet_of gs)).1 (λ z. n (rw (judged gs k c) at z)))

history : (cs : List Call) (gs : List (List Float)) → Good gs → (sheet_after (sheet_of gs) cs ≡ sheet_of (foldl after gs cs)) × Good (foldl after gs cs)
history cs gs k = any_calls called sheet_of after Good follows cs gs k

-- An accepted load, and any calls after it, refused ones among them.
module _ (xs : List Float) (ns : List ℕ) (cs : List Call) (z : (load_of xs ns).refusal.number ≡ 0) where
  loads : (one_way_refusal xs ns).number ≡ 0
  unfolding load_of
  loads = sym (told (one_way_refusal xs ns) (refused_with (sheet_of [])) (accepted (sheet_of (cut ns xs))) (λ (e : Edit). e.refusal) (λ r. refl) refl refl) ∙ z

  start_good : Good (cut ns xs)
  start_good = passed_good xs ns loads

  ends : (sheet_after (load_of xs ns).sheet cs ≡ sheet_of (groups_left xs ns cs)) × Good (groups_left xs ns cs)
  unfolding load_of
  ends = rw (passed_answer (one_way_refusal xs ns) (refused_with (sheet_of [])) (accepted (sheet_of (cut ns xs))) loads) (history cs (cut ns xs) start_good)

  -- The readings that the accepted calls leave, loaded afresh, give the sheet that the calls leave.
  pub fresh_sheet : load_of (flatten (groups_left xs ns cs)) (map length (groups_left xs ns cs)) ≡ accepted (sheet_after (load_of xs ns).sheet cs)
  fresh_sheet = rw ends.0 (load_again (groups_left xs ns cs) ends.1)

  -- Its report is one-way's answer for those readings, of every kind.
  pub fresh_report : (kind : AnovaKind) → report_of kind (sheet_after (load_of xs ns).sheet cs) ≡ one_way_anova kind (flatten (groups_left xs ns cs)) (map length (groups_left xs ns cs))
  fresh_report kind = rw ends.0 (report_of_lem (groups_left xs ns cs) ends.1 kind)

  -- The next call is refused where the groups' own rule says so, and only there: never by 13.
  pub fresh_verdict : (c : Call) → (call_of c (sheet_after (load_of xs ns).sheet cs)).refusal ≡ judge c (map length (groups_left xs ns cs))
  fresh_verdict c = rw ends.0 ((refused_unchanged c (sheet_of (groups_left xs ns cs))).0 ∙ judged (groups_left xs ns cs) ends.1 c)
