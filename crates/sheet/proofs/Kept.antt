-- What a call leaves alone, on any sheet, from load or not.
use mathlib.Core.Path.{◌≡◌, refl, sym, ap}
use mathlib.Core.Bool.{Bool, true, false, cond}
use mathlib.Core.List.{List, [], map}
use mathlib.Core.Logic.{◌≢◌}
use Prim.Native.Nat.{ℕ, ◌≤◌, ◌<◌}
use native.Mathlib.Omega.{arith}
use borrow.Author.Tests.{eqb-true}
use lib.Dec.{eqb}
use lib.Ieee.{Float}
use lib.ListN.{length, get_or, take, set}
use lib.Seq.{get_or-set_other, take-set-lt}
use Rattle.base.specs.declared.Refusal.{Refusal}
use Rattle.base.specs.Lists.{total, cut}
use Rattle.base.specs.Refusals.{guarded}
use Rattle.base.proofs.Cuts.{cut_flatten, lengths_cut}
use Rattle.base.proofs.Edits.{map_set}
use Rattle.base.proofs.Order.{passed_answer, refused_answer}
use Rattle.oneway_rows.specs.declared.Row.{Row}
use Rattle.oneway_rows.specs.Rows.{row_of}
use Rattle.oneway_rows.specs.Soundness.{sizes_in}
use Rattle.oneway_rows.proofs.Counted.{length_sizes}
use Rattle.sheet.specs.declared.Sheet.{Sheet}
use Rattle.sheet.specs.declared.Edit.{Edit}
use Rattle.sheet.specs.Sheets.{sizes_of, groups_of, edited}
use Rattle.sheet.specs.Calls.{Call, refusal_of, target, renewed, accepted, refused_with, call_of}
use Rattle.sheet.proofs.Judged.{asked, refusal_none, group_there}

module _ (c : Call) (s : Sheet) where
  -- the refusal that the rows meet
  abbrev met : Refusal
  met = refusal_of c s.groups s.rows

  -- the sheet after the call, where it is accepted
  abbrev then : Sheet
  then = edited s (target c) (renewed c (groups_of s))

  -- what holds of the sheet as it is, and of the edited sheet where the call is accepted, holds of the sheet after the call
  either_way : (P : Sheet → Type 0) → P s → (met.number ≡ 0 → P then) → P (call_of c s).sheet
  unfolding call_of guarded
  either_way P old new = go (eqb met.number 0) refl
    where
      go : (b : Bool) → eqb met.number 0 ≡ b → P (cond b (accepted then) (refused_with s met)).sheet
      go true e = new (eqb-true met.number 0 e)
      go false e = old

  -- A call is refused exactly where its checks say, with their number and details, and then the sheet comes back unchanged.
  pub refused_unchanged : ((call_of c s).refusal ≡ met) × ((met.number ≡ 0 → ⊥) → (call_of c s).sheet ≡ s)
  unfolding call_of guarded
  refused_unchanged = (
    go (eqb met.number 0) refl,
    λ n. ap (λ (e : Edit). e.sheet) (refused_answer met (refused_with s) (accepted then) n),
  )
    where
      go : (b : Bool) → eqb met.number 0 ≡ b → (cond b (accepted then) (refused_with s met)).refusal ≡ met
      go true e = sym (refusal_none c s.groups s.rows (eqb-true met.number 0 e))
      go false e = refl

  -- An edit leaves the rows of the other groups as they were, and empty rows too.
  pub other_rows_kept : (i : ℕ) (d : Row) → i ≢ target c → get_or (call_of c s).sheet.rows i d ≡ get_or s.rows i d
  unfolding edited
  other_rows_kept i d n = either_way (λ (t : Sheet). get_or t.rows i d ≡ get_or s.rows i d) refl (λ z. get_or-set_other s.rows (target c) i (row_of (renewed c (groups_of s))) d n)

-- the groups of an edited sheet: g has the new readings, and each other group its own
groups_edited : (s : Sheet) (g : ℕ) (ys : List Float) → total (sizes_of s) ≤ length s.places → g < s.groups → groups_of (edited s g ys) ≡ set (groups_of s) g ys
unfolding groups_of edited
groups_edited s g ys l h =
    let size : Row → ℕ = λ (r : Row). r.size in
    let z : sizes_in s.groups (set s.rows g (row_of ys)) ≡ map length (set (cut (sizes_of s) s.places) g ys)
    = rw (take-set-lt s.groups s.rows g (row_of ys) h, map_set size (take s.groups s.rows) g (row_of ys), map_set length (cut (sizes_of s) s.places) g ys, lengths_cut (sizes_of s) s.places l) in
    rw z (cut_flatten (set (cut (sizes_of s) s.places) g ys) _)

module _ (c : Call) (s : Sheet) (l : length s.places ≡ 512) (r : length s.rows ≡ 16) where
  edited_after : (met c s).number ≡ 0 → groups_of (then c s) ≡ set (groups_of s) (target c) (renewed c (groups_of s))
  edited_after z =
      let a = asked c s.groups s.rows z in
      let k = a.0 in
      let i : target c < s.groups = rw (length_sizes s.groups s.rows (omega (arith, k.high))) at (group_there c (sizes_of s) a.1) in
      groups_edited s (target c) (renewed c (groups_of s)) (omega (arith, k.fits)) i

  -- An accepted edit of any sheet gives its group the new readings, and leaves each other group its own.
  pub groups_after : (refusal_of c s.groups s.rows).number ≡ 0 → groups_of (call_of c s).sheet ≡ set (groups_of s) (target c) (renewed c (groups_of s))
  unfolding call_of
  groups_after z = rw (passed_answer (met c s) (refused_with s) (accepted (then c s)) z) (edited_after z)

  -- So an edit, accepted or refused, leaves the readings of the other groups as they were.
  pub other_groups_kept : (i : ℕ) → i ≢ target c → get_or (groups_of (call_of c s).sheet) i [] ≡ get_or (groups_of s) i []
  other_groups_kept i n =
      either_way c s (λ (t : Sheet). get_or (groups_of t) i [] ≡ get_or (groups_of s) i []) refl
      (λ z. rw (edited_after z) (get_or-set_other (groups_of s) (target c) i (renewed c (groups_of s)) [] n))
