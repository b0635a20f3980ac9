-- The three edits that are not refused: what the code has made is the edited sheet. at, end, used and row are what the code worked out.
use mathlib.Core.Path.{◌≡◌, refl, sym, ap, ◌∙◌}
use mathlib.Core.List.{List, [], ◌∷◌, ◌++◌}
use Prim.Native.Nat.{ℕ, suc, ◌+◌, ◌-◌, ◌<◌, ◌≤◌}
use native.Mathlib.Omega.{arith}
use lib.Ieee.{Float}
use lib.ListN.{length, get_or, take, drop, set, length-append, length-set, length-drop}
use lib.Seq.{length-take-le}
use Rattle.base.specs.declared.Refusal.{Refusal}
use Rattle.base.specs.Refusals.{none, verdict}
use Rattle.std.specs.Prelude.{Result, Ok, Err, ⊤}
use Rattle.std.specs.List.{sum_by}
use Rattle.oneway_rows.specs.Inner.{size_of}
use Rattle.oneway_rows.proofs.Counted.{sizes_added}
use Rattle.base.proofs.Order.{answers_numbers, refused_answer, was_passed, was_refused}
use Rattle.float.specs.Words.{plus_zero}
use Rattle.oneway_rows.specs.declared.Row.{Row}
use Rattle.oneway_rows.specs.Rows.{row_answer}
use Rattle.sheet.specs.declared.Sheet.{Sheet}
use Rattle.sheet.specs.declared.Edit.{Edit}
use Rattle.base.specs.Inner.{inserted, deleted}
use Rattle.sheet.specs.Sheets.{sizes_of, groups_of, edited}
use Rattle.sheet.specs.Calls.{Call, Replace, Append, Remove, refusal_of, target, fresh, refused_with, call_of}
use Rattle.sheet.proofs.Judged.{opened, asked, replace_passed, append_passed, remove_passed}
use Rattle.sheet.proofs.Relaid.{relaid, replaced, appended, removed}
use Rattle.sheet.proofs.Found.{start, Found, found, own_size, group_is, group_length, made}

-- what an edit of the place p of group g knows: the group lies from at to end, and all readings end at `used`
pub record Spot (k g p at end used : ℕ) : Type 0 where
  pub rows : g < 16
  pub groups : k ≤ 16
  pub place : at + p < end
  pub within : end ≤ used
  pub fits : used ≤ 512

-- an edit with this refusal and this sheet
abbrev says : Refusal → List Float → List Row → ℕ → Edit
says n ps rows k = record { refusal = n; sheet = record { places = ps; rows = rows; groups = k } }

-- a call that was refused
pub edit_refused : (c : Call) (s : Sheet) {v : Result ⊤ Refusal} → v ≡ verdict (refusal_of c s.groups s.rows) → {q : Refusal} → v ≡ Err q → record { refusal = q; sheet = s } ≡ call_of c s
unfolding call_of
edit_refused c s t e =
    let w = was_refused (refusal_of c s.groups s.rows) tt t e in
    rw (← w.0) (sym (refused_answer (refusal_of c s.groups s.rows) (refused_with s) _ w.1))

module _ (s : Sheet) (r : length s.rows ≡ 16) (g : ℕ) where
  -- a call that was not refused is the sheet with its group's new readings
  done : (c : Call) → (refusal_of c s.groups s.rows).number ≡ 0 → target c ≡ g → {n : Refusal} {t : Sheet} → n ≡ none → t ≡ edited s g (fresh c (get_or (groups_of s) g []))
      → record { refusal = n; sheet = t } ≡ call_of c s
  unfolding call_of
  done c z e m q = answers_numbers (refusal_of c s.groups s.rows) (refused_with s) _ refl z (rw (m, q, e))

  pub replace_found : (p : ℕ) (x : Float) → (refusal_of (Replace g p x) s.groups s.rows).number ≡ 0 → Found s g p
  replace_found p x z =
      let a = asked (Replace g p x) s.groups s.rows z in
      found s r g p (opened s.groups s.rows r g p a.0 (replace_passed g p (sizes_of s) x a.1).0)

  pub append_found : (x : Float) → (refusal_of (Append g x) s.groups s.rows).number ≡ 0 → Found s g 0 × (start s s.groups < 512)
  append_found x z =
      let a = asked (Append g x) s.groups s.rows z in
      let q = append_passed g (sizes_of s) x a.1 in
      (found s r g 0 (opened s.groups s.rows r g 0 a.0 q.0), q.2)

  pub remove_found : (p : ℕ) → (refusal_of (Remove g p) s.groups s.rows).number ≡ 0 → Found s g p × (start s g + 2 < start s (g + 1))
  remove_found p z =
      let a = asked (Remove g p) s.groups s.rows z in
      let q = remove_passed g p (sizes_of s) a.1 in
      let f = found s r g p (opened s.groups s.rows r g p a.0 q.0) in
      let h : 2 < start s (g + 1) - start s g = rw (own_size s r g p f) at q.1 in
      (f, omega arith)

  -- the same, as the code is told: the group is there, and so `span` may be asked
  module _ (p : ℕ) (x : Float) {v : Result ⊤ Refusal} (e : v ≡ Ok tt) where
    pub replace_told : v ≡ verdict (refusal_of (Replace g p x) s.groups s.rows) → Found s g p
    replace_told t = replace_found p x (was_passed _ tt t e)

    pub append_told : v ≡ verdict (refusal_of (Append g x) s.groups s.rows) → Found s g 0 × (start s s.groups < 512)
    append_told t = append_found x (was_passed _ tt t e)

    pub remove_told : v ≡ verdict (refusal_of (Remove g p) s.groups s.rows) → Found s g p × (start s g + 2 < start s (g + 1))
    remove_told t = remove_found p (was_passed _ tt t e)

  -- where the group lies, as `span` tells it
  module _ {ends : ℕ × ℕ} (e : ◌≡◌ {A = ℕ × ℕ} ends (sum_by size_of (take g s.rows), sum_by size_of (take (g + 1) s.rows))) where
    pub begins : ends.0 ≡ start s g
    begins = ap (λ (q : ℕ × ℕ). q.0) e ∙ sizes_added (take g s.rows)

    pub finishes : ends.1 ≡ start s (g + 1)
    finishes = ap (λ (q : ℕ × ℕ). q.1) e ∙ sizes_added (take (g + 1) s.rows)

    -- the numbers that the code works with
    pub spot : {p : ℕ} → Found s g p → Spot s.groups g p ends.0 ends.1 (start s s.groups)
    spot f =
        let o = f.open_here in
        let b = begins in
        let n = finishes in
        record { rows = omega (arith, o.group, o.counts.high); groups = o.counts.high; place = omega (arith, b, n, f.next, o.place); within = omega (arith, n, f.within); fits = o.counts.fits }

  pub uses : {n : ℕ} → n ≡ sum_by size_of (take s.groups s.rows) → n ≡ start s s.groups
  uses e = e ∙ sizes_added (take s.groups s.rows)

  module _ (l : length s.places ≡ 512) {at end : ℕ} (a : at ≡ start s g) (b : end ≡ start s (g + 1)) where
    pub replace_made : (p : ℕ) (x : Float) → (refusal_of (Replace g p x) s.groups s.rows).number ≡ 0
        → {row : Row} → row ≡ row_answer (take (end - at) (drop at (set s.places (at + p) x))) → {n : Refusal} → n ≡ none
        → says n (set s.places (at + p) x) (set s.rows g row) s.groups ≡ call_of (Replace g p x) s
    unfolding target fresh
    replace_made p x z q m =
        let f = replace_found p x z in
        let o = f.open_here in
        let c = o.counts.fits in
        let old : List Float = get_or (groups_of s) g [] in
        let k : length (set old p x) ≡ start s (g + 1) - start s g = length-set old p x ∙ group_length s r g p f l in
        let e : set s.places (at + p) x ≡ relaid s.places (start s g) (start s (g + 1)) (start s s.groups) (set old p x)
        = rw (a, group_is s r g p f) (replaced s.places (start s g) (start s (g + 1)) (start s s.groups) (omega (arith, f.next)) f.within (omega arith) p x (omega (arith, f.next))) in
        done (Replace g p x) z refl m (made s r g p f l (set old p x) (omega (arith, f.next)) (omega (arith, f.within)) e a (omega (arith, f.next)) q)

    pub append_made : (x : Float) → (refusal_of (Append g x) s.groups s.rows).number ≡ 0 → {used : ℕ} → used ≡ start s s.groups → {ps : List Float} → ps ≡ inserted end used x s.places
        → {row : Row} → row ≡ row_answer (take (end + 1 - at) (drop at ps)) → {n : Refusal} → n ≡ none
        → says n ps (set s.rows g row) s.groups ≡ call_of (Append g x) s
    unfolding target fresh
    append_made x z u i q m =
        let t = append_found x z in
        let f = t.0 in
        let c = t.1 in
        let old : List Float = get_or (groups_of s) g [] in
        let k : length (old ++ (x ∷ [])) ≡ start s (g + 1) - start s g + 1 = length-append old (x ∷ []) ∙ rw (group_length s r g 0 f l) in
        let e : inserted (start s (g + 1)) (start s s.groups) x s.places ≡ relaid s.places (start s g) (start s (g + 1)) (start s s.groups) (old ++ (x ∷ []))
        = rw (group_is s r g 0 f) (appended s.places (start s g) (start s (g + 1)) (start s s.groups) (omega (arith, f.next)) f.within (omega arith) x) in
        done (Append g x) z refl m (made s r g 0 f l (old ++ (x ∷ [])) (omega arith) (omega (arith, f.within)) (i ∙ rw (b, u) e) a (omega (arith, f.next)) q)

    pub remove_made : (p : ℕ) → (refusal_of (Remove g p) s.groups s.rows).number ≡ 0 → {used : ℕ} → used ≡ start s s.groups → {ps : List Float} → ps ≡ deleted (at + p) used plus_zero s.places
        → {row : Row} → row ≡ row_answer (take (end - 1 - at) (drop at ps)) → {n : Refusal} → n ≡ none
        → says n ps (set s.rows g row) s.groups ≡ call_of (Remove g p) s
    unfolding target fresh
    remove_made p z u i q m =
        let t = remove_found p z in
        let f = t.0 in
        let o = f.open_here in
        let c = o.counts.fits in
        let old : List Float = get_or (groups_of s) g [] in
        let h : p < start s (g + 1) - start s g = omega (arith, f.next) in
        let y = group_length s r g p f l in
        let k : length (take p old ++ drop (suc p) old) ≡ start s (g + 1) - start s g - 1
        = length-append (take p old) (drop (suc p) old) ∙ rw (length-take-le p old (omega arith), length-drop, y) (omega arith) in
        let e : deleted (start s g + p) (start s s.groups) plus_zero s.places ≡ relaid s.places (start s g) (start s (g + 1)) (start s s.groups) (take p old ++ drop (suc p) old)
        = rw (group_is s r g p f) (removed s.places (start s g) (start s (g + 1)) (start s s.groups) (omega (arith, f.next)) f.within (omega arith) p h) in
        done (Remove g p) z refl m (made s r g p f l (take p old ++ drop (suc p) old) (omega (arith, t.1)) (omega (arith, f.within)) (i ∙ rw (a, u) e) a (omega (arith, t.1)) q)
