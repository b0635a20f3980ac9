-- The sheet's calls: what each one refuses, and the sheet after it.
use Rattle.std.specs.Prelude.{ℕ, suc, ◌+◌, leb, Float, length, get_or, take, drop, set}
use mathlib.Core.List.{List, [], ◌∷◌, ◌++◌, map, flatten, foldl}
use Rattle.std.specs.Float.Ieee.{is_nan}
use Rattle.base.specs.declared.Refusal.{Refusal}
use Rattle.base.specs.Histories.{after_call}
use Rattle.base.specs.Limits.{most_readings, fewest_readings}
use Rattle.base.specs.Lists.{total, cut}
use Rattle.base.specs.Refusals.{refuse, none, when, ◌or_else◌, guarded}
use Rattle.oneway_rows.specs.declared.Row.{Row}
use Rattle.oneway_checks.specs.Checks.{one_way_refusal}
use Rattle.oneway_rows.specs.Soundness.{sizes_in, sound_refusal}
use Rattle.oneway.specs.declared.AnovaKind.{AnovaKind}
use Rattle.results.specs.declared.OneWayAnovaResult.{OneWayAnovaResult}
use Rattle.oneway.specs.Anova.{rows_report}
use Rattle.sheet.specs.declared.Sheet.{Sheet}
use Rattle.sheet.specs.declared.Edit.{Edit}
use Rattle.sheet.specs.Sheets.{sheet_of, groups_of, edited}

-- the edits: group, place and new reading; groups and places count from 0
pub data Call : Type 0 where
  Replace : ℕ → ℕ → Float → Call
  Append : ℕ → Float → Call
  Remove : ℕ → ℕ → Call

-- groups of the sizes ns have no group g with a place p; an append asks for place 0, which every sound group has
abbrev pub no_place : ℕ → ℕ → List ℕ → Refusal
no_place g p ns = when (leb (get_or ns g 0) p) (refuse 14 g p)

-- the new reading is a NaN
abbrev pub new_nan : ℕ → Float → Refusal
new_nan g x = when (is_nan x) (refuse 4 (g + 1) 0)

-- no place is free
abbrev pub full : List ℕ → Refusal
full ns = when (leb most_readings (total ns)) (refuse 11 2 (most_readings + 1))

-- the group has no more readings than it must keep
abbrev pub last_two : ℕ → List ℕ → Refusal
last_two g ns = when (leb (get_or ns g 0) fewest_readings) (refuse 2 fewest_readings 1)

-- what the paper says of a call on sound groups of the sizes ns
unfoldable pub judge : Call → List ℕ → Refusal
judge (Replace g p x) ns = no_place g p ns or_else new_nan g x
judge (Append g x) ns = no_place g 0 ns or_else new_nan g x or_else full ns
judge (Remove g p) ns = no_place g p ns or_else last_two g ns

-- and on any k rows: first, whether they are sound
unfoldable pub refusal_of : Call → ℕ → List Row → Refusal
refusal_of c k rows = sound_refusal k rows or_else judge c (sizes_in k rows)

-- the group that a call edits, and its readings after it
unfoldable pub target : Call → ℕ
target (Replace g p x) = g
target (Append g x) = g
target (Remove g p) = g

unfoldable pub fresh : Call → List Float → List Float
fresh (Replace g p x) xs = set xs p x
fresh (Append g x) xs = xs ++ (x ∷ [])
fresh (Remove g p) xs = take p xs ++ drop (suc p) xs

abbrev pub renewed : Call → List (List Float) → List Float
renewed c gs = fresh c (get_or gs (target c) [])

abbrev pub accepted : Sheet → Edit
accepted s = record { refusal = none; sheet = s }

-- a refused call hands back the sheet that it is given
abbrev pub refused_with : Sheet → Refusal → Edit
refused_with s r = record { refusal = r; sheet = s }

-- a call on any sheet
unfoldable pub call_of : Call → Sheet → Edit
call_of c s = guarded (refusal_of c s.groups s.rows) (refused_with s) (accepted (edited s (target c) (renewed c (groups_of s))))

-- load refuses as one-way does, and hands back the sheet of no groups, which is zero
unfoldable pub load_of : List Float → List ℕ → Edit
load_of xs ns = guarded (one_way_refusal xs ns) (refused_with (sheet_of [])) (accepted (sheet_of (cut ns xs)))

-- the formulas over the sheet's rows and readings
unfoldable pub report_of : AnovaKind → Sheet → OneWayAnovaResult
report_of kind s = rows_report kind s.groups s.rows (flatten (groups_of s))

-- what a call on groups is told, and the groups that it leaves where it is accepted: its group has the new readings
abbrev pub ruled : Call → List (List Float) → Refusal
ruled c gs = judge c (map length gs)

abbrev pub changed : Call → List (List Float) → List (List Float)
changed c gs = set gs (target c) (renewed c gs)

-- the groups after a call
unfoldable pub after : List (List Float) → Call → List (List Float)
after gs c = after_call ruled changed gs c

unfoldable pub called : Sheet → Call → Sheet
called s c = (call_of c s).sheet

-- a history of calls, refused ones among them: the groups that it leaves of those that were loaded, and the sheet that it leaves
abbrev pub groups_left : List Float → List ℕ → List Call → List (List Float)
groups_left xs ns cs = foldl after (cut ns xs) cs

abbrev pub sheet_after : Sheet → List Call → Sheet
sheet_after s cs = foldl called s cs
