-- Laws of a history of edits: an edit by its number, a turn, and the two ends of the call.
use mathlib.Core.Path.{◌≡◌}
use mathlib.Core.List.{List}
use Prim.Native.Nat.{ℕ, ◌+◌, ◌*◌}
use borrow.Author.Tests.{eq-eqb, ne_eqb}
use lib.Ieee.{Float}
use lib.ListN.{get_or, set}
use Rattle.float.specs.Words.{plus_zero}
use Rattle.oneway.specs.declared.AnovaKind.{AnovaKind}
use Rattle.results.specs.declared.OneWayAnovaResult.{OneWayAnovaResult}
use Rattle.sheet.specs.declared.Sheet.{Sheet}
use Rattle.sheet.specs.declared.Edit.{Edit}
use Rattle.sheet.specs.Calls.{call_of, called, report_of}
use Rattle.sheet.specs.Calls.Call.{Replace, Append, Remove}
use Rattle.speed_sheet.specs.Histories.{call_with, reported, reports_of, edits}

module _ (op g p : ℕ) (x : Float) (s : Sheet) (e : Edit) where
  pub replaces : op ≡ 1 → e ≡ call_of (Replace g p x) s → e.sheet ≡ called s (call_with op g p x)
  unfolding called
  replaces h q = rw (eq-eqb op 1 h, q)

  pub appends : (op ≡ 1 → ⊥) → op ≡ 2 → e ≡ call_of (Append g x) s → e.sheet ≡ called s (call_with op g p x)
  unfolding called
  appends n h q = rw (ne_eqb op 1 n, eq-eqb op 2 h, q)

  pub removes : (op ≡ 1 → ⊥) → (op ≡ 2 → ⊥) → e ≡ call_of (Remove g p) s → e.sheet ≡ called s (call_with op g p x)
  unfolding called
  removes n m q = rw (ne_eqb op 1 n, ne_eqb op 2 m, q)

-- the turn i, from the numbers that were read, the sheet after the edit, and its report
pub turned : (kind : AnovaKind) (ns : List ℕ) (xs : List Float) (i : ℕ) (before : Sheet) (out : List Float) {op g p : ℕ} {x : Float} {s : Sheet} {r : OneWayAnovaResult}
    → op ≡ get_or ns (3 * i) 0 → g ≡ get_or ns (3 * i + 1) 0 → p ≡ get_or ns (3 * i + 2) 0 → x ≡ get_or xs i plus_zero
    → s ≡ called before (call_with op g p x) → r ≡ report_of kind s
    → record { sheet = s; out = set out i r.statistic } ≡ reported kind ns xs i (record { sheet = before; out = out })
unfolding reported
turned kind ns xs i before out a b c d e f = rw (f, e, a, b, c, d)

-- a load that is accepted, and one that is refused
pub edited_on : (kind : AnovaKind) (ns : List ℕ) (xs out t : List Float) (e : Edit) → e.refusal.number ≡ 0 → t ≡ reports_of kind ns xs e.sheet out → (t, 0) ≡ edits kind ns xs out e
edited_on kind ns xs out t e z p = rw (eq-eqb e.refusal.number 0 z, p)

pub not_loaded : (kind : AnovaKind) (ns : List ℕ) (xs out : List Float) (e : Edit) → (e.refusal.number ≡ 0 → ⊥) → (out, e.refusal.number) ≡ edits kind ns xs out e
not_loaded kind ns xs out e n = rw (ne_eqb e.refusal.number 0 n)
