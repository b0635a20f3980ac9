-- A history of edits, with a report after each: what the call returns, and what it leaves in the places that it is lent.
use Rattle.std.specs.Prelude.{ℕ, ◌+◌, ◌*◌, cond, List, eqb, Float, length, get_or, set}
use Rattle.base.specs.Loop.{loop}
use Rattle.float.specs.Words.{plus_zero}
use Rattle.oneway.specs.declared.AnovaKind.{AnovaKind}
use Rattle.sheet.specs.declared.Sheet.{Sheet}
use Rattle.sheet.specs.declared.Edit.{Edit}
use Rattle.sheet.specs.Calls.{Call, called, load_of, report_of}
use Rattle.sheet.specs.Calls.Call.{Replace, Append, Remove}

-- an edit by its number: 1 replaces, 2 appends, any other removes
abbrev pub call_with : ℕ → ℕ → ℕ → Float → Call
call_with op g p x = cond (eqb op 1) (Replace g p x) (cond (eqb op 2) (Append g x) (Remove g p))

-- the edit i: three of the numbers ns, and one of the new readings xs; zeros where they are missing
abbrev pub edit_at : List ℕ → List Float → ℕ → Call
edit_at ns xs i = call_with (get_or ns (3 * i) 0) (get_or ns (3 * i + 1) 0) (get_or ns (3 * i + 2) 0) (get_or xs i plus_zero)

-- the sheet, and the places lent
pub record State : Type 0 where
  pub sheet : Sheet
  pub out : List Float

-- the sheet s after an edit, and the F of its report in place i
abbrev pub placed : AnovaKind → ℕ → List Float → Sheet → State
placed kind i out s = record { sheet = s; out = set out i (report_of kind s).statistic }

-- the turn i of the history
unfoldable pub reported : AnovaKind → List ℕ → List Float → ℕ → State → State
reported kind ns xs i st = placed kind i st.out (called st.sheet (edit_at ns xs i))

-- a turn for each place lent, from the sheet s
unfoldable pub reports_of : AnovaKind → List ℕ → List Float → Sheet → List Float → List Float
reports_of kind ns xs s out = (loop 0 (length out) (reported kind ns xs) (record { sheet = s; out = out })).out

-- that from a load that is accepted; or the places as they were, and the number of the load's refusal
abbrev pub edits : AnovaKind → List ℕ → List Float → List Float → Edit → List Float × ℕ
edits kind ns xs out e = cond (eqb e.refusal.number 0) (reports_of kind ns xs e.sheet out, 0) (out, e.refusal.number)

unfoldable pub history_of : AnovaKind → List Float → List ℕ → List ℕ → List Float → List Float → List Float × ℕ
history_of kind readings sizes ns xs out = edits kind ns xs out (load_of readings sizes)
