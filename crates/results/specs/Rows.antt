-- The rows of an analysis' table: a sum of squares with its degrees of freedom.
use Rattle.std.specs.Prelude.{true, false, Float}
use Rattle.float.specs.Words.{◌⊘◌, plus_zero}
use Rattle.results.specs.declared.AnovaTableRow.{AnovaTableRow}

-- an effect: the mean square is the sum over its degrees of freedom, and F the mean square over the error's
abbrev pub effect_row : Float → Float → Float → AnovaTableRow
effect_row ss df ms_error = record { ss = ss; df = df; ms = ss ⊘ df; has_f = true; f = ss ⊘ df ⊘ ms_error }

-- errors and totals have no F
abbrev pub plain_row : Float → Float → AnovaTableRow
plain_row ss df = record { ss = ss; df = df; ms = ss ⊘ df; has_f = false; f = plus_zero }

-- the row of a refused analysis
abbrev pub no_row : AnovaTableRow
no_row = record { ss = plus_zero; df = plus_zero; ms = plus_zero; has_f = false; f = plus_zero }
