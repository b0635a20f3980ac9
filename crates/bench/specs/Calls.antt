-- What the two C calls return, and what they leave in the output.
use Rattle.std.specs.Prelude.{ℕ, ◌*◌, cond, List, [], ◌∷◌, ltb, eqb, Float, length}
use Rattle.std.specs.Float.{binary64}
use Rattle.std.specs.Float.Ieee.{to_bits}
use Rattle.base.specs.declared.Refusal.{Refusal}
use Rattle.base.specs.Lists.{over, run}
use Rattle.base.specs.Refusals.{refuse, when, ◌or_else◌}
use Rattle.oneway.specs.declared.AnovaKind.{AnovaKind}
use Rattle.results.specs.declared.OneWayAnovaResult.{OneWayAnovaResult}
use Rattle.set.specs.Bytes.{bytes}
use Rattle.set.specs.Sets.{set_anova}

-- a float as its eight bytes; a NaN's are those of 7FF8000000000000
abbrev pub float_bytes : Float → List ℕ
float_bytes x = bytes 8 (to_bits binary64 x)

-- the figures that are written, in their order
abbrev pub figures : OneWayAnovaResult → List Float
figures a = a.statistic ∷ a.df_between ∷ a.df_within ∷ a.ss_between ∷ a.ss_within ∷ a.ss_total ∷ []

-- they have eight bytes each
abbrev pub out_bytes : ℕ
out_bytes = 6 * 8

-- an output that is shorter, then the set's checks and one-way's
unfoldable pub bench_refusal : AnovaKind → List ℕ → List ℕ → Refusal
bench_refusal kind set out =
    when (ltb (length out) out_bytes) (refuse 12 out_bytes (length out))
    or_else (set_anova kind set).refusal

-- the output after the call, and the number returned: where nothing is refused the figures stand in the first 48 bytes, and the others stay; refused, all stay
unfoldable pub bench_of : AnovaKind → List ℕ → List ℕ → List ℕ × ℕ
bench_of kind set out =
    cond (eqb (bench_refusal kind set out).number 0)
    (over (run float_bytes (figures (set_anova kind set))) out, 0)
    (out, (bench_refusal kind set out).number)
