-- What `fisherline` prints of a set: its text, and the text in lent memory.
use Rattle.std.specs.Prelude.{ℕ, ◌+◌, cond, List, [], ◌∷◌, ◌++◌, ltb, eqb, length}
use Rattle.base.specs.declared.Refusal.{Refusal}
use Rattle.base.specs.Refusals.{refuse}
use Rattle.oneway.specs.declared.AnovaKind.TheVariants.{Fisher}
use Rattle.results.specs.declared.OneWayAnovaResult.{OneWayAnovaResult}
use Rattle.set.specs.Sets.{longest_set, set_anova}
use Rattle.text.specs.Ascii.{ascii}
use Rattle.fisherline.specs.Rows.{counts_line, floats_line, puts}

-- the lines' names
abbrev pub refused_name : List ℕ
refused_name = ascii "refused"

abbrev pub fisher_name : List ℕ
fisher_name = ascii "fisher"

abbrev pub ss_name : List ℕ
ss_name = ascii "ss"

abbrev pub df_name : List ℕ
df_name = ascii "df"

abbrev pub ms_name : List ℕ
ms_name = ascii "ms"

abbrev pub f_name : List ℕ
f_name = ascii "f"

-- a refusal: its number and its details
abbrev pub refused_text : Refusal → List ℕ
refused_text r = counts_line refused_name (r.number ∷ r.first ∷ r.second ∷ [])

-- groups and readings
abbrev pub groups_line : OneWayAnovaResult → List ℕ
groups_line a = counts_line fisher_name (a.n_groups ∷ a.n_total ∷ [])

-- sums of squares between, within and in all
abbrev pub ss_line : OneWayAnovaResult → List ℕ
ss_line a = floats_line ss_name (a.ss_between ∷ a.ss_within ∷ a.ss_total ∷ [])

-- degrees of freedom between and within
abbrev pub df_line : OneWayAnovaResult → List ℕ
df_line a = floats_line df_name (a.df_between ∷ a.df_within ∷ [])

-- mean squares between and within
abbrev pub ms_line : OneWayAnovaResult → List ℕ
ms_line a = floats_line ms_name (a.ms_between ∷ a.ms_within ∷ [])

abbrev pub f_line : OneWayAnovaResult → List ℕ
f_line a = floats_line f_name (a.statistic ∷ [])

abbrev pub fisher_text : OneWayAnovaResult → List ℕ
fisher_text a = (((groups_line a ++ ss_line a) ++ df_line a) ++ ms_line a) ++ f_line a

abbrev pub result_text : OneWayAnovaResult → List ℕ
result_text a = cond (eqb a.refusal.number 0) (fisher_text a) (refused_text a.refusal)

-- more bytes than the longest set has are refused unread
unfoldable pub text_of : List ℕ → List ℕ
text_of set = cond (ltb longest_set (length set)) (refused_text (refuse 10 longest_set (longest_set + 1))) (result_text (set_anova Fisher set))

-- how many places every answer fits into
abbrev pub text_room : ℕ
text_room = 256

-- the text at the front of out, and its length; nothing where out has fewer places
unfoldable pub answer_of : List ℕ → List ℕ → List ℕ × ℕ
answer_of set out = cond (ltb (length out) text_room) (out, 0) (puts out 0 (text_of set))
