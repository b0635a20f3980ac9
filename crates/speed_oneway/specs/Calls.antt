-- What a call of the benchmark returns, and what it leaves in the places that it is lent.
use Rattle.std.specs.Prelude.{ℕ, ◌+◌, cond, List, ◌∷◌, ltb, eqb, Float, length}
use Rattle.base.specs.Limits.{most_groups}
use Rattle.base.specs.Lists.{over}
use Rattle.oneway.specs.declared.AnovaKind.{AnovaKind}
use Rattle.results.specs.declared.OneWayAnovaResult.{OneWayAnovaResult}
use Rattle.oneway.specs.Anova.{one_way_anova}

-- the numbers of an answer, in their order
abbrev pub numbers_of : OneWayAnovaResult → List Float
numbers_of r =
    r.statistic
    ∷ r.df_between
    ∷ r.df_within
    ∷ r.ss_between
    ∷ r.ss_within
    ∷ r.ss_total
    ∷ r.ms_between
    ∷ r.ms_within
    ∷ r.grand_mean
    ∷ r.group_means

-- the answer handed out: its numbers in the first places, and 0; or the places as they were, and the number of its refusal
unfoldable pub handed : OneWayAnovaResult → List Float → List Float × ℕ
handed r out = cond (eqb r.refusal.number 0) (over (numbers_of r) out, 0) (out, r.refusal.number)

-- how many those are: nine, and the means of the groups
abbrev pub handed_out : ℕ
handed_out = 9 + most_groups

-- the call: 12 where there are fewer places, and then the analysis
unfoldable pub timed : AnovaKind → List Float → List ℕ → List Float → List Float × ℕ
timed kind xs ns out = cond (ltb (length out) handed_out) (out, 12) (handed (one_way_anova kind xs ns) out)
