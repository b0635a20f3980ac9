-- What the benchmark's repeated-measures call returns, and what it leaves in the places that it is lent.
use Rattle.std.specs.Prelude.{ℕ, cond, List, [], ◌∷◌, ltb, eqb, Float, length}
use Rattle.base.specs.Lists.{over}
use Rattle.repeated.specs.declared.RmAnovaResult.{RmAnovaResult}
use Rattle.repeated.specs.Anova.{repeated_measures_anova}

-- the numbers of an answer, in their order: F, the sums of squares of conditions, subjects and error, Mauchly's W, the two epsilons, and the numerator's corrected degrees of freedom of Huynh and Feldt
abbrev pub numbers_of : RmAnovaResult → List Float
numbers_of r =
    r.within_subjects.f
    ∷ r.within_subjects.ss
    ∷ r.subjects.ss
    ∷ r.error.ss
    ∷ r.sphericity.w
    ∷ r.greenhouse_geisser.epsilon
    ∷ r.huynh_feldt.epsilon
    ∷ r.huynh_feldt.df_num_corrected
    ∷ []

-- the answer handed out: its numbers in the first places, and 0; or the places as they were, and the number of its refusal
unfoldable pub handed : RmAnovaResult → List Float → List Float × ℕ
handed r out = cond (eqb r.refusal.number 0) (over (numbers_of r) out, 0) (out, r.refusal.number)

-- the call: 12 where there are fewer than 8 places, and then the analysis, with sphericity where the word for it is 1
unfoldable pub timed : List Float → List ℕ → ℕ → List Float → List Float × ℕ
timed xs ns word out = cond (ltb (length out) 8) (out, 12) (handed (repeated_measures_anova xs ns (eqb word 1)) out)
