-- What the benchmark's two-way call returns, and what it leaves in the scratch and in the places that it is lent.
use Rattle.std.specs.Prelude.{ℕ, cond, List, [], ◌∷◌, ltb, eqb, Float, length}
use Rattle.base.specs.Lists.{over}
use Rattle.twoway.specs.declared.TwoWayAnovaResult.{TwoWayAnovaResult}
use Rattle.twoway.specs.Anova.{two_way_anova}

-- the numbers of an answer, in their order: F of A, of B and of the interaction, and their sums of squares
abbrev pub numbers_of : TwoWayAnovaResult → List Float
numbers_of r =
    r.factor_a.f
    ∷ r.factor_b.f
    ∷ r.interaction.f
    ∷ r.factor_a.ss
    ∷ r.factor_b.ss
    ∷ r.interaction.ss
    ∷ []

-- the answer handed out: its numbers in the first places, and 0; or the places as they were, and the number of its refusal
unfoldable pub handed : TwoWayAnovaResult → List Float → List Float × ℕ
handed r out = cond (eqb r.refusal.number 0) (over (numbers_of r) out, 0) (out, r.refusal.number)

-- an analysis with the scratch that it leaves, handed out
abbrev pub handed_with : List Float × TwoWayAnovaResult → List Float → List Float × (List Float × ℕ)
handed_with answer out = (answer.0, handed answer.1 out)

-- the call: 12 where there are fewer than 6 places, and then the analysis, whose own words say what becomes of the scratch
unfoldable pub timed : List Float → List ℕ → List ℕ → List Float → List Float → List Float × (List Float × ℕ)
timed xs us vs scratch out = cond (ltb (length out) 6) (scratch, (out, 12)) (handed_with (two_way_anova xs us vs scratch) out)
