-- The two-way analysis: the checks, and behind them the cells' table, the effects and the answer. Readings are xs, the codes of A and B us and vs.
use Rattle.std.specs.Prelude.{ℕ, ◌*◌, cond, List, eqb, Float, length, get_or, take}
use Rattle.base.specs.declared.Refusal.{Refusal}
use Rattle.base.specs.Refusals.{guarded}
use Rattle.results.specs.declared.Effects.{Effects}
use Rattle.twoway_checks.specs.Cells.{cells, cell_counts}
use Rattle.twoway_checks.specs.Checks.{levels, two_way_refusal}
use Rattle.twoway_means.specs.Table.{cell_means, table_of}
use Rattle.twoway_balanced.specs.Squares.{other_count, balanced_ss}
use Rattle.twoway_type3.specs.Answer.{all_effects}
use Rattle.lent.specs.Wiping.{wiped}
use Rattle.twoway.specs.declared.TwoWayAnovaResult.{TwoWayAnovaResult}
use Rattle.twoway.specs.Results.{answer_of, refused_result}

-- `compute_two_way_type3_ss`: the effects of a by b cells with the means ms and the counts ns: by the plain formulas where all counts are equal, else by Type III
unfoldable pub squares_of : List Float → List ℕ → List ℕ → ℕ → ℕ → List Float → List ℕ → Effects
squares_of xs us vs a b ms ns = cond (eqb (other_count ns) (get_or ns 0 0)) (balanced_ss ms (get_or ns 0 0) a b) (all_effects xs us vs a b)

-- the answer of a design that passed the checks
abbrev pub two_way_of : List Float → List ℕ → List ℕ → ℕ → ℕ → TwoWayAnovaResult
two_way_of xs us vs a b =
    answer_of xs a b (table_of (cells a b xs us vs) a b)
    (squares_of xs us vs a b (take (a * b) (cell_means (cells a b xs us vs) (a * b))) (cell_counts a b xs us vs))

-- refused, the scratch stays as it is
abbrev pub untouched : List Float → Refusal → List Float × TwoWayAnovaResult
untouched scratch r = (scratch, refused_result r)

-- the call: what it leaves in the scratch, and its answer
unfoldable pub two_way_anova : List Float → List ℕ → List ℕ → List Float → List Float × TwoWayAnovaResult
two_way_anova xs us vs scratch = guarded (two_way_refusal xs us vs (length scratch)) (untouched scratch) (wiped scratch, two_way_of xs us vs (levels us) (levels vs))
