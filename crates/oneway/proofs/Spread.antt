-- What Levene's analysis is: Fisher's, of the distances of each group's readings from the group's own mean.
use mathlib.Core.Path.{◌≡◌, refl, sym, ap, ◌∙◌}
use mathlib.Core.Bool.{false}
use mathlib.Core.List.{List, [], ◌∷◌, map, flatten}
use Prim.Native.Nat.{ℕ, ◌-◌}
use native.Mathlib.Omega.{arith}
use lib.Ieee.{Float, is_nan}
use lib.ListN.{length, length-map}
use lib.Seq.{take_all}
use Rattle.base.specs.declared.Refusal.{Refusal}
use Rattle.base.specs.Lists.{total, cut, over}
use Rattle.base.specs.Refusals.{none}
use Rattle.base.proofs.Cuts.{lengths_cut, flatten_cut, own_cut, total_flatten}
use Rattle.base.proofs.Order.{either, passed_answer, refused_answer}
use Rattle.float.specs.Words.{count}
use Rattle.stats.specs.Sums.{has_nan, mean_of}
use Rattle.stats.proofs.Finding.{none_apart}
use Rattle.oneway_checks.specs.Checks.{one_way_refusal}
use Rattle.oneway_rows.specs.Rows.{row_of}
use Rattle.oneway_rows.proofs.Clean.{Clean, Good, passed_good, good_passes}
use Rattle.oneway_rows.proofs.Parts.{parted}
use Rattle.results.specs.declared.OneWayAnovaResult.{OneWayAnovaResult}
use Rattle.results.specs.Results.{refused_result, no_sizes}
use Rattle.oneway.specs.declared.AnovaKind.{AnovaKind}
use Rattle.oneway.specs.declared.AnovaKind.TheVariants.{Fisher, Levene}
use Rattle.oneway.specs.Summary.{row_mean}
use Rattle.oneway.specs.Fisher.{fisher_anova}
use Rattle.oneway.specs.Levene.{distance, distances, own_distances, fisher_of}
use Rattle.oneway.specs.Anova.{anova, one_way_anova}
use Rattle.oneway.proofs.Distances.{levene_of}
use Rattle.oneway.proofs.Reports.{formulas_accept}
use Rattle.oneway.proofs.Summaries.{lengths_are, own_sizes}

-- groups that one-way accepts are analysed from their rows
pub analysed : (kind : AnovaKind) (gs : List (List Float)) → Good gs → one_way_anova kind (flatten gs) (map length gs) ≡ anova kind (map row_of gs) (flatten gs)
unfolding one_way_anova
analysed kind gs k =
    passed_answer (one_way_refusal (flatten gs) (map length gs)) refused_result _ (ap (λ (r : Refusal). r.number) (good_passes gs k))
    ∙ ap (λ (cs : List (List Float)). anova kind (map row_of cs) (flatten gs)) (own_cut gs)

-- the groups' own means are those of their rows
own_distances_lem : (gs : List (List Float)) → distances (map row_mean (map row_of gs)) gs ≡ own_distances gs
unfolding distances
own_distances_lem [] = refl
own_distances_lem (g ∷ gs) = ap (λ (ds : List (List Float)). map (distance (mean_of g)) g ∷ ds) (own_distances_lem gs)

-- as many distances as readings
as_long : (gs : List (List Float)) → map length (own_distances gs) ≡ map length gs
as_long [] = refl
as_long (g ∷ gs) = rw (length-map, as_long gs)

-- where none of them is a NaN, one-way accepts them as it did the readings
far_clean : (gs : List (List Float)) → Clean gs → has_nan (flatten (own_distances gs)) ≡ false → Clean (own_distances gs)
unfolding flatten
far_clean [] c n = tt
far_clean (g ∷ gs) c n =
    let p = none_apart is_nan (map (distance (mean_of g)) g) (flatten (own_distances gs)) n in
    (rw length-map c.0, p.0, far_clean gs c.2 p.1)

far_good : (gs : List (List Float)) → Good gs → has_nan (flatten (own_distances gs)) ≡ false → Good (own_distances gs)
far_good gs k n =
    let l : length (flatten (own_distances gs)) ≡ length (flatten gs) = sym (total_flatten (own_distances gs)) ∙ ap total (as_long gs) ∙ total_flatten gs in
    record { few = rw length-map k.few; many = rw length-map k.many; fits = rw l k.fits; clean = far_clean gs k.clean n }

-- what an answer tells of the groups, and not of their readings
abbrev pub Design : Type 0
Design = ℕ × ℕ × List ℕ × Float × Float

abbrev pub design_of : OneWayAnovaResult → Design
design_of r = (r.n_groups, r.n_total, r.group_sizes, r.df_between, r.df_within)

-- it comes from the groups' sizes alone
abbrev design : List ℕ → Design
design ns = (length ns, total ns, over ns no_sizes, count (length ns - 1), count (total ns - length ns))

design_of_lem : (gs : List (List Float)) (xs : List Float) → ◌≡◌ {A = Design} (design_of (fisher_anova (map row_of gs) xs)) (design (map length gs))
unfolding fisher_anova
design_of_lem gs xs = rw (lengths_are gs, length-map gs row_of, length-map gs length)

module _ (xs : List Float) (ns : List ℕ) where
  -- readings that pass the checks
  module _ (z : (one_way_refusal xs ns).number ≡ 0) where
    known : (total ns ≡ length xs) × (map length (cut ns xs) ≡ ns)
    known = let p = parted xs ns z in (p.sizes.adds, lengths_cut ns xs (omega (arith, p.sizes.adds)))

    -- The answer is Fisher's formulas over the groups of distances.
    pub levene_of_groups : one_way_anova Levene xs ns ≡ fisher_of (own_distances (cut ns xs))
    unfolding one_way_anova anova
    levene_of_groups =
        passed_answer (one_way_refusal xs ns) refused_result _ z
        ∙ (sym (levene_of (map row_of (cut ns xs)) xs refl (own_sizes xs ns (parted xs ns z)))
        ∙ ap fisher_of (own_distances_lem (cut ns xs)))

    -- Where no distance is a NaN, it is the answer that one-way gives for the distances, of Fisher's kind.
    pub levene_is_fisher : has_nan (flatten (own_distances (cut ns xs))) ≡ false → one_way_anova Levene xs ns ≡ one_way_anova Fisher (flatten (own_distances (cut ns xs))) ns
    unfolding anova
    levene_is_fisher n =
        let ds = own_distances (cut ns xs) in
        levene_of_groups
        ∙ (sym (analysed Fisher ds (far_good (cut ns xs) (passed_good xs ns z) n))
        ∙ ap (one_way_anova Fisher (flatten ds)) (as_long (cut ns xs) ∙ known.1))

    passes : one_way_refusal xs ns ≡ none
    passes =
        let all : flatten (cut ns xs) ≡ xs = flatten_cut ns xs ∙ take_all (total ns) xs (omega (arith, known.0)) in
        rw (all, known.1) at (good_passes (cut ns xs) (passed_good xs ns z))

  -- An answer of any kind is refused where the readings are, and only there: a distance never is.
  pub refused_alike : (kind : AnovaKind) → (one_way_anova kind xs ns).refusal ≡ one_way_refusal xs ns
  unfolding one_way_anova
  refused_alike kind =
      either (one_way_refusal xs ns)
      (λ z. ap (λ (r : OneWayAnovaResult). r.refusal) (passed_answer (one_way_refusal xs ns) refused_result _ z) ∙ formulas_accept kind _ _ ∙ sym (passes z))
      (λ n. ap (λ (r : OneWayAnovaResult). r.refusal) (refused_answer (one_way_refusal xs ns) refused_result _ n))

  -- Its groups, their sizes and its degrees of freedom are those of the readings.
  pub same_design : ◌≡◌ {A = Design} (design_of (one_way_anova Levene xs ns)) (design_of (one_way_anova Fisher xs ns))
  unfolding one_way_anova anova
  same_design =
      either (one_way_refusal xs ns)
      (λ z.
      ap design_of (levene_of_groups z)
      ∙ (design_of_lem (own_distances (cut ns xs)) (flatten (own_distances (cut ns xs)))
      ∙ (ap design (as_long (cut ns xs))
      ∙ (sym (design_of_lem (cut ns xs) xs)
      ∙ sym (ap design_of (passed_answer (one_way_refusal xs ns) refused_result _ z))))))
      (λ n. ap design_of (refused_answer (one_way_refusal xs ns) refused_result _ n ∙ sym (refused_answer (one_way_refusal xs ns) refused_result _ n)))
