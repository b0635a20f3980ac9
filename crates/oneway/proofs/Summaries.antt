-- Laws of what is told of the groups: their rows, sizes and means, where the checks are passed.
use mathlib.Core.Path.{◌≡◌, refl, sym, ap, ◌∙◌}
use mathlib.Core.List.{List, [], ◌∷◌, ◌++◌, map, map-map, flatten}
use Prim.Native.Nat.{ℕ, ◌≤◌}
use native.Mathlib.Omega.{arith}
use lib.Ieee.{Float}
use lib.ListN.{length, take, length-map, length-take}
use lib.Seq.{take_at, length-take-le}
use Rattle.base.specs.Lists.{total, cut, over}
use Rattle.base.proofs.Cuts.{length_cut, lengths_cut}
use Rattle.float.specs.Words.{plus_zero}
use Rattle.stats.specs.declared.Figure.{Figure}
use Rattle.stats.specs.Figures.{mean_answer}
use Rattle.oneway_rows.specs.declared.Row.{Row}
use Rattle.oneway_rows.specs.Inner.{Parted}
use Rattle.oneway_rows.specs.Rows.{row_of, row_answer, rows_of, rows_put, empty_rows}
use Rattle.oneway_rows.specs.Soundness.{sizes_in, sound_refusal}
use Rattle.oneway_rows.proofs.Counted.{sound, sizes_added}
use Rattle.oneway_rows.proofs.Laid.{rows_there, each_group, mean_there}
use Rattle.oneway.specs.declared.AnovaKind.{AnovaKind}
use Rattle.oneway.specs.declared.AnovaKind.TheVariants.{Levene}
use Rattle.oneway.specs.Anova.{anova}
use Rattle.oneway.specs.Summary.{size_of, row_mean}
use Rattle.oneway.specs.Inner.{Small, mean_row}
use Rattle.oneway.specs.Fisher.{fisher_anova}
use Rattle.oneway.specs.Levene.{distances_of, levene_anova}
use Rattle.oneway.proofs.Distances.{put_front, far_count, far_rows, sizes_kept, levene_of}

pub lengths_are : (gs : List (List Float)) → map size_of (map row_of gs) ≡ map length gs
lengths_are [] = refl
lengths_are (g ∷ gs) = ap (λ (ns : List ℕ). length g ∷ ns) (lengths_are gs)

-- what the analyses ask of rows, of groups that passed the checks
pub small_parted : (rs : List Row) (n : ℕ) → Parted n (map size_of rs) → Small rs
small_parted rs n p =
    let l = length-map rs size_of in
    record { groups = omega (arith, l, p.sizes.rows); readings = rw (sizes_added rs, p.sizes.adds) p.sizes.readings }

-- a group's row without its squares, with what `mean` answers of it
abbrev pub told_row : List Float → Row
told_row group = record { size = length group; mean = (mean_answer group).value; sq_dev = plus_zero }

told_same : (group : List Float) → 1 ≤ length group → length group ≤ 512 → told_row group ≡ mean_row group
told_same group l u = rw (mean_there group l u)

-- as the walk has it of the n readings in front of what is left
pub told_front : (rest : List Float) (n : ℕ) → n ≤ length rest → {front : List Float} → front ≡ take n rest → {m : Figure} → m ≡ mean_answer front
    → record { size = n; mean = m.value; sq_dev = plus_zero } ≡ told_row (take n rest)
told_front rest n h f e = let k = length-take-le n rest h in rw (e, f, k)

-- rows that are parted as the groups are, and of which the formulas say what they say of the groups' own rows
pub record Stands (kind : AnovaKind) (xs : List Float) (ns : List ℕ) (rows : List Row) : Type 0 where
  pub parted_here : Parted (length xs) (map size_of (take (length ns) rows))
  pub same : anova kind (take (length ns) rows) xs ≡ anova kind (map row_of (cut ns xs)) xs

-- groups that passed the checks
module _ (xs : List Float) (ns : List ℕ) (p : Parted (length xs) ns) where
  pub own_sizes : ns ≡ map size_of (map row_of (cut ns xs))
  own_sizes = sym (lengths_are (cut ns xs) ∙ lengths_cut ns xs (omega (arith, p.sizes.adds)))

  as_many : length (map row_of (cut ns xs)) ≡ length ns
  as_many = length-map (cut ns xs) row_of ∙ length_cut ns xs

  pub told_rows : map told_row (cut ns xs) ≡ map mean_row (cut ns xs)
  told_rows = each_group told_row mean_row told_same ns xs (omega (arith, p.sizes.adds)) p.sizes.readings p.each

  -- their rows, as the code has them
  module _ {rows : List Row} (e : rows ≡ rows_put xs ns empty_rows) where
    pub own_rows : take (length ns) rows ≡ map row_of (cut ns xs)
    unfolding rows_of
    own_rows = rw (e, rows_there xs ns p) (take_at (map row_of (cut ns xs)) _ (length ns) as_many)

    pub own_stand : (kind : AnovaKind) → Stands kind xs ns rows
    own_stand kind = record { parted_here = rw (own_rows, ← own_sizes) p; same = rw own_rows refl }

  -- their rows without the squares
  module _ {rows : List Row} (e : rows ≡ over (map mean_row (cut ns xs)) empty_rows) where
    mean_rows : take (length ns) rows ≡ map mean_row (cut ns xs)
    mean_rows = rw e (take_at (map mean_row (cut ns xs)) _ (length ns) (length-map (cut ns xs) mean_row ∙ length_cut ns xs))

    mean_sizes : map size_of (map mean_row (cut ns xs)) ≡ ns
    mean_sizes = map-map size_of mean_row (cut ns xs) ∙ lengths_cut ns xs (omega (arith, p.sizes.adds))

    pub means_stand : Stands Levene xs ns rows
    unfolding anova levene_anova
    means_stand = record {
      parted_here = rw (mean_rows, mean_sizes) p;
      same = rw mean_rows (levene_of (map row_of (cut ns xs)) xs (map-map row_mean mean_row (cut ns xs) ∙ sym (map-map row_mean row_of (cut ns xs))) (mean_sizes ∙ own_sizes));
    }

-- rows that the caller holds
module _ (k : ℕ) (rows : List Row) (z : (sound_refusal k rows).number ≡ 0) where
  pub small_sound : Small (take k rows)
  small_sound = let s = sound k rows z in record { groups = simp length-take (omega (arith, s.high)); readings = rw (sizes_added (take k rows)) s.fits }

  pub rows_taken : length rows ≡ 16 → length (take k rows) ≡ k
  rows_taken e = let s = sound k rows z in length-take-le k rows (omega (arith, e, s.high))

  pub parted_rows : {n : ℕ} → total (sizes_in k rows) ≡ n → Parted n (sizes_in k rows)
  parted_rows e =
      let s = sound k rows z in
      record { sizes = record { rows = simp (length-map, length-take) (omega (arith, s.high)); readings = omega (arith, s.fits); adds = e }; each = s.each }

-- the distances from the means that the rows rs hold, and the rows of them as they were put
module _ (rs : List Row) (xs : List Float) (p : Parted (length xs) (map size_of rs)) {far : List Row} (put : far ≡ over (map row_answer (distances_of rs xs)) empty_rows) where
  far_front : take (length rs) far ≡ map row_of (distances_of rs xs)
  far_front =
      rw put (take_at (map row_answer (distances_of rs xs)) _ (length rs) (length-map (distances_of rs xs) row_answer ∙ far_count rs xs p.sizes.adds))
      ∙ far_rows rs xs p.sizes.adds p.sizes.readings p.each

  pub far_small : Small (take (length rs) far)
  far_small =
      let kept : map size_of (map row_of (distances_of rs xs)) ≡ map size_of rs = lengths_are (distances_of rs xs) ∙ sizes_kept rs xs p.sizes.adds in
      rw far_front (small_parted (map row_of (distances_of rs xs)) (length xs) (rw kept p))

  pub fisher_of_far : {out : List Float} → out ≡ flatten (distances_of rs xs) → (back : List Float) → fisher_anova (take (length rs) far) (take (length xs) (out ++ back)) ≡ levene_anova rs xs
  unfolding levene_anova
  fisher_of_far q back = rw (far_front, put_front rs xs p.sizes.adds q back)
