-- What a design that passed the checks gives to each step of the analysis.
use mathlib.Core.Path.{◌≡◌, sym, ap, ◌∙◌}
use mathlib.Core.List.{List, [], append-nil}
use Prim.Native.Nat.{ℕ, ◌+◌, ◌-◌, ◌*◌, ◌≤◌}
use native.Mathlib.Omega.{arith}
use borrow.Author.Tests.{le-ltb, le-leb, eq-eqb, ne_eqb}
use lib.Ieee.{Float}
use lib.ListN.{length, get_or, take, drop}
use lib.Seq.{take-take, drop-drop, length-take-le}
use Rattle.std.specs.Prelude.{Result, Err}
use Rattle.base.specs.declared.Refusal.{Refusal}
use Rattle.base.specs.Lists.{total, cut}
use Rattle.base.proofs.Order.{passed_answer, refused_answer}
use Rattle.twoway_checks.specs.declared.TwoWayData.{TwoWayData}
use Rattle.twoway_checks.specs.Cells.{cells}
use Rattle.twoway_checks.specs.Checks.{two_way_refusal}
use Rattle.twoway_cells.specs.Organized.{cell_order, organize_two_way_data}
use Rattle.twoway_cells.proofs.Designs.{Held, cut_cells, which, left_alone_lem}
use Rattle.twoway_means.specs.declared.CellTable.{CellTable}
use Rattle.results.specs.declared.Effects.{Effects}
use Rattle.twoway_balanced.specs.Squares.{other_count, balanced_ss}
use Rattle.twoway_means.specs.Table.{cell_table, table_fits, table_of}
use Rattle.twoway_normal.specs.Shape.{fits, factor_fits}
use Rattle.lent.specs.Wiping.{wiped}
use Rattle.twoway_type3.specs.Answer.{type3_ss, all_effects}
use Rattle.twoway.specs.declared.TwoWayAnovaResult.{TwoWayAnovaResult}
use Rattle.twoway.specs.Results.{answer_of, refused_result}
use Rattle.twoway.specs.Inner.{Small, Ready, squares_left}
use Rattle.twoway.specs.Anova.{squares_of, untouched, two_way_anova}
use Rattle.twoway.proofs.Counts.{some}

-- Type III takes a design that is ready
pub type3_fits : (xs : List Float) (us vs ns : List ℕ) (a b : ℕ) (scratch : List Float) → Ready xs us vs ns a b scratch
    → type3_ss xs us vs a b scratch ≡ (wiped scratch, all_effects xs us vs a b)
unfolding type3_ss fits factor_fits
type3_fits xs us vs ns a b scratch r =
    rw (le-leb 2 a r.least_a, le-leb a 6 r.most_a, eq-eqb (length us) (length xs) r.codes_a, le-leb 2 b r.least_b, le-leb b 6 r.most_b, eq-eqb (length vs) (length xs) r.codes_b, le-leb (length xs) 512 r.few, le-leb 6400 (length scratch) r.room)

-- the two ways to the effects
module _ (xs : List Float) (us vs : List ℕ) (a b : ℕ) (ms : List Float) (ns : List ℕ) (scratch left : List Float) (o : ℕ) (told : o ≡ other_count ns) where
  pub balanced_way : (e : Effects) → o ≡ get_or ns 0 0 → left ≡ wiped scratch → e ≡ balanced_ss ms (get_or ns 0 0) a b → ◌≡◌ {A = List Float × Effects} (left, e) (squares_left xs us vs a b ms ns scratch)
  unfolding squares_of
  balanced_way e q w p = rw (w, p, eq-eqb (other_count ns) (get_or ns 0 0) (sym told ∙ q))

  pub type3_way : (e : Effects) → (o ≡ get_or ns 0 0 → ⊥) → Ready xs us vs ns a b scratch → ◌≡◌ {A = List Float × Effects} (left, e) (type3_ss xs us vs a b scratch)
      → ◌≡◌ {A = List Float × Effects} (left, e) (squares_left xs us vs a b ms ns scratch)
  unfolding squares_of
  type3_way e q r p =
      let t = p ∙ type3_fits xs us vs ns a b scratch r in
      let w : left ≡ wiped scratch = ap (λ (x : List Float × Effects). x.0) t in
      let f : e ≡ all_effects xs us vs a b = ap (λ (x : List Float × Effects). x.1) t in
      rw (w, f, ne_eqb (other_count ns) (get_or ns 0 0) (λ z. q (told ∙ z)))

-- a refused call
pub refused_there : (xs : List Float) (us vs : List ℕ) (scratch after : List Float) {x : Result TwoWayData Refusal} {s : Refusal} (r : TwoWayAnovaResult) → (after, x) ≡ organize_two_way_data xs us vs scratch → x ≡ Err s → r ≡ refused_result s
    → ◌≡◌ {A = List Float × TwoWayAnovaResult} (after, r) (two_way_anova xs us vs scratch)
unfolding two_way_anova
refused_there xs us vs scratch after r e n q =
    let w = which xs us vs scratch after e n in
    rw (q, left_alone_lem xs us vs scratch after e n, ← w.0) (sym (refused_answer (two_way_refusal xs us vs (length scratch)) (untouched scratch) _ w.1))

module _ (xs : List Float) (us vs : List ℕ) (scratch after : List Float) (d : TwoWayData) (h : Held xs us vs scratch after d) where
  abbrev a : ℕ
  a = d.levels_a

  abbrev b : ℕ
  b = d.levels_b

  abbrev ns : List ℕ
  ns = take (a * b) d.cell_n

  pub counts_length : length ns ≡ a * b
  counts_length = length-take-le (a * b) d.cell_n (omega (arith, h.few, h.wide))

  pub front_length : length (take d.n_total after) ≡ d.n_total
  front_length = length-take-le d.n_total after (omega (arith, h.most, h.lent))

  cells_cut : cut ns (take d.n_total after) ≡ cells a b xs us vs
  cells_cut = rw (h.counts, h.front, ← append-nil (cell_order a b xs us vs)) (cut_cells a b xs us vs [])

  pub table_there : cell_table ns (take d.n_total after) a b ≡ table_of (cells a b xs us vs) a b
  unfolding cell_table table_fits
  table_there =
      let all = take-take (a * b) (a * b) d.cell_n (omega arith) in
      let room : total ns ≤ length (take d.n_total after) = omega (arith, h.sum, front_length) in
      rw (le-ltb 6 a h.high_a, le-ltb 6 b h.high_b, le-ltb 512 (length (take d.n_total after)) (omega (arith, front_length, h.most)), le-ltb (length ns) (a * b) (omega (arith, counts_length)), all, le-leb (total ns) (length (take d.n_total after)) room, cells_cut)

  pub ready : Ready xs us vs ns a b after
  ready = record {
    least_a = h.low_a;
    most_a = h.high_a;
    least_b = h.low_b;
    most_b = h.high_b;
    codes_a = h.same_a;
    codes_b = h.same_b;
    few = omega (arith, h.all, h.most);
    room = h.lent;
    some = omega (arith, counts_length, some a b {n = a * b} (omega (arith, h.low_a)) (omega (arith, h.low_b)) (omega arith));
  }

  pub small : Small xs a b
  small = record {
    least_a = omega (arith, h.low_a);
    least_b = omega (arith, h.low_b);
    most_a = h.high_a;
    most_b = h.high_b;
    enough = omega (arith, h.more, h.all);
    most = omega (arith, h.all, h.most);
  }

  -- the readings that were laid into the scratch are wiped away with the rest
  pub wiped_same : wiped after ≡ wiped scratch
  unfolding wiped
  wiped_same =
      let split : 6400 ≡ d.n_total + (6400 - d.n_total) = omega (arith, h.most) in
      let far : (s : List Float) → drop 6400 s ≡ drop (6400 - d.n_total) (drop d.n_total s) = λ s. ap (λ (k : ℕ). drop k s) split ∙ sym (drop-drop (6400 - d.n_total) d.n_total s) in
      rw (h.long, far after, h.behind, ← far scratch)

  -- the answer of an accepted call
  pub answer_there : (t : CellTable) (e : Effects) (left : List Float) (r : TwoWayAnovaResult) → (two_way_refusal xs us vs (length scratch)).number ≡ 0 → t ≡ cell_table ns (take d.n_total after) a b
      → ◌≡◌ {A = List Float × Effects} (left, e) (squares_left xs us vs a b (take (a * b) t.cell_means) ns after) → r ≡ answer_of xs a b t e
      → ◌≡◌ {A = List Float × TwoWayAnovaResult} (left, r) (two_way_anova xs us vs scratch)
  unfolding two_way_anova
  answer_there t e left r z p q w =
      let tt = p ∙ table_there in
      let l : left ≡ wiped after = ap (λ (x : List Float × Effects). x.0) q in
      let f : e ≡ squares_of xs us vs a b (take (a * b) t.cell_means) ns = ap (λ (x : List Float × Effects). x.1) q in
      rw (w, l, wiped_same, f, tt, h.counts, h.is_a, h.is_b) (sym (passed_answer (two_way_refusal xs us vs (length scratch)) (untouched scratch) _ z))
