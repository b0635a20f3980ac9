-- What a caller of `organize_two_way_data` knows of its answer, and where a cell's readings and its count are found.
use mathlib.Core.Path.{◌≡◌, refl, sym, ap, ◌∙◌}
use mathlib.Core.Bool.{Bool, true, false, cond}
use lib.Dec.{eqb}
use mathlib.Core.List.{List, [], ◌++◌}
use Prim.Native.Nat.{ℕ, ◌+◌, ◌*◌, ◌≤◌, ◌<◌}
use native.Mathlib.Nat.{zero-add}
use native.Mathlib.Omega.{arith}
use lib.Ieee.{Float}
use lib.ListN.{length, get_or, take, drop, get_or-append, get_or-map}
use lib.Seq.{take_at, drop_at}
use Rattle.base.specs.declared.Refusal.{Refusal}
use Rattle.std.specs.Prelude.{Result, Ok, Err}
use Rattle.base.specs.Refusals.{judged, guarded}
use Rattle.base.specs.Lists.{total, cut, over}
use Rattle.base.proofs.Cuts.{cut_flatten, total_flatten}
use Rattle.base.proofs.Runs.{length_over}
use Rattle.base.proofs.Order.{passed_answer, refused_answer, was_passed, was_refused}
use Rattle.base.proofs.Judged.{was_answered}
use Rattle.twoway_checks.specs.declared.TwoWayData.{TwoWayData}
use Rattle.twoway_checks.specs.Cells.{cell, numbered, cells, cell_counts}
use Rattle.twoway_checks.specs.Checks.{levels, two_way_refusal}
use Rattle.twoway_checks.specs.Inner.{Leveled, keys}
use Rattle.twoway_checks.specs.Data.{no_counts, two_way_data}
use Rattle.twoway_checks.proofs.Keys.{key_codes, key_below, numbers_at, length_counts}
use Rattle.twoway_checks.proofs.Tallies.{count_le_total, length_tally}
use Rattle.twoway_checks.proofs.Doors.{Passed, passed, at_most_36, tally_counts, first_counts, total_counts}
use Rattle.twoway_cells.specs.Organized.{cell_order, left_alone, organize_two_way_data}

-- cell number c, and the cell of two codes, among all cells
module _ (a b : ℕ) (xs : List Float) (us vs : List ℕ) where
  pub cell_number : (c : ℕ) → c < a * b → get_or (cells a b xs us vs) c [] ≡ numbered b xs us vs c
  unfolding cells
  cell_number c h = numbers_at (numbered b xs us vs) [] 0 (a * b) c h ∙ ap (numbered b xs us vs) (zero-add c)

  pub cell_place : (i j : ℕ) → i < a → j < b → get_or (cells a b xs us vs) (i * b + j) [] ≡ cell i j xs us vs
  cell_place i j p q =
      let k = key_codes b i j q in
      cell_number (i * b + j) (key_below b a (a * b) i j p q (omega arith)) ∙ rw (k.0, k.1)

  -- the same for the counts, in the 36 places of the answer
  pub count_number : (c : ℕ) → c < a * b → get_or (over (cell_counts a b xs us vs) no_counts) c 0 ≡ length (get_or (cells a b xs us vs) c [])
  count_number c h = get_or-append (cell_counts a b xs us vs) _ 0 c (rw (length_counts a b xs us vs) h) ∙ get_or-map length (cells a b xs us vs) c []

  pub count_place : (i j : ℕ) → i < a → j < b → get_or (over (cell_counts a b xs us vs) no_counts) (i * b + j) 0 ≡ length (cell i j xs us vs)
  count_place i j p q = count_number (i * b + j) (key_below b a (a * b) i j p q (omega arith)) ∙ ap length (cell_place i j p q)

  -- the scratch cut at the counts is the cells
  pub cut_cells : (rest : List Float) → cut (cell_counts a b xs us vs) (cell_order a b xs us vs ++ rest) ≡ cells a b xs us vs
  cut_cells rest = cut_flatten (cells a b xs us vs) rest

  module _ (k : Leveled xs us vs a b) where
    pub order_length : length (cell_order a b xs us vs) ≡ length xs
    order_length = sym (total_flatten (cells a b xs us vs)) ∙ total_counts xs us vs a b k

    -- the first places of the scratch, and those behind them
    pub front_places : (scratch : List Float) → take (length xs) (over (cell_order a b xs us vs) scratch) ≡ cell_order a b xs us vs
    front_places scratch = take_at (cell_order a b xs us vs) _ (length xs) order_length

    pub other_places : (scratch : List Float) → drop (length xs) (over (cell_order a b xs us vs) scratch) ≡ drop (length xs) scratch
    other_places scratch = drop_at (cell_order a b xs us vs) _ (length xs) order_length ∙ ap (λ (n : ℕ). drop n scratch) order_length

    -- no cell has more than all the readings
    pub count_le : (c : ℕ) → get_or (cell_counts a b xs us vs) c 0 ≤ length xs
    count_le c = omega (arith, count_le_total (cell_counts a b xs us vs) c, total_counts xs us vs a b k)

-- the answer of a call that was not refused: the scratch is `after` now, the design d
pub record Answered (xs : List Float) (us vs : List ℕ) (scratch after : List Float) (d : TwoWayData) : Type 0 where
  pub known : Passed xs us vs (length scratch)
  pub places : after ≡ over (cell_order (levels us) (levels vs) xs us vs) scratch
  pub design : d ≡ two_way_data (levels us) (levels vs) xs us vs

-- the answer x of any call
module _ (xs : List Float) (us vs : List ℕ) (scratch after : List Float) {x : Result TwoWayData Refusal} (e : (after, x) ≡ organize_two_way_data xs us vs scratch) where
  handed : x ≡ judged (two_way_refusal xs us vs (length scratch)) (two_way_data (levels us) (levels vs) xs us vs)
  unfolding organize_two_way_data guarded
  handed = ap (λ (p : List Float × Result TwoWayData Refusal). p.1) e ∙ go (eqb q.number 0)
    where
      d : TwoWayData
      d = two_way_data (levels us) (levels vs) xs us vs

      q : Refusal
      q = two_way_refusal xs us vs (length scratch)

      go : (b : Bool) → (cond b (over (cell_order (levels us) (levels vs) xs us vs) scratch, Ok d) (left_alone scratch q)).1 ≡ cond b (Ok d) (Err q)
      go true = refl
      go false = refl

  pub which : {r : Refusal} → x ≡ Err r → (two_way_refusal xs us vs (length scratch) ≡ r) × ((two_way_refusal xs us vs (length scratch)).number ≡ 0 → ⊥)
  which p = was_refused _ _ handed p

  pub left_alone_lem : {r : Refusal} → x ≡ Err r → after ≡ scratch
  unfolding organize_two_way_data
  left_alone_lem p = ap (λ (p : List Float × Result TwoWayData Refusal). p.0) (e ∙ refused_answer (two_way_refusal xs us vs (length scratch)) (left_alone scratch) _ (which p).1)

  pub passes : {d : TwoWayData} → x ≡ Ok d → (two_way_refusal xs us vs (length scratch)).number ≡ 0
  passes p = was_passed _ _ handed p

  pub answered : {d : TwoWayData} → x ≡ Ok d → Answered xs us vs scratch after d
  unfolding organize_two_way_data
  answered p =
      record {
        known = passed xs us vs (length scratch) (passes p);
        places = ap (λ (q : List Float × Result TwoWayData Refusal). q.0) (e ∙ passed_answer (two_way_refusal xs us vs (length scratch)) (left_alone scratch) _ (passes p));
        design = was_answered _ _ handed p;
      }

-- the same in terms of the answer alone, for code that goes on from it
pub record Held (xs : List Float) (us vs : List ℕ) (scratch after : List Float) (d : TwoWayData) : Type 0 where
  pub is_a : d.levels_a ≡ levels us
  pub is_b : d.levels_b ≡ levels vs
  pub low_a : 2 ≤ d.levels_a
  pub high_a : d.levels_a ≤ 6
  pub low_b : 2 ≤ d.levels_b
  pub high_b : d.levels_b ≤ 6
  pub few : d.levels_a * d.levels_b ≤ 36
  pub all : d.n_total ≡ length xs
  pub most : d.n_total ≤ 512
  pub more : d.levels_a * d.levels_b + 1 ≤ d.n_total
  pub same_a : length us ≡ length xs
  pub same_b : length vs ≡ length xs
  -- the counts: 36 places, the first of them the cells' lengths, each from 1 to 512, and all the readings together
  pub wide : length d.cell_n ≡ 36
  pub counts : take (d.levels_a * d.levels_b) d.cell_n ≡ cell_counts d.levels_a d.levels_b xs us vs
  pub some : (c : ℕ) → c < d.levels_a * d.levels_b → 1 ≤ get_or d.cell_n c 0
  pub small : (c : ℕ) → c < d.levels_a * d.levels_b → get_or d.cell_n c 0 ≤ 512
  pub sum : total (take (d.levels_a * d.levels_b) d.cell_n) ≡ d.n_total
  -- the scratch: as long as it was, the readings cell by cell in its first places, and the others kept
  pub long : length after ≡ length scratch
  pub lent : 6400 ≤ length after
  pub front : take d.n_total after ≡ cell_order d.levels_a d.levels_b xs us vs
  pub behind : drop d.n_total after ≡ drop d.n_total scratch
  pub parts : cut (take (d.levels_a * d.levels_b) d.cell_n) after ≡ cells d.levels_a d.levels_b xs us vs

module _ (xs : List Float) (us vs : List ℕ) (scratch : List Float) (p : Passed xs us vs (length scratch)) where
  abbrev A : ℕ
  A = levels us

  abbrev B : ℕ
  B = levels vs

  abbrev ns : List ℕ
  ns = cell_counts A B xs us vs

  in_places : (c : ℕ) → c < A * B → get_or (over ns no_counts) c 0 ≡ get_or ns c 0
  in_places c h = get_or-append ns _ 0 c (rw (length_counts A B xs us vs) h)

  first : take (A * B) (over ns no_counts) ≡ ns
  first = first_counts xs us vs A B p.design

  wide_enough : length (over ns no_counts) ≡ 36
  wide_enough = rw (← tally_counts xs us vs A B p.design) (length_tally (keys B us vs))

  long_enough : length (over (cell_order A B xs us vs) scratch) ≡ length scratch
  long_enough =
      let n = order_length A B xs us vs p.design in
      length_over (cell_order A B xs us vs) scratch (omega (arith, p.shape))

  held_design : Held xs us vs scratch (over (cell_order A B xs us vs) scratch) (two_way_data A B xs us vs)
  held_design =
      let k = p.design in
      record {
        is_a = refl;
        is_b = refl;
        low_a = k.low_a;
        high_a = k.high_a;
        low_b = k.low_b;
        high_b = k.high_b;
        few = at_most_36 xs us vs A B k;
        all = refl;
        most = k.readings;
        more = p.more;
        same_a = k.same_a;
        same_b = k.same_b;
        wide = wide_enough;
        counts = first;
        some = λ c h. rw (in_places c h) (p.filled c h);
        small = λ c h. rw (in_places c h) (omega (arith, count_le A B xs us vs k c));
        sum = rw first p.adds;
        long = long_enough;
        lent = rw long_enough p.shape.places;
        front = front_places A B xs us vs k scratch;
        behind = other_places A B xs us vs k scratch;
        parts = rw first (cut_cells A B xs us vs _);
      }

pub held : (xs : List Float) (us vs : List ℕ) (scratch after : List Float) {x : Result TwoWayData Refusal} {d : TwoWayData} → (after, x) ≡ organize_two_way_data xs us vs scratch → x ≡ Ok d → Held xs us vs scratch after d
held xs us vs scratch after e z =
    let a = answered xs us vs scratch after e z in
    rw (a.places, a.design) (held_design xs us vs scratch a.known)
