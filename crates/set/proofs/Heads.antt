-- What the checks of a set leave known where they are passed.
use mathlib.Core.Path.{◌≡◌, refl, sym, ap, ◌∙◌}
use mathlib.Core.List.{List, map}
use Prim.Native.Nat.{ℕ, ◌+◌, ◌-◌, ◌*◌, ◌<◌, ◌≤◌}
use native.Mathlib.Omega.{arith}
use borrow.Author.Tests.{ltb-false, eqb-true, eqb-false, lt-ltb, le-ltb, eq-eqb, ne_eqb}
use lib.Dec.{ltb, eqb}
use lib.Ieee.{Float}
use lib.ListN.{length, take, drop, length-map, length-append, length-drop}
use lib.Seq.{take_at}
use Rattle.std.specs.Prelude.{Result, Ok, Err}
use Rattle.base.specs.declared.Refusal.{Refusal}
use Rattle.base.specs.Lists.{total, words}
use Rattle.base.specs.Refusals.{refuse, none, when}
use Rattle.base.proofs.Order.{both_passed, no_fault, needed_there, answers_numbers, refused_answer, judged_refused, judged_passed, was_passed, was_refused}
use Rattle.base.proofs.Parts.{rest_part}
use Rattle.base.proofs.Words.{length_words}
use Rattle.oneway.specs.declared.AnovaKind.{AnovaKind}
use Rattle.results.specs.declared.OneWayAnovaResult.{OneWayAnovaResult}
use Rattle.results.specs.Results.{refused_result}
use Rattle.oneway.specs.Anova.{one_way_anova}
use Rattle.set.specs.declared.Contents.{Contents}
use Rattle.set.specs.declared.ReadingSet.{ReadingSet}
use Rattle.set.specs.Bytes.{little, reading}
use Rattle.set.specs.Sets.{group_count, contents_length, set_length, set_sizes, set_readings, set_refusal, set_of, read_set, set_anova}
use Rattle.set.specs.Inner.{contents_of, body_of}

pub record Headed (bs : List ℕ) : Type 0 where
  pub two : 2 ≤ length bs
  pub groups : group_count bs ≤ 16
  pub contents : contents_length bs ≤ length bs
  pub readings : total (set_sizes bs) ≤ 512
  pub exact : length bs ≡ set_length bs

pub headed : (bs : List ℕ) → (set_refusal bs).number ≡ 0 → Headed bs
unfolding set_refusal
headed bs h =
    let len = length bs in
    let k = group_count bs in
    let n = total (set_sizes bs) in
    let p = both_passed (when (ltb len 2) (refuse 10 2 len)) _ h in
    let q = both_passed (when (ltb 16 k) (refuse 11 1 k)) _ p.1 in
    let r = both_passed (when (ltb len (contents_length bs)) (refuse 10 (contents_length bs) len)) _ q.1 in
    let s = both_passed (when (ltb 512 n) (refuse 11 2 n)) _ r.1 in
    record {
      two = ltb-false len 2 (no_fault (ltb len 2) (refuse 10 2 len) (eqb-false 10 0 refl) p.0);
      groups = ltb-false 16 k (no_fault (ltb 16 k) (refuse 11 1 k) (eqb-false 11 0 refl) q.0);
      contents = ltb-false len (contents_length bs) (no_fault (ltb len (contents_length bs)) (refuse 10 (contents_length bs) len) (eqb-false 10 0 refl) r.0);
      readings = ltb-false 512 n (no_fault (ltb 512 n) (refuse 11 2 n) (eqb-false 11 0 refl) s.0);
      exact = eqb-true len (set_length bs) (needed_there (eqb len (set_length bs)) (refuse 10 (set_length bs) len) (eqb-false 10 0 refl) s.1);
    }

-- each answer of the checks, from what the code has worked out: k the count, n the readings
module _ (bs : List ℕ) where
  pub cut_off : length bs < 2 → refuse 10 2 (length bs) ≡ set_refusal bs
  unfolding set_refusal
  cut_off h = rw (lt-ltb (length bs) 2 h)

  module _ (two : 2 ≤ length bs) (k : ℕ) (ek : k ≡ group_count bs) where
    pub too_many_groups : 16 < k → refuse 11 1 k ≡ set_refusal bs
    unfolding set_refusal
    too_many_groups h = rw (← ek, le-ltb (length bs) 2 two, lt-ltb 16 k h)

    module _ (few : k ≤ 16) where
      pub contents_short : length bs < 2 + k * 2 → refuse 10 (2 + k * 2) (length bs) ≡ set_refusal bs
      unfolding set_refusal
      contents_short h = rw (← ek, le-ltb (length bs) 2 two, le-ltb 16 k few, lt-ltb (length bs) (2 + k * 2) h)

      module _ (there : 2 + k * 2 ≤ length bs) (n : ℕ) (en : n ≡ total (map little (words 2 k (drop 2 bs)))) where
        pub too_many_readings : 512 < n → refuse 11 2 n ≡ set_refusal bs
        unfolding set_refusal
        too_many_readings h = rw (← ek, ← en, le-ltb (length bs) 2 two, le-ltb 16 k few, le-ltb (length bs) (2 + k * 2) there, lt-ltb 512 n h)

        module _ (small : n ≤ 512) where
          pub wrong_length : (length bs ≡ 2 + k * 2 + n * 8 → ⊥) → refuse 10 (2 + k * 2 + n * 8) (length bs) ≡ set_refusal bs
          unfolding set_refusal
          wrong_length h =
              rw (← ek, ← en, le-ltb (length bs) 2 two, le-ltb 16 k few, le-ltb (length bs) (2 + k * 2) there, le-ltb 512 n small, ne_eqb (length bs) (2 + k * 2 + n * 8) h)

          pub nothing_wrong : length bs ≡ 2 + k * 2 + n * 8 → none ≡ set_refusal bs
          unfolding set_refusal
          nothing_wrong h =
              rw (← ek, ← en, le-ltb (length bs) 2 two, le-ltb 16 k few, le-ltb (length bs) (2 + k * 2) there, le-ltb 512 n small, eq-eqb (length bs) (2 + k * 2 + n * 8) h)

-- how many sizes and readings a set has
pub sizes_count : (bs : List ℕ) → length (set_sizes bs) ≡ group_count bs
sizes_count bs = length-map (words 2 (group_count bs) (drop 2 bs)) little ∙ length_words 2 (group_count bs) (drop 2 bs)

pub readings_count : (bs : List ℕ) → length (set_readings bs) ≡ total (set_sizes bs)
readings_count bs = length-map (words 8 (total (set_sizes bs)) (drop (contents_length bs) bs)) reading ∙ length_words 8 (total (set_sizes bs)) (drop (contents_length bs) bs)

-- the sum of the sizes that the code reads behind the count
pub counted : (bs : List ℕ) (k : ℕ) {c : Contents} → c ≡ contents_of (map little (words 2 k (take (length bs - 2) (drop 2 bs)))) → c.total ≡ total (map little (words 2 k (drop 2 bs)))
counted bs k e = ap (λ (t : Contents). t.total) e ∙ ap (λ (l : List ℕ). total (map little (words 2 k l))) (rest_part 2 bs)

-- what the code answers at a check that found this fault
pub fails : (bs : List ℕ) {r q : Refusal} → r ≡ q → q ≡ set_refusal bs → (q.number ≡ 0 → ⊥) → Err r ≡ read_set bs
unfolding read_set
fails bs {r} {q} e f n = rw (e, ← f) (sym (judged_refused q (set_of (set_sizes bs) (set_readings bs)) n))

-- a set that passed, from what the code reads of it: k the count, c the contents
module _ (bs : List ℕ) (z : none ≡ set_refusal bs) (k : ℕ) (ek : k ≡ group_count bs) (c : Contents) (ec : c ≡ contents_of (map little (words 2 k (take (length bs - 2) (drop 2 bs))))) where
  contents_read : c ≡ contents_of (set_sizes bs)
  contents_read = rw (ec, rest_part 2 bs, ek)

  pub body_fits : (c.total ≤ 512) × (c.total * 8 ≤ length (take (length bs - (2 + k * 2)) (drop (2 + k * 2) bs)))
  body_fits =
      let h = headed bs (ap (λ (r : Refusal). r.number) (sym z)) in
      let t : c.total ≡ total (set_sizes bs) = ap (λ (d : Contents). d.total) contents_read in
      (rw t h.readings, rw (rest_part (2 + k * 2) bs, length-drop) (omega (arith, h.exact)))

  pub set_made : (xs : List Float) → xs ≡ body_of (map reading (words 8 c.total (take (length bs - (2 + k * 2)) (drop (2 + k * 2) bs))))
      → Ok (record { n_groups = k; n_total = c.total; sizes = c.sizes; readings = xs }) ≡ read_set bs
  unfolding read_set
  set_made xs q = rw (← z, q, rest_part (2 + k * 2) bs, contents_read, ek, sizes_count bs, readings_count bs)

-- what a caller of `read_set` knows of its answer
module _ (bs : List ℕ) {v : Result ReadingSet Refusal} (e : v ≡ read_set bs) (kind : AnovaKind) where
  pub set_refused : {r : Refusal} → v ≡ Err r → refused_result r ≡ set_anova kind bs
  unfolding read_set set_anova
  set_refused f =
      let w = was_refused (set_refusal bs) (set_of (set_sizes bs) (set_readings bs)) e f in
      rw (← w.0) (sym (refused_answer (set_refusal bs) refused_result _ w.1))

  module _ {s : ReadingSet} (f : v ≡ Ok s) where
    passes : (set_refusal bs).number ≡ 0
    unfolding read_set
    passes = was_passed (set_refusal bs) (set_of (set_sizes bs) (set_readings bs)) e f

    set_is : s ≡ set_of (set_sizes bs) (set_readings bs)
    unfolding read_set
    set_is = ap (λ (x : Result ReadingSet Refusal). elim x [ Ok t ↦ t | Err r ↦ s ]) (sym f ∙ e ∙ judged_passed (set_refusal bs) (set_of (set_sizes bs) (set_readings bs)) passes)

    -- the parts in use lie within the arrays
    pub groups_fit : s.n_groups ≤ length s.sizes
    groups_fit = rw (set_is, length-append) (omega arith)

    pub readings_fit : s.n_total ≤ length s.readings
    readings_fit = rw (set_is, length-append) (omega arith)

    sizes_in_use : take s.n_groups s.sizes ≡ set_sizes bs
    sizes_in_use = rw set_is (take_at (set_sizes bs) _ (length (set_sizes bs)) refl)

    readings_in_use : take s.n_total s.readings ≡ set_readings bs
    readings_in_use = rw set_is (take_at (set_readings bs) _ (length (set_readings bs)) refl)

    pub analysed : {x : OneWayAnovaResult} → x ≡ one_way_anova kind (take s.n_total s.readings) (take s.n_groups s.sizes) → x ≡ set_anova kind bs
    unfolding set_anova
    analysed p = answers_numbers (set_refusal bs) refused_result _ refl passes (rw (readings_in_use, sizes_in_use) at p)
