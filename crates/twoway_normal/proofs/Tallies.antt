-- A sum of ones, minus ones and zeros over readings is, bit for bit, the sum over their cells of count times value: whole numbers are added exactly, and from +0.0 no sum is -0.0.
use Prim.Native.Nat.{ℕ, zero, suc, ◌+◌, ◌*◌, ◌^◌, ◌≤◌, ◌<◌}
use mathlib.Core.Path.{◌≡◌, refl, sym, ap, ◌∙◌}
use mathlib.Core.Bool.{Bool, true, false, cond}
use mathlib.Core.List.{List}
use native.Mathlib.Nat.{not-suc-le-zero, mul-le-mul, mul_assoc, mul-zero, mul-one, zero-mul, add-mul, one-mul}
use native.Mathlib.Numerals.{add-one}
use native.Mathlib.Omega.{arith}
use borrow.Author.Tests.{eqb-true, eqb-false, ne_eqb, ltb-true, ltb-false}
use lib.Dec.{eqb, ltb}
use lib.ListN.{length, get_or, replicate, length-set, length-replicate}
use lib.Seq.{get_or-set_same, get_or-set_other}
use lib.Ieee.{Float, binary64, round, of_bits, of_int, unlike}
use lib.Ieee.Exact.{HasValue}
use lib.Ieee.Back.{round_whole}
use Rattle.base.specs.Lists.{bump}
use Rattle.base.specs.Loop.{loop}
use Rattle.base.proofs.Bounds.{product_le}
use Rattle.base.proofs.Walks.{walks}
use Rattle.float.specs.Words.{◌⊕◌, ◌⊗◌, count, plus_zero}
use Rattle.twoway_normal.proofs.Wholes.{product_value, between, ones_more, minus_ones_more}

-- ---- sums in whole numbers
unfoldable pub sum_to : (ℕ → ℕ) → ℕ → ℕ
sum_to h zero = 0
sum_to h (suc n) = sum_to h n + h n

sum_more : (h : ℕ → ℕ) (i n : ℕ) → i ≤ n → sum_to h i ≤ sum_to h n
unfolding sum_to
sum_more h i zero l = let z : i ≡ 0 = omega arith in rw z (omega arith)
sum_more h i (suc n) l = go (λ k. sum_more h i n k) (eqb i (suc n)) refl
  where
    go : (i ≤ n → sum_to h i ≤ sum_to h n) → (b : Bool) → eqb i (suc n) ≡ b → sum_to h i ≤ sum_to h n + h n
    go r true e = let z : i ≡ suc n = eqb-true i (suc n) e in rw z (omega arith)
    go r false e = let k = r (omega (arith, eqb-false i (suc n) e)) in omega (arith, k)

-- at most one a turn
few_added : (h : ℕ → ℕ) (n : ℕ) → ((i : ℕ) → h i ≤ 1) → sum_to h n ≤ n
unfolding sum_to
few_added h zero b = omega arith
few_added h (suc n) b = omega (arith, few_added h n b, b n)

-- ---- 1, -1 or a zero of either sign
pub record Small (x : Float) : Type 0 where
  pub sign : Bool
  pub size : ℕ
  pub value : HasValue x sign size 1
  pub few : size ≤ 1

abbrev pub small_product : (x y : Float) → Small x → Small y → Small (x ⊗ y)
small_product x y s t =
    let l : s.size * t.size ≤ 1 * 1 = product_le 1 1 s.few t.few in
    record { sign = unlike s.sign t.sign; size = s.size * t.size; value = product_value x y s.sign t.sign s.size t.size (omega (arith, l)) s.value t.value; few = omega (arith, l) }

-- how many ones a number of this sign and size is worth, and how many minus ones
abbrev ups : Bool → ℕ → ℕ
ups s n = cond s 0 n

abbrev downs : Bool → ℕ → ℕ
downs s n = cond s n 0

added : (p q n : ℕ) (s : Bool) (x : Float) → p ≤ 2 ^ 53 → q ≤ 2 ^ 53 → HasValue x s n 1 → between p q ⊕ x ≡ between (p + ups s n) (q + downs s n)
added p q n true x hp hq v = let z : p + 0 ≡ p = omega arith in rw z (minus_ones_more p q n x hp hq v)
added p q n false x hp hq v = let z : q + 0 ≡ q = omega arith in rw z (ones_more p q n x hp hq v)

same_sign : (s : Bool) → unlike false s ≡ s
same_sign true = refl
same_sign false = refl

some_ups : (s : Bool) (m n : ℕ) → ups s (m * n) ≡ m * ups s n
some_ups true m n = sym (mul-zero m)
some_ups false m n = refl

some_downs : (s : Bool) (m n : ℕ) → downs s (m * n) ≡ m * downs s n
some_downs true m n = refl
some_downs false m n = sym (mul-zero m)

either_few : (s : Bool) (n : ℕ) → n ≤ 1 → (ups s n ≤ 1) × (downs s n ≤ 1)
either_few true n h = (omega arith, h)
either_few false n h = (h, omega arith)

from_zero : plus_zero ≡ between 0 0
unfolding between of_bits round
from_zero = refl

-- turn i adds u i ones and d i minus ones: the sum from +0.0 is their difference
module _ (f : ℕ → Float → Float) (u d : ℕ → ℕ) (n : ℕ) (each : (i p q : ℕ) → i < n → p ≤ 2 ^ 53 → q ≤ 2 ^ 53 → f i (between p q) ≡ between (p + u i) (q + d i))
    (small_u : sum_to u n ≤ 2 ^ 53) (small_d : sum_to d n ≤ 2 ^ 53) where
  added_up : loop 0 n f plus_zero ≡ between (sum_to u n) (sum_to d n)
  unfolding sum_to
  added_up =
      walks f (λ i t. t ≡ between (sum_to u i) (sum_to d i)) n
      (λ i t l e.
      let p = sum_more u i n (omega arith) in
      let q = sum_more d i n (omega arith) in
      rw (add-one, e) (each i (sum_to u i) (sum_to d i) l (omega (arith, p)) (omega (arith, q))))
      0 plus_zero (omega arith) from_zero

-- ---- counting: a reading makes its cell's count one more
abbrev pub weighed : (ℕ → ℕ) → List ℕ → ℕ → ℕ
weighed u ns c = get_or ns c 0 * u c

more_before : (u : ℕ → ℕ) (ns : List ℕ) (k n : ℕ) → n ≤ k → sum_to (weighed u (bump ns k)) n ≡ sum_to (weighed u ns) n
unfolding sum_to
more_before u ns k zero l = refl
more_before u ns k (suc n) l =
    let e : get_or (bump ns k) n 0 ≡ get_or ns n 0 = get_or-set_other ns k n (get_or ns k 0 + 1) 0 (λ q. omega arith) in
    rw (more_before u ns k n (omega arith), e)

more_there : (u : ℕ → ℕ) (ns : List ℕ) (k n : ℕ) → k < length ns → k < n → sum_to (weighed u (bump ns k)) n ≡ sum_to (weighed u ns) n + u k
unfolding sum_to
more_there u ns k zero h l = absurd (not-suc-le-zero l)
more_there u ns k (suc n) h l = go (λ m. more_there u ns k n h m) (eqb n k) refl
  where
    go : (k < n → sum_to (weighed u (bump ns k)) n ≡ sum_to (weighed u ns) n + u k) → (b : Bool) → eqb n k ≡ b
        → sum_to (weighed u (bump ns k)) n + get_or (bump ns k) n 0 * u n ≡ sum_to (weighed u ns) n + get_or ns n 0 * u n + u k
    go r true e =
        let z : n ≡ k = eqb-true n k e in
        let s : get_or (bump ns k) k 0 ≡ get_or ns k 0 + 1 = get_or-set_same ns k (get_or ns k 0 + 1) 0 h in
        let m : (get_or ns k 0 + 1) * u k ≡ get_or ns k 0 * u k + u k = add-mul (get_or ns k 0) 1 (u k) ∙ ap (λ (x : ℕ). get_or ns k 0 * u k + x) (one-mul (u k)) in
        rw z (rw (more_before u ns k k (omega arith), s, m) (omega arith))
    go r false e =
        let o : get_or (bump ns k) n 0 ≡ get_or ns n 0 = get_or-set_other ns k n (get_or ns k 0 + 1) 0 (λ q. eqb-false n k e q) in
        rw o (omega (arith, r (omega (arith, eqb-false n k e))))

-- no count is less than it was, and none more than one more
pub one_more_lem : (ns : List ℕ) (k c : ℕ) → k < length ns → (get_or ns c 0 ≤ get_or (bump ns k) c 0) × (get_or (bump ns k) c 0 ≤ get_or ns c 0 + 1)
one_more_lem ns k c h = go (eqb c k) refl
  where
    go : (b : Bool) → eqb c k ≡ b → (get_or ns c 0 ≤ get_or (bump ns k) c 0) × (get_or (bump ns k) c 0 ≤ get_or ns c 0 + 1)
    go true e = let z : c ≡ k = eqb-true c k e in let s = get_or-set_same ns k (get_or ns k 0 + 1) 0 h in rw z (omega (arith, s), omega (arith, s))
    go false e = let s = get_or-set_other ns k c (get_or ns k 0 + 1) 0 (λ q. eqb-false c k e q) in (omega (arith, s), omega (arith, s))

pub no_count : (m c : ℕ) → get_or (replicate {A = ℕ} m 0) c 0 ≡ 0
no_count zero c = refl
no_count (suc m) zero = refl
no_count (suc m) (suc c) = no_count m c

-- is k the cell c?
abbrev pub hit : ℕ → ℕ → ℕ
hit c k = cond (eqb k c) 1 0

no_hit : (ns : List ℕ) (c k : ℕ) → k ≤ c → sum_to (weighed (hit c) ns) k ≡ 0
unfolding sum_to
no_hit ns c zero l = refl
no_hit ns c (suc k) l = rw (no_hit ns c k (omega arith), ne_eqb k c (λ q. omega arith), mul-zero (get_or ns k 0))

one_hit : (ns : List ℕ) (c k : ℕ) → c < k → sum_to (weighed (hit c) ns) k ≡ get_or ns c 0
unfolding sum_to
one_hit ns c zero l = absurd (not-suc-le-zero l)
one_hit ns c (suc k) l = go (λ m. one_hit ns c k m) (eqb k c) refl
  where
    go : (c < k → sum_to (weighed (hit c) ns) k ≡ get_or ns c 0) → (b : Bool) → eqb k c ≡ b → sum_to (weighed (hit c) ns) k + get_or ns k 0 * cond (eqb k c) 1 0 ≡ get_or ns c 0
    go r true e = let z : k ≡ c = eqb-true k c e in rw (e, mul-one (get_or ns k 0), no_hit ns c k (omega arith), z) (omega arith)
    go r false e = rw (e, mul-zero (get_or ns k 0), r (omega (arith, eqb-false k c e))) (omega arith)

-- reading i lies in the cell κ i, one of K; there are M places for counts
module _ (κ : ℕ → ℕ) (K M n : ℕ) (room : K ≤ M) (below : (i : ℕ) → i < n → κ i < K) where
  -- what the counts tell of the first i readings
  pub record Told (i : ℕ) (ns : List ℕ) : Type 0 where
    pub long : length ns ≡ M
    pub sums : (u : ℕ → ℕ) → sum_to (weighed u ns) K ≡ sum_to (λ r. u (κ r)) i
    pub most : (c : ℕ) → get_or ns c 0 ≤ i
    pub some : (r : ℕ) → r < i → 0 < get_or ns (κ r) 0

  abbrev counting : ℕ → List ℕ → List ℕ
  counting i ns = bump ns (κ i)

  none_yet : (u : ℕ → ℕ) (k : ℕ) → sum_to (weighed u (replicate M 0)) k ≡ 0
  unfolding sum_to
  none_yet u zero = refl
  none_yet u (suc k) =
      let z : get_or (replicate {A = ℕ} M 0) k 0 ≡ 0 = no_count M k in
      rw (none_yet u k, z, zero-mul (u k))

  pub told_first : Told 0 (replicate M 0)
  unfolding sum_to
  told_first = record { long = length-replicate M 0; sums = (λ u. none_yet u K); most = (λ c. let z : get_or (replicate {A = ℕ} M 0) c 0 ≡ 0 = no_count M c in omega (arith, z)); some = (λ r l. absurd (not-suc-le-zero l)) }

  pub told_next : (i : ℕ) (ns : List ℕ) → i < n → Told i ns → Told (i + 1) (counting i ns)
  unfolding sum_to
  told_next i ns l t = record {
    long = length-set ns (κ i) (get_or ns (κ i) 0 + 1) ∙ t.long;
    sums = (λ u. more_there u ns (κ i) K inside (below i l) ∙ rw add-one (ap (λ (x : ℕ). x + u (κ i)) (t.sums u)));
    most = (λ c. omega (arith, one_more_lem ns (κ i) c inside, t.most c));
    some = (λ r h. there r h (ltb r i) refl);
  }
    where
      inside : κ i < length ns
      inside = omega (arith, below i l, room, t.long)

      there : (r : ℕ) → r < i + 1 → (b : Bool) → ltb r i ≡ b → 0 < get_or (counting i ns) (κ r) 0
      there r h true e = omega (arith, t.some r (ltb-true r i e), one_more_lem ns (κ i) (κ r) inside)
      there r h false e =
          let q : r ≡ i = omega (arith, ltb-false r i e) in
          let s = get_or-set_same ns (κ i) (get_or ns (κ i) 0 + 1) 0 inside in
          rw q (omega (arith, s))

  pub told : Told n (loop 0 n counting (replicate M 0))
  told = walks counting Told n told_next 0 (replicate M 0) (omega arith) told_first

  -- so a count is the number of the readings in its cell
  pub counted_hits : (c : ℕ) → c < K → get_or (loop 0 n counting (replicate M 0)) c 0 ≡ sum_to (λ r. hit c (κ r)) n
  counted_hits c h = sym (one_hit (loop 0 n counting (replicate M 0)) c K h) ∙ told.sums (hit c)

  -- ---- x and y are what two columns of the design matrix hold in each cell
  module _ (x y : ℕ → Float) (sx : (c : ℕ) → Small (x c)) (sy : (c : ℕ) → Small (y c)) (most : n ≤ 512) where
    abbrev counts : List ℕ
    counts = loop 0 n counting (replicate M 0)

    abbrev product : (c : ℕ) → Small (x c ⊗ y c)
    product c = small_product (x c) (y c) (sx c) (sy c)

    abbrev U : ℕ → ℕ
    U c = ups (product c).sign (product c).size

    abbrev D : ℕ → ℕ
    D c = downs (product c).sign (product c).size

    few : (c : ℕ) → (U c ≤ 1) × (D c ≤ 1)
    few c = either_few (product c).sign (product c).size (product c).few

    small_u : sum_to (λ r. U (κ r)) n ≤ 512
    small_u = omega (arith, most, few_added (λ r. U (κ r)) n (λ i. (few (κ i)).0))

    small_d : sum_to (λ r. D (κ r)) n ≤ 512
    small_d = omega (arith, most, few_added (λ r. D (κ r)) n (λ i. (few (κ i)).1))

    by_readings : loop 0 n (λ i t. t ⊕ x (κ i) ⊗ y (κ i)) plus_zero ≡ between (sum_to (λ r. U (κ r)) n) (sum_to (λ r. D (κ r)) n)
    by_readings =
        added_up (λ i t. t ⊕ x (κ i) ⊗ y (κ i)) (λ r. U (κ r)) (λ r. D (κ r)) n
        (λ i p q l hp hq. added p q (product (κ i)).size (product (κ i)).sign (x (κ i) ⊗ y (κ i)) hp hq (product (κ i)).value)
        (omega (arith, small_u)) (omega (arith, small_d))

    times_value : (c m : ℕ) → m ≤ 512 → HasValue (count m ⊗ x c ⊗ y c) (product c).sign (m * (product c).size) 1
    unfolding of_int
    times_value c m l =
        let ma : m * (sx c).size ≤ 512 * 1 = mul-le-mul l (sx c).few in
        let mab : m * (sx c).size * (sy c).size ≤ 512 * 1 * 1 = mul-le-mul ma (sy c).few in
        let one = product_value (count m) (x c) false (sx c).sign m (sx c).size (omega (arith, ma)) (round_whole binary64 false m (omega (arith, l))) (sx c).value in
        let two = product_value (count m ⊗ x c) (y c) (sx c).sign (sy c).sign (m * (sx c).size) (sy c).size (omega (arith, mab)) (rw (same_sign (sx c).sign) at one) (sy c).value in
        rw (← mul_assoc m (sx c).size (sy c).size) two

    -- a cell with m readings adds m times what one of them adds; without readings, nothing
    cell_adds_lem : (c m p q : ℕ) → m ≤ 512 → p ≤ 2 ^ 53 → q ≤ 2 ^ 53 → cond (eqb m 0) (between p q) (between p q ⊕ count m ⊗ x c ⊗ y c) ≡ between (p + m * U c) (q + m * D c)
    cell_adds_lem c m p q l hp hq = go (eqb m 0) refl
      where
        go : (t : Bool) → eqb m 0 ≡ t → cond (eqb m 0) (between p q) (between p q ⊕ count m ⊗ x c ⊗ y c) ≡ between (p + m * U c) (q + m * D c)
        go true e =
            let z : m ≡ 0 = eqb-true m 0 e in
            let v : p + m * U c ≡ p = rw (z, zero-mul (U c)) (omega arith) in
            let w : q + m * D c ≡ q = rw (z, zero-mul (D c)) (omega arith) in
            rw (e, v, w)
        go false e = rw (e, ← some_ups (product c).sign m (product c).size, ← some_downs (product c).sign m (product c).size) (added p q (m * (product c).size) (product c).sign (count m ⊗ x c ⊗ y c) hp hq (times_value c m l))

    pub counts_give : loop 0 n (λ i t. t ⊕ x (κ i) ⊗ y (κ i)) plus_zero ≡ loop 0 K (λ c t. cond (eqb (get_or counts c 0) 0) t (t ⊕ count (get_or counts c 0) ⊗ x c ⊗ y c)) plus_zero
    counts_give =
        by_readings
        ∙ sym (rw (← told.sums U, ← told.sums D) (
        added_up (λ c t. cond (eqb (get_or counts c 0) 0) t (t ⊕ count (get_or counts c 0) ⊗ x c ⊗ y c)) (weighed U counts) (weighed D counts) K
        (λ c p q l hp hq. cell_adds_lem c (get_or counts c 0) p q (omega (arith, most, told.most c)) hp hq)
        (omega (arith, told.sums U, small_u)) (omega (arith, told.sums D, small_d))))
