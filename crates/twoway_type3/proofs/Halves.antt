-- A block copied to the left half of rows: the walk over the rows, and what it reads.
use Prim.Native.Nat.{ℕ, suc, ◌+◌, ◌-◌, ◌*◌, ◌/◌, ◌%◌, ◌<◌, ◌≤◌}
use mathlib.Core.Path.{◌≡◌, refl, sym, ap, ◌∙◌}
use mathlib.Core.Bool.{Bool, true, false}
use mathlib.Core.List.{List, ◌++◌, append_assoc}
use native.Mathlib.Nat.{div-lt_iff_lt-mul, add-zero, suc-mul, zero-mul}
use native.Mathlib.Numerals.{add-one}
use native.Mathlib.Omega.{arith}
use borrow.Author.Tests.{leb-false, lt-leb, le-leb}
use lib.Dec.{leb}
use lib.ListN.{length, set, take, drop, length-set}
use lib.Seq.{sets, sets-eq, get_or-take, take-set-le, drop-drop}
use lib.Ieee.{Float, nan}
use Rattle.base.specs.Lists.{part, within}
use Rattle.base.specs.Loop.{loop}
use Rattle.base.proofs.Bounds.{row_end}
use Rattle.base.proofs.Walks.{walks}
use Rattle.matrix_linear.specs.Inverse.{zero_at}
use Rattle.matrix_linear.specs.Rows.{at}
use Rattle.float.specs.Words.{plus_zero}
use Rattle.twoway_normal.specs.Tables.{places, table}
use Rattle.twoway_normal.proofs.Entries.{length_places, same_places}
use Rattle.twoway_normal.proofs.Lent.{part_at}
use Rattle.twoway_normal.proofs.Ways.{row_of_lem, column_of_lem}
use Rattle.twoway_type3.specs.Matrices.{half_of, left_half}
use Rattle.twoway_type3.specs.Inner.{half_at, copy_at, half_row, half_step}

module _ {A : Type 0} where
  -- from place `to` on, what is still to be put is f at q, at q + 1, .. up to n
  module _ (f : ℕ → A) (to n : ℕ) where
    abbrev putting : List A → ℕ → List A
    putting m q = sets m (to + q) (places q (n - q) f)

    put_starts : (m : List A) → to + n ≤ length m → putting m 0 ≡ within to n (λ _. places 0 n f) m
    unfolding within part
    put_starts m h =
        let z : to + 0 ≡ to = omega arith in
        let k : n - 0 ≡ n = omega arith in
        let l : length (places 0 n f) ≡ n = length_places 0 n f in
        rw (z, k) (sets-eq (places 0 n f) m to (rw l h) ∙ append_assoc (take to m) (places 0 n f) (drop (to + length (places 0 n f)) m) ∙ ap (λ (t : List A). take to m ++ (places 0 n f ++ t)) (ap (λ (x : ℕ). drop (to + x) m) l ∙ sym (drop-drop n to m)))

    put_step : (m : List A) (q : ℕ) (y : A) {whole : List A} → putting m q ≡ whole → q < n → y ≡ f q → putting (set m (to + q) y) (q + 1) ≡ whole
    unfolding places
    put_step m q y e h p =
        let k : n - q ≡ suc (n - (q + 1)) = omega arith in
        let s : to + (q + 1) ≡ suc (to + q) = omega arith in
        rw (p, s) (rw k at e)

    put_ends : (m : List A) (q : ℕ) {whole : List A} → putting m q ≡ whole → n ≤ q → m ≡ whole
    unfolding places
    put_ends m q e h = let k : n - q ≡ 0 = omega arith in rw k at e

-- the row of a place of n rows
pub row_below : (n q : ℕ) → 0 < n → q < n * (2 * n) → q / (2 * n) < n
row_below n q z h = (div-lt_iff_lt-mul {k = 2 * n} {x = q} {y = n} (omega arith)).1 h

-- what stands in row i, column j
module _ (n from w i j : ℕ) (m : List Float) where
  half_left : j < n → at m (from + (i * w + j)) ≡ half_at n from w m (i * (2 * n) + j)
  unfolding half_of
  half_left h = rw (row_of_lem i (2 * n) j (omega arith), column_of_lem i (2 * n) j (omega arith), lt-leb n j h)

  half_right : n ≤ j → j < 2 * n → plus_zero ≡ half_at n from w m (i * (2 * n) + j)
  unfolding half_of
  half_right h l = rw (row_of_lem i (2 * n) j l, column_of_lem i (2 * n) j l, le-leb n j h)

-- row after row is put, and what is read lies before `to`, where nothing is put
module _ (n from w to : ℕ) (m : List Float) (room : to + n * (2 * n) ≤ length m) (before : (i : ℕ) → i < n → from + (i * w + n) ≤ to) where
  abbrev all : ℕ
  all = n * (2 * n)

  -- the memory before place q is put
  abbrev At : ℕ → List Float → Type 0
  At q s = (length s ≡ length m) × (take to s ≡ take to m) × (putting (half_at n from w m) to all s q ≡ putting (half_at n from w m) to all m 0)

  put_one : (q k : ℕ) (s : List Float) (y : Float) → k ≡ to + q → q < all → At q s → y ≡ half_at n from w m q → At (q + 1) (set s k y)
  put_one q k s y p h a e = rw p (length-set s (to + q) y ∙ a.0, take-set-le to s (to + q) y (omega arith) ∙ a.1, put_step (half_at n from w m) to all s q y a.2 h e)

  kept : (s : List Float) (x : ℕ) → take to s ≡ take to m → x < to → at s x ≡ at m x
  kept s x e h = sym (get_or-take to s x nan h) ∙ ap (λ (t : List Float). at t x) e ∙ get_or-take to m x nan h

  module _ (i : ℕ) (h : i < n) where
    ends : i * (2 * n) + 2 * n ≤ all
    ends = row_end i n (2 * n) h (omega arith)

    copied : (s : List Float) → At (i * (2 * n)) s → At (i * (2 * n) + n) (loop 0 n (copy_at (from + i * w) (to + i * (2 * n))) s)
    copied s a =
        walks (copy_at (from + i * w) (to + i * (2 * n))) (λ j s. At (i * (2 * n) + j) s) n
        (λ j s l a.
        let k : i * (2 * n) + (j + 1) ≡ i * (2 * n) + j + 1 = omega arith in
        let x : from + i * w + j ≡ from + (i * w + j) = omega arith in
        let y = kept s (from + i * w + j) a.1 (omega (arith, before i h)) ∙ ap (at m) x ∙ half_left n from w i j m l in
        rw k (put_one (i * (2 * n) + j) (to + i * (2 * n) + j) s (at s (from + i * w + j)) (omega arith) (omega (arith, ends)) a y))
        0 s (omega arith) (rw (add-zero (i * (2 * n))) a)

    zeroed : (s : List Float) → At (i * (2 * n) + n) s → At (i * (2 * n) + n + n) (loop 0 n (zero_at (to + i * (2 * n) + n)) s)
    zeroed s a =
        walks (zero_at (to + i * (2 * n) + n)) (λ j s. At (i * (2 * n) + n + j) s) n
        (λ j s l a.
        let k : i * (2 * n) + n + (j + 1) ≡ i * (2 * n) + n + j + 1 = omega arith in
        let x : i * (2 * n) + (n + j) ≡ i * (2 * n) + n + j = omega arith in
        rw k (put_one (i * (2 * n) + n + j) (to + i * (2 * n) + n + j) s plus_zero (omega arith) (omega (arith, ends)) a (half_right n from w i (n + j) m (omega arith) (omega arith) ∙ ap (half_at n from w m) x)))
        0 s (omega arith) (rw (add-zero (i * (2 * n) + n)) a)

    row_put : (s : List Float) → At (i * (2 * n)) s → At ((i + 1) * (2 * n)) (half_step to n from w i s)
    unfolding half_row
    row_put s a =
        let e : (i + 1) * (2 * n) ≡ i * (2 * n) + n + n = rw (add-one, suc-mul i (2 * n)) (omega arith) in
        rw e (zeroed (loop 0 n (copy_at (from + i * w) (to + i * (2 * n))) s) (copied s a))

  pub half_walk : loop 0 n (half_step to n from w) m ≡ within to (n * (2 * n)) (λ _. left_half n from w m) m
  unfolding left_half table
  half_walk =
      let z : 0 * (2 * n) ≡ 0 = zero-mul (2 * n) in
      let a = walks (half_step to n from w) (λ i s. At (i * (2 * n)) s) n (λ i s l a. row_put i l s a) 0 m (omega arith) (refl, refl, rw z) in
      put_ends (half_at n from w m) to (n * (2 * n)) _ (n * (2 * n)) a.2 (omega arith) ∙ put_starts (half_at n from w m) to (n * (2 * n)) m room

-- a block of a part
pub half_part : (n from w o k : ℕ) (m : List Float) → 0 < n → ((i : ℕ) → i < n → from + (i * w + n) ≤ k) → left_half n (o + from) w m ≡ left_half n from w (part o k m)
unfolding left_half table half_of
half_part n from w o k m z b = same_places 0 (n * (2 * n)) (half_at n (o + from) w m) (half_at n from w (part o k m)) (λ q l. go q (omega arith) (leb n (q % (2 * n))) refl)
  where
    go : (q : ℕ) → q < n * (2 * n) → (t : Bool) → leb n (q % (2 * n)) ≡ t → half_at n (o + from) w m q ≡ half_at n from w (part o k m) q
    go q h true p = rw p
    go q h false p =
        let l : q % (2 * n) < n = leb-false n (q % (2 * n)) p in
        let c = b (q / (2 * n)) (row_below n q z h) in
        let y = q / (2 * n) * w + q % (2 * n) in
        let r : from + y < k = omega arith in
        let e : o + from + y ≡ o + (from + y) = omega arith in
        rw p (ap (at m) e ∙ sym (part_at o k m nan (from + y) r))
