-- A faint norm is one that is not above 1e-15, as a NaN is not: the step leaves Q as it was, and no other column touches these places, so that the column holds +0.0 to the end.
use Prim.Native.Nat.{ℕ, ◌+◌, ◌*◌, ◌<◌, ◌≤◌}
use mathlib.Core.Path.{◌≡◌, refl, sym, ap, ◌∙◌}
use mathlib.Core.Bool.{Bool, true, false, cond}
use mathlib.Core.List.{List}
use native.Mathlib.Omega.{arith}
use borrow.Author.Tests.{eqb-true, eqb-false}
use lib.Dec.{eqb}
use lib.ListN.{length, length-replicate, get_or-replicate, get_or-append}
use lib.Seq.{get_or-set_other}
use lib.Ieee.{Float, nan, lt}
use Rattle.base.specs.Loop.{loop, turns}
use Rattle.base.proofs.Bounds.{row_end}
use Rattle.base.proofs.Loops.{keeps}
use Rattle.base.proofs.Places.{another_column}
use Rattle.base.proofs.Walks.{walks, last_turn}
use Rattle.float.specs.Words.{plus_zero, tinier}
use Rattle.lent.specs.Wiping.{zeros}
use Rattle.matrix_places.specs.Places.{at}
use Rattle.matrix_eigen.specs.Qr.{norm, put_at, put_column, new_column, normalize, remains, qr_column, qr_columns, wiped, qr_of}

pub faint_column_kept : (n : ℕ) (a : List Float) (j : ℕ) (q r : List Float) → lt tinier (norm n (remains n a q j r).0) ≡ false → (qr_column n a j (q, r)).0 ≡ q
unfolding qr_column normalize new_column
faint_column_kept n a j q r h = rw h

-- a place among the first k holds +0.0 once they are wiped
wiped_zero : (k x : ℕ) (m : List Float) → x < k → k ≤ length m → at (wiped k m) x ≡ plus_zero
unfolding wiped zeros
wiped_zero k x m h l = get_or-append (zeros k) _ nan x (rw length-replicate h) ∙ get_or-replicate k x plus_zero nan h

-- place k of column i of Q
module _ (n k i : ℕ) (h : i < n) where
  -- another column does not touch it
  put_beside : (j : ℕ) (v : List Float) (d : Float) (q : List Float) → j < n → (j ≡ i → ⊥) → at (put_column n v j d q) (k * n + i) ≡ at q (k * n + i)
  unfolding put_column
  put_beside j v d q g f =
      keeps (λ (s : List Float). at s (k * n + i) ≡ at q (k * n + i)) 0 n (put_at n v j d)
      (λ t s l e. get_or-set_other s (t * n + j) (k * n + i) _ nan (λ p. another_column t k n j i f g h (sym p)) ∙ e)
      q (omega arith) refl

  column_beside : (a : List Float) (j : ℕ) (s : List Float × List Float) → j < n → (j ≡ i → ⊥) → at (qr_column n a j s).0 (k * n + i) ≡ at s.0 (k * n + i)
  unfolding qr_column normalize new_column
  column_beside a j s g f = go (remains n a s.0 j s.1).0 (lt tinier (norm n (remains n a s.0 j s.1).0))
    where
      go : (v : List Float) (b : Bool) → at (cond b (put_column n v j (norm n v) s.0) s.0) (k * n + i) ≡ at s.0 (k * n + i)
      go v true = put_beside j v (norm n v) s.0 g f
      go v false = refl

-- what is left of column i of a, after the columns before it
module _ (n : ℕ) (a q r : List Float) (i : ℕ) where
  abbrev start : List Float × List Float
  start = (wiped (n * n) q, wiped (n * n) r)

  abbrev before : List Float × List Float
  before = loop 0 i (qr_column n a) start

  abbrev pub left : List Float
  left = (remains n a before.0 i before.1).0

  module _ (h : i < n) (l : n * n ≤ length q) (faint : lt tinier (norm n left) ≡ false) (k : ℕ) (g : k < n) where
    abbrev Stands : ℕ → List Float × List Float → Type 0
    Stands j s = (j ≤ i → s ≡ loop 0 j (qr_column n a) start) × (at s.0 (k * n + i) ≡ plus_zero)

    zero_yet : (j : ℕ) (s : List Float × List Float) → j < n → Stands j s → at (qr_column n a j s).0 (k * n + i) ≡ plus_zero
    zero_yet j s u p = go (eqb j i) refl
      where
        here : (t : List Float × List Float) → t ≡ before → at t.0 (k * n + i) ≡ plus_zero → at (qr_column n a i t).0 (k * n + i) ≡ plus_zero
        here t e z = rw e (rw (faint_column_kept n a i before.0 before.1 faint) (rw e at z))

        go : (b : Bool) → eqb j i ≡ b → at (qr_column n a j s).0 (k * n + i) ≡ plus_zero
        go true e = let z = eqb-true j i e in rw z (here s (rw z at (p.0 (omega arith))) p.1)
        go false e = column_beside n k i h a j s u (eqb-false j i e) ∙ p.1

    pub faint_column_zero : at (qr_of n a (q, r)).0 (k * n + i) ≡ plus_zero
    unfolding qr_of qr_columns loop turns
    faint_column_zero =
        let e = row_end k n n g l in
        let f = row_end k n n {len = n * n} g (omega arith) in
        (walks (qr_column n a) Stands n
        (λ j s u p. (λ w. ap (qr_column n a j) (p.0 (omega arith)) ∙ sym (last_turn (qr_column n a) j start), zero_yet j s u p))
        0 start (omega arith) (λ w. refl, wiped_zero (n * n) (k * n + i) q (omega (arith, f)) l)).1
