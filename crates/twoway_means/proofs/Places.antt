-- Laws of the places of cells: where one begins and ends, and that the part between is the cell.
use mathlib.Core.Path.{◌≡◌, refl, sym, ap, ◌∙◌}
use mathlib.Core.Bool.{Bool, true, false, cond, false≢true}
use mathlib.Core.List.{List, []}
use Prim.Native.Nat.{ℕ, ◌+◌, ◌*◌, ◌-◌, ◌≤◌, ◌<◌}
use native.Mathlib.Omega.{arith}
use borrow.Author.Tests.{ltb-false, leb-true}
use lib.Dec.{ltb}
use lib.Ieee.{Float}
use lib.ListN.{length, get_or, take, drop, length-take, length-drop}
use lib.Seq.{length-take-le}
use Rattle.base.specs.Lists.{total, cut}
use Rattle.base.proofs.Bounds.{product_le}
use Rattle.base.proofs.Cuts.{cut_at, length_cut}
use Rattle.base.proofs.Sizes.{total_next}
use Rattle.twoway_cells.proofs.Starts.{starts_at, ends_within}
use Rattle.twoway_means.specs.Table.{table_fits}
use Rattle.twoway_means.specs.Inner.{Laid, Fitting}

either_false : (x : Bool) {y : Bool} → cond x false y ≡ true → (x ≡ false) × (y ≡ true)
either_false false e = (refl, e)
either_false true e = absurd (false≢true e)

-- how many cells there are
module _ (ns ss : List ℕ) (xs : List Float) {cs : List (List Float)} (e : cut ns xs ≡ cs) where
  pub as_many : length cs ≡ length ns
  as_many = sym (ap length e) ∙ length_cut ns xs

  pub not_many : Laid ns ss xs → length cs ≤ 36
  not_many l = omega (arith, as_many, l.few)

-- cell c of those that lie in xs
module _ (ns ss : List ℕ) (xs : List Float) (l : Laid ns ss xs) (c : ℕ) (h : c < length (cut ns xs)) where
  among : c < length ns
  among = rw length_cut at h

  start-is : get_or ss c 0 ≡ total (take c ns)
  start-is = rw l.starts (starts_at ns l.few (omega (arith, l.room, l.most)) c (omega (arith, among)))

  next-is : get_or ss (c + 1) 0 ≡ total (take c ns) + get_or ns c 0
  next-is = rw l.starts (starts_at ns l.few (omega (arith, l.room, l.most)) (c + 1) (omega (arith, among)) ∙ total_next ns c among)

  pub few : c < 36
  few = omega (arith, among, l.few)

  pub begins : get_or ss c 0 ≤ get_or ss (c + 1) 0
  begins = omega (arith, start-is, next-is)

  pub stays : get_or ss (c + 1) 0 ≤ length xs
  stays = omega (arith, next-is, ends_within ns c among, l.room)

  pub is_cell : take (get_or ss (c + 1) 0 - get_or ss c 0) (drop (get_or ss c 0) xs) ≡ get_or (cut ns xs) c []
  is_cell =
      let n : get_or ss (c + 1) 0 - get_or ss c 0 ≡ get_or ns c 0 = omega (arith, start-is, next-is) in
      rw (n, start-is, cut_at ns c xs among)

  pub short : length (take (get_or ss (c + 1) 0 - get_or ss c 0) (drop (get_or ss c 0) xs)) ≤ 512
  short = simp (length-take, length-drop) (omega (arith, l.most))

-- what a table that fits leaves known
pub fitting : (ns : List ℕ) (xs : List Float) (a b : ℕ) → table_fits ns xs a b ≡ true → Fitting ns xs a b
unfolding table_fits
fitting ns xs a b e =
    let p = either_false (ltb 6 a) e in
    let q = either_false (ltb 6 b) p.1 in
    let r = either_false (ltb 512 (length xs)) q.1 in
    let n = either_false (ltb (length ns) (a * b)) r.1 in
    record { counts = ltb-false (length ns) (a * b) n.0; rows = ltb-false 6 a p.0; columns = ltb-false 6 b q.0; most = ltb-false 512 (length xs) r.0; room = leb-true (total (take (a * b) ns)) (length xs) n.1 }

module _ (ns : List ℕ) (xs : List Float) (a b : ℕ) (f : Fitting ns xs a b) where
  pub few_cells : a * b ≤ 36
  few_cells = product_le 6 6 f.rows f.columns

  -- as many cells as rows by columns
  pub count-is : length (cut (take (a * b) ns) xs) ≡ a * b
  count-is = length_cut (take (a * b) ns) xs ∙ length-take-le (a * b) ns f.counts
