-- Laws of numbers laid over lent places.
use mathlib.Core.Path.{◌≡◌, ◌∙◌}
use mathlib.Core.List.{List, ◌++◌, append_assoc, append-nil}
use Prim.Native.Nat.{ℕ, ◌+◌, ◌-◌, ◌≤◌}
use native.Mathlib.Omega.{arith}
use borrow.Author.Tests.{eq-eqb, ne_eqb}
use lib.Ieee.{Float}
use lib.ListN.{length, take, drop, length-append, length-drop, drop_of_length-le}
use lib.Seq.{take_at, drop_at, drop-drop, take_all}
use Rattle.base.specs.Lists.{over}
use Rattle.lent.specs.Laying.{laid}
use Rattle.lent.proofs.Lays.{laid_room}
use Rattle.results.specs.declared.OneWayAnovaResult.{OneWayAnovaResult}
use Rattle.speed_oneway.specs.Calls.{numbers_of, handed}

-- one list over all of the places, and then another over those from k on
pub laid_both : (front behind out s t : List Float) (k : ℕ) → length front ≡ k → k + length behind ≤ length out → s ≡ laid front out → t ≡ laid behind (take (length s - k) (drop k s))
    → take k s ++ (t ++ drop (length s - k) (drop k s)) ≡ over (front ++ behind) out
laid_both front behind out s t k e l u v =
    let p : s ≡ over front out = u ∙ laid_room front out (omega arith) in
    let n : length s ≡ length out = rw p (simp (length-append, length-drop) (omega arith)) in
    let rest : drop k s ≡ drop k out = rw (p, e) (drop_at front (drop k out) k e) in
    let all : length (drop k s) ≤ length s - k = rw length-drop (omega arith) in
    let q : t ≡ over behind (take (length s - k) (drop k s)) = v ∙ laid_room behind _ (rw (take_all _ _ all, length-drop) (omega arith)) in
    rw (q, take_all _ _ all, drop_of_length-le (drop k s) all, append-nil, rest, drop-drop, p, e, take_at front _ k e, length-append, e, append_assoc)

-- an analysis that is accepted hands out its numbers
pub accepted : (r : OneWayAnovaResult) (out s : List Float) → r.refusal.number ≡ 0 → s ≡ over (numbers_of r) out → (s, 0) ≡ handed r out
unfolding handed
accepted r out s z p = rw (eq-eqb r.refusal.number 0 z, p)

-- and one that is refused its refusal's number
pub refused : (r : OneWayAnovaResult) (out : List Float) → (r.refusal.number ≡ 0 → ⊥) → (out, r.refusal.number) ≡ handed r out
unfolding handed
refused r out n = rw (ne_eqb r.refusal.number 0 n)
