-- Laws of `copy_within` where it moves a part by one place: with the store beside it, it puts an element in, or takes one out.
use mathlib.Core.Path.{◌≡◌, sym, ap, ◌∙◌}
use mathlib.Core.List.{List, ◌∷◌, ◌++◌, append_assoc}
use Prim.Native.Nat.{ℕ, suc, ◌+◌, ◌-◌, ◌<◌, ◌≤◌}
use native.Mathlib.Omega.{arith}
use lib.ListN.{length, take, drop, set, take-append-drop, length-drop}
use lib.Seq.{paste, take-take, take_at, drop_at, drop-drop, set_split, length-take-le, take-paste, drop-paste, length-paste}
use Rattle.base.specs.Inner.{inserted, deleted}

module _ {A : Type 0} (ps : List A) (at : ℕ) (s : List A) (n : ℕ) (l : at ≤ length ps) (m : n ≤ length s) where
  pasted : paste ps at s n ≡ take at ps ++ (take n s ++ drop (at + n) ps)
  pasted = sym (take-append-drop (at + n) (paste ps at s n)) ∙ rw (take-paste ps at s n l m, drop-paste ps at s n l m) (append_assoc (take at ps) (take n s) (drop (at + n) ps))

module _ {A : Type 0} (ps : List A) (at end : ℕ) where
  pub moved_up : (x : A) → at ≤ end → end < length ps → set (paste ps (at + 1) (drop at ps) (end - at)) at x ≡ inserted at end x ps
  unfolding inserted
  moved_up x l u =
      let P : List A = paste ps (at + 1) (drop at ps) (end - at) in
      let R : List A = take (end - at) (drop at ps) ++ drop (at + 1 + (end - at)) ps in
      let e : P ≡ take (at + 1) ps ++ R = pasted ps (at + 1) (drop at ps) (end - at) (omega arith) (rw length-drop (omega arith)) in
      let k : length (take (at + 1) ps) ≡ at + 1 = length-take-le (at + 1) ps (omega arith) in
      let front : take at P ≡ take at ps = sym (take-take at (at + 1) P (omega arith)) ∙ ap (take at) (rw e (take_at (take (at + 1) ps) R (at + 1) k)) ∙ take-take at (at + 1) ps (omega arith) in
      let s : at + 1 ≡ suc at = omega arith in
      let back : drop (suc at) P ≡ R = rw (← s, e) (drop_at (take (at + 1) ps) R (at + 1) k) in
      let q : at + 1 + (end - at) ≡ end + 1 = omega arith in
      let c : end + 1 - at ≡ suc (end - at) = omega arith in
      set_split P at x (rw (length-paste ps (at + 1) (drop at ps) (end - at) (omega arith) (rw length-drop (omega arith))) (omega arith)) ∙ rw (front, back, q, c)

  pub moved_down : (z : A) → at < end → end ≤ length ps → set (paste ps at (drop (at + 1) ps) (end - (at + 1))) (end - 1) z ≡ deleted at end z ps
  unfolding deleted
  moved_down z l u =
      let n : ℕ = end - (at + 1) in
      let P : List A = paste ps at (drop (at + 1) ps) n in
      let j : end - 1 ≡ at + n = omega arith in
      let m : n ≤ length (drop (at + 1) ps) = rw length-drop (omega arith) in
      let front : take (at + n) P ≡ take at ps ++ take n (drop (at + 1) ps) = take-paste ps at (drop (at + 1) ps) n (omega arith) m in
      let back : drop (suc (at + n)) P ≡ drop end ps =
      let f : suc (at + n) ≡ at + n + 1 = omega arith in
      let g : at + n + 1 ≡ end = omega arith in
      rw f (sym (drop-drop 1 (at + n) P) ∙ ap (drop 1) (drop-paste ps at (drop (at + 1) ps) n (omega arith) m) ∙ drop-drop 1 (at + n) ps ∙ ap (λ (i : ℕ). drop i ps) g) in
      rw j (set_split P (at + n) z (rw (length-paste ps at (drop (at + 1) ps) n (omega arith) m) (omega arith)) ∙ rw (front, back) (append_assoc (take at ps) (take n (drop (at + 1) ps)) (z ∷ drop end ps)))
