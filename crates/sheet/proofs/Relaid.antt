-- What the stores of an edit leave is all groups laid anew over places that were cleared. A group lies from `at` to `end`, and all readings lie before `used`.
use mathlib.Core.Path.{◌≡◌, sym, ap, ◌∙◌}
use mathlib.Core.List.{List, [], ◌∷◌, ◌++◌, append_assoc}
use Prim.Native.Nat.{ℕ, suc, ◌+◌, ◌-◌, ◌≤◌, ◌<◌}
use native.Mathlib.Omega.{arith}
use lib.Ieee.{Float}
use lib.ListN.{length, take, drop, set, replicate, take-append-drop, length-append, length-drop, length-set, length-replicate, replicate-append-replicate}
use lib.Seq.{take-add, drop-drop, take-take, take-set-le, drop-set-add, take-set-lt, drop-set-lt, take_at, drop_at, drop-append-add, length-take-le}
use Rattle.base.specs.Lists.{over}
use Rattle.float.specs.Words.{plus_zero}
use Rattle.base.specs.Inner.{inserted, deleted}

-- the places with the readings ys for the group
abbrev pub relaid : List Float → ℕ → ℕ → ℕ → List Float → List Float
relaid ps at end used ys = over (take at ps ++ (ys ++ take (used - end) (drop end ps))) (over (replicate used plus_zero) ps)

-- parts of the places that meet: up to j, from i to j, and from i over j to n
module _ (ps : List Float) (i j : ℕ) (l : i ≤ j) where
  past : drop (j - i) (drop i ps) ≡ drop j ps
  past =
      let e : i + (j - i) ≡ j = omega arith in
      drop-drop (j - i) i ps ∙ ap (λ (n : ℕ). drop n ps) e

  up_to : take j ps ≡ take i ps ++ take (j - i) (drop i ps)
  up_to =
      let e : j ≡ i + (j - i) = omega arith in
      ap (λ (n : ℕ). take n ps) e ∙ take-add i (j - i) ps

  meeting : (n : ℕ) → j ≤ n → take (n - i) (drop i ps) ≡ take (j - i) (drop i ps) ++ take (n - j) (drop j ps)
  meeting n m =
      let e : n - i ≡ j - i + (n - j) = omega arith in
      ap (λ (k : ℕ). take k (drop i ps)) e ∙ take-add (j - i) (n - j) (drop i ps) ∙ ap (λ (r : List Float). take (j - i) (drop i ps) ++ take (n - j) r) past

-- what is cleared and not laid over again: nothing, nothing and one place beyond, one place
module _ (w ps : List Float) (used : ℕ) where
  clear_same : length w ≡ used → over w (over (replicate used plus_zero) ps) ≡ w ++ drop used ps
  clear_same h = rw (length-replicate, h, drop_at (replicate used plus_zero) (drop used ps) used (length-replicate used plus_zero))

  clear_more : length w ≡ used + 1 → over w (over (replicate used plus_zero) ps) ≡ w ++ drop (used + 1) ps
  clear_more h =
      let e : drop (used + 1) (replicate used plus_zero ++ drop used ps) ≡ drop 1 (drop used ps)
      = rw length-replicate at (drop-append-add (replicate used plus_zero) (drop used ps) 1) in
      rw (length-replicate, h, e, drop-drop)

  clear_less : length w + 1 ≡ used → over w (over (replicate used plus_zero) ps) ≡ w ++ plus_zero ∷ drop used ps
  clear_less h =
      let r : replicate used plus_zero ≡ replicate (length w) plus_zero ++ (plus_zero ∷ [])
      = sym (ap (λ (k : ℕ). replicate k plus_zero) h) ∙ sym (replicate-append-replicate (length w) 1 plus_zero) in
      let e : drop (length w) (replicate (length w) plus_zero ++ (plus_zero ∷ drop used ps)) ≡ plus_zero ∷ drop used ps
      = drop_at (replicate (length w) plus_zero) (plus_zero ∷ drop used ps) (length w) (length-replicate (length w) plus_zero) in
      rw (length-replicate, r, append_assoc) (rw e)

module _ (ps : List Float) (at end used : ℕ) (l : at ≤ end) (m : end ≤ used) (u : used ≤ length ps) where
  -- the group's readings as they are
  abbrev own : List Float
  own = take (end - at) (drop at ps)

  own_length : length own ≡ end - at
  own_length = length-take-le (end - at) (drop at ps) (rw length-drop (omega arith))

  laid_length : (ys : List Float) → length (take at ps ++ (ys ++ take (used - end) (drop end ps))) ≡ at + (length ys + (used - end))
  laid_length ys = rw (length-append, length-append, length-take-le at ps (omega arith), length-take-le (used - end) (drop end ps) (rw length-drop (omega arith)))

  -- the group has the readings that were laid for it
  pub group_relaid : (ys : List Float) (k : ℕ) → length ys ≡ k → take k (drop at (relaid ps at end used ys)) ≡ ys
  group_relaid ys k e =
      let B : List Float = take (used - end) (drop end ps) in
      let Q : List Float = drop (length (take at ps ++ (ys ++ B))) (over (replicate used plus_zero) ps) in
      rw (append_assoc (take at ps) (ys ++ B) Q, drop_at (take at ps) ((ys ++ B) ++ Q) at (length-take-le at ps (omega arith)), append_assoc ys B Q, take_at ys (B ++ Q) k e)

  pub replaced : (k : ℕ) (x : Float) → k < end - at → set ps (at + k) x ≡ relaid ps at end used (set own k x)
  replaced k x h =
      let B : List Float = take (used - end) (drop end ps) in
      let n : length (take at ps ++ (set own k x ++ B)) ≡ used = laid_length (set own k x) ∙ rw (length-set, own_length) (omega arith) in
      let e0 : set ps (at + k) x ≡ take at ps ++ set (drop at ps) k x
      = sym (take-append-drop at (set ps (at + k) x)) ∙ rw (take-set-le at ps (at + k) x (omega arith), drop-set-add at ps k x) in
      let e1 : drop end ps ≡ B ++ drop used ps = sym (take-append-drop (used - end) (drop end ps)) ∙ rw (past ps end used m) in
      let e2 : set (drop at ps) k x ≡ set own k x ++ (B ++ drop used ps)
      = sym (take-append-drop (end - at) (set (drop at ps) k x))
      ∙ rw (take-set-lt (end - at) (drop at ps) k x h, drop-set-lt (end - at) (drop at ps) k x h, past ps at end l) (ap (λ (r : List Float). set own k x ++ r) e1) in
      e0 ∙ rw e2 (simp append_assoc) ∙ sym (clear_same (take at ps ++ (set own k x ++ B)) ps used n)

  pub appended : (x : Float) → inserted end used x ps ≡ relaid ps at end used (own ++ (x ∷ []))
  unfolding inserted
  appended x =
      let B : List Float = take (used - end) (drop end ps) in
      let c : used + 1 - end ≡ suc (used - end) = omega arith in
      let y : length (own ++ (x ∷ [])) ≡ end - at + 1 = length-append own (x ∷ []) ∙ rw own_length in
      let n : length (take at ps ++ ((own ++ (x ∷ [])) ++ B)) ≡ used + 1 = laid_length (own ++ (x ∷ [])) ∙ rw y (omega arith) in
      rw (c, up_to ps at end l) (simp append_assoc) ∙ sym (clear_more (take at ps ++ ((own ++ (x ∷ [])) ++ B)) ps used n)

  pub removed : (k : ℕ) → k < end - at → deleted (at + k) used plus_zero ps ≡ relaid ps at end used (take k own ++ drop (suc k) own)
  unfolding deleted
  removed k h =
      let j : ℕ = at + k + 1 in
      let B : List Float = take (used - end) (drop end ps) in
      let c : j - at ≡ suc k = omega arith in
      let first : take k own ≡ take k (drop at ps) = take-take k (end - at) (drop at ps) (omega arith) in
      let rest : drop (suc k) own ≡ take (end - j) (drop j ps)
      = rw (meeting ps at j (omega arith) end (omega arith), c) (drop_at (take (suc k) (drop at ps)) (take (end - j) (drop j ps)) (suc k) (length-take-le (suc k) (drop at ps) (rw length-drop (omega arith)))) in
      let w : List Float = take at ps ++ ((take k own ++ drop (suc k) own) ++ B) in
      let y : length (take k own ++ drop (suc k) own) + 1 ≡ end - at
      = rw (length-append, length-take-le k own (rw own_length (omega arith)), length-drop, own_length) (omega arith) in
      let n : length w + 1 ≡ used = rw (laid_length (take k own ++ drop (suc k) own)) (omega arith) in
      rw (take-add at k ps, meeting ps j end (omega arith) used m, ← first, ← rest) (simp append_assoc) ∙ sym (clear_less w ps used n)
