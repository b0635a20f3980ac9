-- Parts of the lent memory: what a change of one leaves of it and of the others.
use Prim.Native.Nat.{ℕ, zero, suc, ◌+◌, ◌-◌, ◌≤◌, ◌<◌}
use mathlib.Core.Path.{◌≡◌, refl, sym, ◌∙◌, ap}
use mathlib.Core.List.{List, [], ◌∷◌, ◌++◌, append_assoc}
use native.Mathlib.Omega.{arith}
use lib.ListN.{length, take, drop, get_or, length-append, length-take, length-drop}
use lib.Seq.{take_at, drop_at, drop-drop, take-take, take-append-le, drop-append-le, take-add, length-take-le, get_or-take, get_or-drop}
use Rattle.std.proofs.Common.{take-append-drop}
use Rattle.base.specs.Lists.{part, over, within}

module _ {A : Type 0} where
  pub length_part : (a k : ℕ) (s : List A) → a + k ≤ length s → length (part a k s) ≡ k
  unfolding part
  length_part a k s h = simp (length-take, length-drop) (omega arith)

  -- its place i
  pub part_at : (a k : ℕ) (s : List A) (d : A) (i : ℕ) → i < k → get_or (part a k s) i d ≡ get_or s (a + i) d
  unfolding part
  part_at a k s d i h = get_or-take k (drop a s) i d h ∙ get_or-drop a s i d

  taken_drop : (a k t : ℕ) (s : List A) → a + k ≤ t → take k (drop a s) ≡ take k (drop a (take t s))
  taken_drop zero k t s h = sym (take-take k t s (omega arith))
  taken_drop (suc a) k zero s h = absurd (omega arith)
  taken_drop (suc a) k (suc t) [] h = refl
  taken_drop (suc a) k (suc t) (x ∷ s) h = taken_drop a k t s (omega arith)

  -- a part of the first t places
  pub part_of_taken : (a k t : ℕ) (r s : List A) → a + k ≤ t → take t r ≡ take t s → part a k r ≡ part a k s
  unfolding part
  part_of_taken a k t r s h e = taken_drop a k t r h ∙ ap (λ (z : List A). take k (drop a z)) e ∙ sym (taken_drop a k t s h)

  -- a part of a part
  pub part_part : (a k o l : ℕ) (s : List A) → a + k ≤ l → part a k (part o l s) ≡ part (o + a) k s
  unfolding part
  part_part a k o l s h = sym (taken_drop a k l (drop o s) h) ∙ ap (take k) (drop-drop a o s)

  -- x has taken the place of the part
  module _ (a k : ℕ) (x s : List A) (fits : a + k ≤ length s) (same : length x ≡ k) where
    pub laid_length : length (take a s ++ (x ++ drop k (drop a s))) ≡ length s
    laid_length = simp (length-append, length-take, length-drop, same) (omega arith)

    pub laid_same : part a k (take a s ++ (x ++ drop k (drop a s))) ≡ x
    unfolding part
    laid_same =
        let h : length (take a s) ≡ a = length-take-le a s (omega arith) in
        rw (drop_at (take a s) (x ++ drop k (drop a s)) a h) (take_at _ _ k same)

    pub laid_taken : (t : ℕ) → t ≤ a → take t (take a s ++ (x ++ drop k (drop a s))) ≡ take t s
    laid_taken t h =
        let n : length (take a s) ≡ a = length-take-le a s (omega arith) in
        take-append-le t (take a s) _ (omega arith) ∙ take-take t a s h

    pub laid_before : (b l : ℕ) → b + l ≤ a → part b l (take a s ++ (x ++ drop k (drop a s))) ≡ part b l s
    laid_before b l h = part_of_taken b l a _ s h (laid_taken a (omega arith))

    pub laid_dropped : (b : ℕ) → a + k ≤ b → drop b (take a s ++ (x ++ drop k (drop a s))) ≡ drop b s
    laid_dropped b h =
        let n : length (take a s) ≡ a = length-take-le a s (omega arith) in
        let w : b ≡ a + (k + (b - (a + k))) = omega arith in
        let y = drop k (drop a s) in
        ap (λ (z : ℕ). drop z (take a s ++ (x ++ y))) w
        ∙ sym (drop-drop (k + (b - (a + k))) a (take a s ++ (x ++ y)))
        ∙ ap (λ (z : List A). drop (k + (b - (a + k))) z) (drop_at (take a s) (x ++ y) a n)
        ∙ sym (drop-drop (b - (a + k)) k (x ++ y))
        ∙ ap (λ (z : List A). drop (b - (a + k)) z) (drop_at x y k same)
        ∙ drop-drop (b - (a + k)) k (drop a s)
        ∙ drop-drop (k + (b - (a + k))) a s
        ∙ ap (λ (z : ℕ). drop z s) (sym w)

    pub laid_after : (b l : ℕ) → a + k ≤ b → part b l (take a s ++ (x ++ drop k (drop a s))) ≡ part b l s
    unfolding part
    laid_after b l h = ap (take l) (laid_dropped b h)

  -- s has x in its first z places, and from there to r and from r + n on what t has: with y in the n places from r on, it is x over t with y in those places
  pub laid_over : (z r n : ℕ) (x y s t : List A) → z ≤ r → r ≤ length t → length x ≡ z → part 0 z s ≡ x → part z (r - z) s ≡ part z (r - z) t → drop (r + n) s ≡ drop (r + n) t
      → take r s ++ (y ++ drop n (drop r s)) ≡ over x (within r n (λ _. y) t)
  unfolding part within
  laid_over z r n x y s t h k l front amid behind =
      ap (λ (w : List A). w ++ (y ++ drop n (drop r s))) (split s ∙ ap (λ (w : List A). w ++ take (r - z) (drop z s)) front ∙ ap (λ (w : List A). x ++ w) amid)
      ∙ ap (λ (w : List A). x ++ m ++ (y ++ w)) (drop-drop n r s ∙ behind ∙ sym (drop-drop n r t))
      ∙ append_assoc x m rest
      ∙ ap (λ (w : List A). x ++ w) (sym below)
    where
      split : (w : List A) → take r w ≡ take z w ++ take (r - z) (drop z w)
      split w = let e : z + (r - z) ≡ r = omega arith in ap (λ (i : ℕ). take i w) (sym e) ∙ take-add z (r - z) w

      -- what t has from z to r, and from r on where y has come
      m : List A
      m = take (r - z) (drop z t)

      rest : List A
      rest = y ++ drop n (drop r t)

      long : length (take r t) ≡ r
      long = length-take-le r t k

      below : drop (length x) (take r t ++ rest) ≡ m ++ rest
      below =
          ap (λ (i : ℕ). drop i (take r t ++ rest)) l
          ∙ drop-append-le z (take r t) rest (omega (arith, long))
          ∙ ap (λ (w : List A). drop z w ++ rest) (split t)
          ∙ ap (λ (w : List A). w ++ rest) (drop_at (take z t) m z (length-take-le z t (omega arith)))

  -- a change of a part of the first t places is that change of the whole
  pub laid_first : (a k t : ℕ) (x s : List A) → a + k ≤ t → t ≤ length s → (take a (take t s) ++ (x ++ drop k (drop a (take t s)))) ++ drop t s ≡ take a s ++ (x ++ drop k (drop a s))
  laid_first a k t x s h l =
      let behind : drop k (drop a (take t s)) ++ drop t s ≡ drop k (drop a s) =
      ap (λ (z : List A). z ++ drop t s) (drop-drop k a (take t s)) ∙ sym (drop-append-le (a + k) (take t s) (drop t s) (omega (arith, length-take-le t s l))) ∙ ap (drop (a + k)) (take-append-drop t s) ∙ sym (drop-drop k a s) in
      append_assoc (take a (take t s)) (x ++ drop k (drop a (take t s))) (drop t s)
      ∙ ap (λ (z : List A). z ++ ((x ++ drop k (drop a (take t s))) ++ drop t s)) (take-take a t s (omega (arith, h)))
      ∙ ap (λ (z : List A). take a s ++ z) (append_assoc x (drop k (drop a (take t s))) (drop t s) ∙ ap (λ (z : List A). x ++ z) behind)
