-- Laws of the sort. After i readings, each cell's part of the scratch holds those of them that are in the cell, and its next free place is behind them.
use mathlib.Core.Path.{◌≡◌, refl, sym, ap, ◌∙◌}
use mathlib.Core.Bool.{Bool, true, false, cond}
use mathlib.Core.List.{List, [], ◌∷◌, ◌++◌, append-nil, flatten}
use Prim.Native.Nat.{ℕ, suc, ◌+◌, ◌-◌, ◌≤◌, ◌<◌}
use native.Mathlib.Numerals.{add-one}
use native.Mathlib.Omega.{arith}
use borrow.Author.Tests.{eqb-true, eqb-false, eq-eqb, ne_eqb, ltb-true, ltb-false}
use lib.Dec.{eqb, ltb}
use lib.Ieee.{Float, nan}
use lib.ListN.{length, get_or, take, drop, set, length-set, length-append, length-drop, take-append-drop}
use lib.Seq.{get_or-set_same, get_or-set_other, take-set-le, drop-set-lt, drop-set-add, take-suc-set, take-suc, take_all, length-take-le, ext_get_or}
use Rattle.base.specs.Lists.{total, cut, over}
use Rattle.base.proofs.Cuts.{cut_at, length_cut, flatten_cut}
use Rattle.twoway_checks.specs.Inner.{keyed, sorted, tally}
use Rattle.twoway_checks.proofs.Keys.{Below}
use Rattle.twoway_checks.proofs.Tallies.{length_tally, total_tally, tally_at, sorted_at, length_sorted}
use Rattle.twoway_cells.specs.Starts.{starts_of}
use Rattle.twoway_cells.proofs.Starts.{starts_length, starts_at, ends_within, ends_before}

pub keyed_append : (c : ℕ) (ks js : List ℕ) (xs ys : List Float) → length ks ≡ length xs → keyed c (ks ++ js) (xs ++ ys) ≡ keyed c ks xs ++ keyed c js ys
unfolding keyed
keyed_append c [] js [] ys e = refl
keyed_append c [] js (x ∷ xs) ys e = absurd (omega arith)
keyed_append c (k ∷ ks) js [] ys e = absurd (omega arith)
keyed_append c (k ∷ ks) js (x ∷ xs) ys e = rw (keyed_append c ks js xs ys (omega arith)) (go (eqb k c))
  where
    go : (t : Bool) → cond t (x ∷ keyed c ks xs ++ keyed c js ys) (keyed c ks xs ++ keyed c js ys) ≡ cond t (x ∷ keyed c ks xs) (keyed c ks xs) ++ keyed c js ys
    go true = refl
    go false = refl

-- the readings of cell c among the first i, and where the cell begins
abbrev pub laid : List ℕ → List Float → ℕ → ℕ → List Float
laid ks xs i c = keyed c (take i ks) (take i xs)

abbrev pub start : List ℕ → ℕ → ℕ
start ks c = total (take c (tally ks))

-- what a set at place p leaves of the k places from a on
module _ (s : List Float) (p a k : ℕ) (x : Float) where
  pub part_kept_before : p < a → take k (drop a (set s p x)) ≡ take k (drop a s)
  part_kept_before h = rw (drop-set-lt a s p x h)

  pub part_kept_behind : a + k ≤ p → take k (drop a (set s p x)) ≡ take k (drop a s)
  part_kept_behind h =
      let e : p ≡ a + (p - a) = omega arith in
      ap (λ (q : ℕ). take k (drop a (set s q x))) e ∙ rw (drop-set-add a s (p - a) x, take-set-le k (drop a s) (p - a) x (omega arith))

  pub part_grown : p ≡ a + k → p < length s → take (suc k) (drop a (set s p x)) ≡ take k (drop a s) ++ (x ∷ [])
  part_grown e h =
      let m : k < length (drop a s) = rw length-drop (omega arith) in
      rw (e, drop-set-add a s k x) (take-suc-set (drop a s) k x m)

module _ (ks : List ℕ) (xs : List Float) (same : length ks ≡ length xs) (i : ℕ) where
  module _ (h : i < length xs) where
    laid_next : (c : ℕ) → laid ks xs (i + 1) c ≡ laid ks xs i c ++ keyed c (get_or ks i 0 ∷ []) (get_or xs i nan ∷ [])
    laid_next c =
        let l : length (take i ks) ≡ length (take i xs) = length-take-le i ks (omega arith) ∙ sym (length-take-le i xs (omega arith)) in
        rw (add-one, take-suc ks i 0 (omega arith), take-suc xs i nan h) (keyed_append c (take i ks) (get_or ks i 0 ∷ []) (take i xs) (get_or xs i nan ∷ []) l)

    laid_here : (c : ℕ) → get_or ks i 0 ≡ c → laid ks xs (i + 1) c ≡ laid ks xs i c ++ (get_or xs i nan ∷ [])
    unfolding keyed
    laid_here c e = laid_next c ∙ rw (eq-eqb (get_or ks i 0) c e)

    laid_other : (c : ℕ) → (get_or ks i 0 ≡ c → ⊥) → laid ks xs (i + 1) c ≡ laid ks xs i c
    unfolding keyed
    laid_other c n = laid_next c ∙ rw (ne_eqb (get_or ks i 0) c n, append-nil)

  -- never more than the cell will have
  laid_le : (c : ℕ) → i ≤ length xs → length (laid ks xs i c) ≤ length (keyed c ks xs)
  laid_le c h =
      let l : length (take i ks) ≡ length (take i xs) = length-take-le i ks (omega arith) ∙ sym (length-take-le i xs (omega arith)) in
      let e = keyed_append c (take i ks) (drop i ks) (take i xs) (drop i xs) l in
      let f : keyed c ks xs ≡ laid ks xs i c ++ keyed c (drop i ks) (drop i xs) = rw (take-append-drop i ks, take-append-drop i xs) at e in
      omega (arith, simp length-append at (ap length f))

-- i readings of xs, whose keys are ks, are laid into a scratch that was s₀: it is s now, and `next` has the free places
pub record Placed (ks : List ℕ) (xs s₀ s : List Float) (next : List ℕ) (i : ℕ) : Type 0 where
  pub places : length s ≡ length s₀
  pub nexts : length next ≡ 37
  pub free : (c : ℕ) → c < 36 → get_or next c 0 ≡ start ks c + length (laid ks xs i c)
  pub held : (c : ℕ) → c < 36 → take (length (laid ks xs i c)) (drop (start ks c) s) ≡ laid ks xs i c
  pub beyond : drop (length xs) s ≡ drop (length xs) s₀

module _ (ks : List ℕ) (xs s₀ : List Float) (same : length ks ≡ length xs) (below : Below 36 ks) (room : length xs ≤ length s₀) where
  pub placed_none : length xs ≤ 512 → Placed ks xs s₀ s₀ (starts_of (tally ks)) 0
  unfolding keyed
  placed_none most =
      let few : length (tally ks) ≤ 36 = omega (arith, length_tally ks) in
      let fits : total (tally ks) ≤ 512 = omega (arith, total_tally ks below) in
      record {
        places = refl;
        nexts = starts_length (tally ks) few fits;
        free = λ c h. starts_at (tally ks) few fits c (omega (arith, length_tally ks)) ∙ omega arith;
        held = λ c h. refl;
        beyond = refl;
      }

  -- where a cell ends: within the readings, and before a later cell begins
  cell_within : (c : ℕ) → c < 36 → start ks c + length (keyed c ks xs) ≤ length xs
  cell_within c h = omega (arith, ends_within (tally ks) c (rw (length_tally ks) h), tally_at ks below xs same c h, total_tally ks below)

  cell_before : (c d : ℕ) → c < 36 → c < d → start ks c + length (keyed c ks xs) ≤ start ks d
  cell_before c d h l = omega (arith, ends_before (tally ks) c (rw (length_tally ks) h) d l, tally_at ks below xs same c h)

  module _ (s : List Float) (next : List ℕ) (i : ℕ) (now : Placed ks xs s₀ s next i) (h : i < length xs) (k : ℕ) (e : k ≡ get_or ks i 0) where
    small : k < 36
    small = rw e (below i (omega arith))

    -- the reading's place is free: the cell is not full yet
    grows : length (laid ks xs i k) < length (keyed k ks xs)
    grows =
        let f = ap length (laid_here ks xs same i h k (sym e)) in
        omega (arith, simp length-append at f, laid_le ks xs same (i + 1) k (omega arith))

    pub place_within : get_or next k 0 < length xs
    place_within = omega (arith, now.free k small, grows, cell_within k small)

    next_free : (c : ℕ) → c < 36 → get_or (set next k (get_or next k 0 + 1)) c 0 ≡ start ks c + length (laid ks xs (i + 1) c)
    next_free c l = go (eqb k c) refl
      where
        go : (t : Bool) → eqb k c ≡ t → get_or (set next k (get_or next k 0 + 1)) c 0 ≡ start ks c + length (laid ks xs (i + 1) c)
        go true p =
            let q : k ≡ c = eqb-true k c p in
            let f = ap length (laid_here ks xs same i h k (sym e)) in
            rw (← q, get_or-set_same next k (get_or next k 0 + 1) 0 (omega (arith, now.nexts, small))) (omega (arith, now.free k small, simp length-append at f))
        go false p =
            let n : k ≡ c → ⊥ = eqb-false k c p in
            rw (get_or-set_other next k c (get_or next k 0 + 1) 0 (λ q. n (sym q)), laid_other ks xs same i h c (λ q. n (e ∙ q))) (now.free c l)

    module _ (c : ℕ) (l : c < 36) where
      kept : (k ≡ c → ⊥) → take (length (laid ks xs i c)) (drop (start ks c) (set s (get_or next k 0) (get_or xs i nan))) ≡ laid ks xs i c
      kept n = go (ltb c k) refl ∙ now.held c l
        where
          go : (t : Bool) → ltb c k ≡ t → take (length (laid ks xs i c)) (drop (start ks c) (set s (get_or next k 0) (get_or xs i nan))) ≡ take (length (laid ks xs i c)) (drop (start ks c) s)
          go true p =
              part_kept_behind s (get_or next k 0) (start ks c) (length (laid ks xs i c)) (get_or xs i nan)
              (omega (arith, now.free k small, laid_le ks xs same i c (omega arith), cell_before c k l (ltb-true c k p)))
          go false p =
              let m : k < c = omega (arith, ltb-false c k p) in
              part_kept_before s (get_or next k 0) (start ks c) (length (laid ks xs i c)) (get_or xs i nan) (omega (arith, now.free k small, grows, cell_before k c small m))

      next_held : take (length (laid ks xs (i + 1) c)) (drop (start ks c) (set s (get_or next k 0) (get_or xs i nan))) ≡ laid ks xs (i + 1) c
      next_held = go (eqb k c) refl
        where
          go : (t : Bool) → eqb k c ≡ t → take (length (laid ks xs (i + 1) c)) (drop (start ks c) (set s (get_or next k 0) (get_or xs i nan))) ≡ laid ks xs (i + 1) c
          go true p =
              let q : k ≡ c = eqb-true k c p in
              let g = laid_here ks xs same i h c (sym e ∙ q) in
              let n : length (laid ks xs i c ++ (get_or xs i nan ∷ [])) ≡ suc (length (laid ks xs i c)) = simp length-append (omega arith) in
              let f : get_or next k 0 ≡ start ks c + length (laid ks xs i c) = rw (← q) (now.free k small) in
              let r : get_or next k 0 < length s = omega (arith, place_within, now.places) in
              rw (g, n) (part_grown s (get_or next k 0) (start ks c) (length (laid ks xs i c)) (get_or xs i nan) f r ∙ ap (λ (t : List Float). t ++ (get_or xs i nan ∷ [])) (now.held c l))
          go false p =
              let n : k ≡ c → ⊥ = eqb-false k c p in
              rw (laid_other ks xs same i h c (λ q. n (e ∙ q))) (kept n)

    pub placed_one : Placed ks xs s₀ (set s (get_or next k 0) (get_or xs i nan)) (set next k (get_or next k 0 + 1)) (i + 1)
    placed_one =
        record {
          places = length-set s (get_or next k 0) (get_or xs i nan) ∙ now.places;
          nexts = length-set next k (get_or next k 0 + 1) ∙ now.nexts;
          free = next_free;
          held = next_held;
          beyond = drop-set-lt (length xs) s (get_or next k 0) (get_or xs i nan) place_within ∙ now.beyond;
        }

  -- all readings are laid: each cell's part is the cell
  module _ (s : List Float) (next : List ℕ) (i : ℕ) (now : Placed ks xs s₀ s next i) (h : length xs ≤ i) where
    cut_sorted : cut (tally ks) s ≡ sorted ks xs
    cut_sorted = ext_get_or [] (cut (tally ks) s) (sorted ks xs) (length_cut (tally ks) s ∙ length_tally ks ∙ sym (length_sorted ks below xs same)) at
      where
        full : (c : ℕ) → laid ks xs i c ≡ keyed c ks xs
        full c = rw (take_all i ks (omega arith), take_all i xs h)

        at : (c : ℕ) → c < length (cut (tally ks) s) → get_or (cut (tally ks) s) c [] ≡ get_or (sorted ks xs) c []
        at c l =
            let t : c < length (tally ks) = rw (length_cut (tally ks) s) at l in
            let k : c < 36 = rw (length_tally ks) at t in
            let g : take (length (keyed c ks xs)) (drop (start ks c) s) ≡ keyed c ks xs = rw (full c) at (now.held c k) in
            cut_at (tally ks) c s t ∙ rw (tally_at ks below xs same c k) g ∙ sym (sorted_at ks below xs same c k)

    front : take (length xs) s ≡ flatten (sorted ks xs)
    front =
        let t : total (tally ks) ≡ length xs = total_tally ks below ∙ same in
        rw (← t, ← cut_sorted) (sym (flatten_cut (tally ks) s))

    -- so the readings lie cell by cell over the first places
    pub placed_all : s ≡ over (flatten (sorted ks xs)) s₀
    placed_all =
        let n : length (flatten (sorted ks xs)) ≡ length xs = sym (ap length front) ∙ length-take-le (length xs) s (omega (arith, now.places)) in
        sym (take-append-drop (length xs) s) ∙ rw (front, now.beyond, n)
