-- Laws of distances: they lie as the readings do, and the walk that puts them, and their rows, in their places, group by group.
use mathlib.Core.Path.{◌≡◌, refl, sym, ap, ◌∙◌}
use mathlib.Core.Bool.{false}
use mathlib.Core.List.{List, [], ◌∷◌, ◌++◌, map, flatten}
use Prim.Native.Nat.{ℕ, ◌+◌, ◌-◌, ◌<◌, ◌≤◌}
use native.Mathlib.Nat.{add-sub_cancel_left}
use native.Mathlib.Numerals.{add-one}
use native.Mathlib.Omega.{arith}
use lib.Ieee.{Float}
use lib.ListN.{length, get_or, take, drop, set, drop_of_length-le, length-map}
use lib.Seq.{drop-cons, drop-drop, sets, length-sets, take_at, drop_at, length-take-le}
use Rattle.base.specs.Lists.{total, cut, over}
use Rattle.base.proofs.Cuts.{length_cut, lengths_cut, own_cut, total_flatten}
use Rattle.base.proofs.Parts.{length_part}
use Rattle.base.proofs.Runs.{over_all, part_put, sets_append, sets_over}
use Rattle.oneway_rows.specs.declared.Row.{Row}
use Rattle.oneway_rows.specs.Rows.{row_of, row_answer}
use Rattle.oneway_rows.specs.Soundness.{some_outside}
use Rattle.oneway_rows.proofs.Counted.{unread}
use Rattle.oneway_rows.proofs.Laid.{each_group, row_there}
use Rattle.oneway.specs.Summary.{size_of, row_mean}
use Rattle.oneway.specs.Levene.{distance, distances, distances_of, fisher_of, levene_anova}

-- the means and the sizes that rows hold
pub levene_of : (rs : List Row) (xs : List Float) {ms : List Float} {ns : List ℕ} → ms ≡ map row_mean rs → ns ≡ map size_of rs → fisher_of (distances ms (cut ns xs)) ≡ levene_anova rs xs
unfolding levene_anova
levene_of rs xs e f = rw (e, f)

-- each group has as many distances as readings
lengths_kept : (ms : List Float) (gs : List (List Float)) → length ms ≡ length gs → map length (distances ms gs) ≡ map length gs
unfolding distances
lengths_kept [] [] e = refl
lengths_kept [] (g ∷ gs) e = absurd (omega arith)
lengths_kept (m ∷ ms) [] e = absurd (omega arith)
lengths_kept (m ∷ ms) (g ∷ gs) e = rw (length-map, lengths_kept ms gs (omega arith))

-- readings xs in the groups that the rows rs tell of
module _ (rs : List Row) (xs : List Float) where
  module _ (adds : total (map size_of rs) ≡ length xs) where
    pub sizes_kept : map length (distances_of rs xs) ≡ map size_of rs
    sizes_kept =
        let e : length (map row_mean rs) ≡ length (map size_of rs) = length-map rs row_mean ∙ sym (length-map rs size_of) in
        lengths_kept (map row_mean rs) (cut (map size_of rs) xs) (e ∙ sym (length_cut (map size_of rs) xs)) ∙ lengths_cut (map size_of rs) xs (omega arith)

    pub far_count : length (distances_of rs xs) ≡ length rs
    far_count = sym (length-map (distances_of rs xs) length) ∙ (ap length sizes_kept ∙ length-map rs size_of)

    far_length : length (flatten (distances_of rs xs)) ≡ length xs
    far_length = sym (total_flatten (distances_of rs xs)) ∙ ap total sizes_kept ∙ adds

    far_cut : cut (map size_of rs) (flatten (distances_of rs xs)) ≡ distances_of rs xs
    far_cut = ap (λ (sizes : List ℕ). cut sizes (flatten (distances_of rs xs))) (sym sizes_kept) ∙ own_cut (distances_of rs xs)

    -- as many in each as one-way accepts: their rows are worked out
    pub far_rows : length xs ≤ 512 → some_outside (map size_of rs) ≡ false → map row_answer (distances_of rs xs) ≡ map row_of (distances_of rs xs)
    far_rows u each =
        let l = far_length in
        rw far_cut at (each_group row_answer row_of row_there (map size_of rs) (flatten (distances_of rs xs)) (omega (arith, l, adds)) (omega (arith, l)) each)

    -- the places in which they were put; `back` is what lies behind them
    pub put_front : {out : List Float} → out ≡ flatten (distances_of rs xs) → (back : List Float) → take (length xs) (out ++ back) ≡ flatten (distances_of rs xs)
    put_front {out} put back = take_at out back _ (ap length put ∙ far_length) ∙ put

  -- what is still to be put from group g on, whose readings begin at `at`: the distances, and the rows of them
  abbrev pub left : ℕ → ℕ → List (List Float)
  left g at = distances_of (drop g rs) (drop at xs)

  abbrev pub putting : ℕ → ℕ → List Float → List Float
  putting g at out = sets out at (flatten (left g at))

  abbrev pub rowing : ℕ → ℕ → List Row → List Row
  rowing g at far = sets far g (map row_answer (left g at))

  module _ (adds : total (map size_of rs) ≡ length xs) where
    pub putting_starts : (out : List Float) → length out ≡ length xs → putting 0 0 out ≡ flatten (distances_of rs xs)
    putting_starts out l =
        let f = far_length adds in
        sets_over (flatten (distances_of rs xs)) out (omega arith) ∙ over_all (flatten (distances_of rs xs)) out (omega arith)

    pub rowing_starts : (far : List Row) → length rs ≤ length far → rowing 0 0 far ≡ over (map row_answer (distances_of rs xs)) far
    rowing_starts far l = let k = far_count adds in sets_over (map row_answer (distances_of rs xs)) far (rw length-map (omega (arith, k)))

  module _ (g at : ℕ) where
    pub putting_done : (out : List Float) {whole : List Float} → putting g at out ≡ whole → length rs ≤ g → out ≡ whole
    unfolding distances flatten
    putting_done out p h = rw (drop_of_length-le rs {i = g} h) at p

    pub rowing_done : (far : List Row) {whole : List Row} → rowing g at far ≡ whole → length rs ≤ g → far ≡ whole
    unfolding distances
    rowing_done far p h = rw (drop_of_length-le rs {i = g} h) at p

    module _ (h : g < length rs) where
      abbrev size : ℕ
      size = (get_or rs g unread).size

      pub left_turn : total (map size_of (drop g rs)) ≡ size + total (map size_of (drop (g + 1) rs))
      unfolding total
      left_turn = rw (add-one, drop-cons rs g unread h)

      -- ys are the distances of group g
      module _ (fits : at + size ≤ length xs) (out : List Float) (l : length out ≡ length xs) {ys : List Float} (q : ys ≡ map (distance (get_or rs g unread).mean) (take (at + size - at) (drop at xs))) where
        abbrev next : List Float
        next = take at out ++ (ys ++ drop (at + size - at) (drop at out))

        ahead : left g at ≡ ys ∷ left (g + 1) (at + size)
        unfolding distances cut
        ahead = rw (q, add-one, drop-cons rs g unread h, add-sub_cancel_left, drop-drop)

        as_many : length ys ≡ size
        as_many = ap length q ∙ (length-map (take (at + size - at) (drop at xs)) (distance (get_or rs g unread).mean) ∙ length_part at size xs fits)

        placed : next ≡ sets out at ys
        placed = let n = as_many in part_put out at (at + size - at) ys (omega arith) (omega arith)

        pub putting_kept : length next ≡ length xs
        putting_kept = ap length placed ∙ (length-sets out at ys ∙ l)

        pub putting_turn : {whole : List Float} → putting g at out ≡ whole → putting (g + 1) (at + size) next ≡ whole
        unfolding flatten
        putting_turn p =
            ap (λ (o : List Float). sets o (at + size) (flatten (left (g + 1) (at + size)))) placed
            ∙ (ap (λ (k : ℕ). sets (sets out at ys) (at + k) (flatten (left (g + 1) (at + size)))) (sym as_many)
            ∙ (sym (sets_append out at ys (flatten (left (g + 1) (at + size))))
            ∙ (ap (λ (gs : List (List Float)). sets out at (flatten gs)) (sym ahead)
            ∙ p)))

        -- the group's distances, read where they were put
        read_back : take (at + size - at) (drop at next) ≡ ys
        read_back =
            let n = as_many in
            let behind : List Float = drop (at + size - at) (drop at out) in
            rw (drop_at (take at out) (ys ++ behind) at (length-take-le at out (omega arith))) (take_at ys behind (at + size - at) (omega (arith, n)))

        pub rowing_turn : (far : List Row) {whole : List Row} {row : Row} → rowing g at far ≡ whole → row ≡ row_answer (take (at + size - at) (drop at next)) → rowing (g + 1) (at + size) (set far g row) ≡ whole
        rowing_turn far p r = rw (r ∙ ap row_answer read_back, add-one) (rw (ahead, add-one) at p)
