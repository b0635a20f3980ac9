-- The lent memory while the normal equations are built: the system lies in its first places, and the rows of the cells behind it, where no change of the system reaches them. What lies beside both stays as it was.
use Prim.Native.Nat.{ℕ, ◌+◌, ◌-◌, ◌*◌, ◌<◌, ◌≤◌}
use mathlib.Core.Path.{◌≡◌, refl, sym, ap, ◌∙◌}
use mathlib.Core.Bool.{Bool, true, false}
use mathlib.Core.List.{List, ◌++◌}
use native.Mathlib.Omega.{arith}
use borrow.Author.Tests.{ltb-true, ltb-false, eq-eqb, ne_eqb}
use lib.Dec.{ltb}
use lib.ListN.{length, get_or, take, drop}
use lib.Seq.{length-take-le}
use lib.Ieee.{Float}
use Rattle.base.specs.Limits.{most_cells, most_levels, scratch_places}
use Rattle.base.specs.Lists.{part}
use Rattle.base.proofs.Bounds.{row_end, product_le}
use Rattle.float.specs.Words.{count}
use Rattle.lent.specs.Laying.{laid}
use Rattle.lent.specs.Wiping.{zeros, wiped}
use Rattle.lent.proofs.Lays.{laid_all}
use Rattle.lent.proofs.Wipes.{wiped_short}
use Rattle.twoway_normal.specs.Counted.{cells_of, cell_row, counts_of, most_counts}
use Rattle.twoway_normal.specs.Equations.{rows_from, rows_places, laid_system}
use Rattle.twoway_normal.specs.Inner.{Fitting, CellAdded, Kept, Aside, add_products, add_cell, add_cells, ValueSums, put_column}
use Rattle.twoway_normal.specs.Normal.{normal_system}
use Rattle.twoway_normal.proofs.Coded.{cells_few}
use Rattle.twoway_normal.proofs.Entries.{system_length}
use Rattle.twoway_normal.proofs.Lent.{length_part, part_part, laid_length, laid_same, laid_before, laid_after, laid_dropped, laid_over}
use Rattle.twoway_normal.proofs.Readings.{system_built}
use Rattle.twoway_normal.proofs.Sizes.{cells_most, system_most}

-- the system ends before the rows begin, and all rows lie in the lent memory
abbrev pub Room : ℕ → ℕ → Type 0
Room a b = (a * b ≤ most_cells) × (a * b * (a * b + 1) ≤ rows_from) × (rows_from + cells_of a b * (a * b) ≤ scratch_places)

pub rows_room : (a b : ℕ) → a ≤ most_levels → b ≤ most_levels → Room a b
rows_room a b h k =
    let p = cells_most a b h k in
    (p, system_most (a * b) p, omega (arith, product_le most_counts most_cells {x = cells_of a b} {y = a * b} (cells_few a b h k) p))

-- and the row of cell c ends within it
pub cell_room : (a b c : ℕ) → a ≤ most_levels → b ≤ most_levels → c < cells_of a b → Room a b × (rows_from + (c * (a * b) + a * b) ≤ scratch_places)
cell_room a b c h k l =
    let r = rows_room a b h k in
    (r, omega (arith, r, row_end c (cells_of a b) (a * b) {len = cells_of a b * (a * b)} l (omega arith)))

-- a cell's call: x is its row, x₁ what it left in the system's part of w₀, x₂ in the row's part of w₁
module _ (a b c n : ℕ) (room : Room a b) (inside : c < cells_of a b) (w₀ : List Float) (long : scratch_places ≤ length w₀) where
  pub passed_over : n ≡ 0 → CellAdded a b c n w₀ w₀
  unfolding add_cell
  passed_over z = record { system = rw (eq-eqb n 0 z); row = (λ h. absurd (omega arith)); earlier = (λ o l h k. refl); later = (λ o h. refl) }

  pub cell_chain : {x x₁ x₂ : List Float} → (n ≡ 0 → ⊥) → x ≡ cell_row a b c → a * b ≤ length x
      → (let w₁ = take 0 w₀ ++ (x₁ ++ drop (a * b * (a * b + 1)) (drop 0 w₀)) in
      let q = rows_from + c * (a * b) in
      x₁ ≡ add_products (a * b) (a * b + 1) (count n) x (part 0 (a * b * (a * b + 1)) w₀)
      → length x₁ ≡ a * b * (a * b + 1)
      → x₂ ≡ laid (take (a * b) x) (part q (a * b) w₁)
      → CellAdded a b c n w₀ (take q w₁ ++ (x₂ ++ drop (a * b) (drop q w₁))))
  unfolding add_cell
  cell_chain {x} {x₁} {x₂} some ex wide e₁ l₁ e₂ = record {
    system = laid_before q p x₂ w₁ room₁ l₂ 0 z (omega (arith, room)) ∙ laid_same 0 z x₁ w₀ room₀ l₁ ∙ e₁ ∙ rw (ex, ne_eqb n 0 some);
    row = (λ h. laid_same q p x₂ w₁ room₁ l₂ ∙ r₂ ∙ ap (take p) ex);
    earlier = (λ o l h k. laid_before q p x₂ w₁ room₁ l₂ o l k ∙ laid_after 0 z x₁ w₀ room₀ l₁ o l (omega arith));
    later = (λ o h. laid_dropped q p x₂ w₁ room₁ l₂ o h ∙ laid_dropped 0 z x₁ w₀ room₀ l₁ o (omega (arith, room)));
  }
    where
      p : ℕ
      p = a * b

      z : ℕ
      z = a * b * (a * b + 1)

      q : ℕ
      q = rows_from + c * (a * b)

      w₁ : List Float
      w₁ = take 0 w₀ ++ (x₁ ++ drop z (drop 0 w₀))

      room₀ : 0 + z ≤ length w₀
      room₀ = omega (arith, room)

      long₁ : length w₁ ≡ length w₀
      long₁ = laid_length 0 z x₁ w₀ room₀ l₁

      room₁ : q + p ≤ length w₁
      room₁ = omega (arith, long₁, room, row_end c (cells_of a b) (a * b) {len = cells_of a b * (a * b)} inside (omega arith))

      taken : length (take p x) ≡ p
      taken = length-take-le p x wide

      r₂ : x₂ ≡ take p x
      r₂ = e₂ ∙ laid_all (take p x) (part q p w₁) (length_part q p w₁ room₁ ∙ sym taken)

      l₂ : length x₂ ≡ p
      l₂ = ap length r₂ ∙ taken

  -- the same, where j, k and l are the lengths of the parts as the code works them out
  pub cell_lent : (j k l : ℕ) → j ≡ a * b * (a * b + 1) → k ≡ a * b → l ≡ a * b → {x x₁ x₂ : List Float} → (n ≡ 0 → ⊥) → x ≡ cell_row a b c → a * b ≤ length x
      → (let w₁ = take 0 w₀ ++ (x₁ ++ drop j (drop 0 w₀)) in
      let q = rows_from + c * (a * b) in
      x₁ ≡ add_products (a * b) (a * b + 1) (count n) x (take j (drop 0 w₀))
      → length x₁ ≡ a * b * (a * b + 1)
      → x₂ ≡ laid (take l (drop 0 x)) (take k (drop q w₁))
      → CellAdded a b c n w₀ (take q w₁ ++ (x₂ ++ drop k (drop q w₁))))
  unfolding part
  cell_lent j k l ej ek el some ex wide e₁ l₁ e₂ = rw (ej, ek) (cell_chain some ex wide (rw ej at e₁) l₁ (rw (ej, ek, el) at e₂))

-- the rows of one cell more are kept
pub kept_next : (a b c : ℕ) (ns : List ℕ) (v w : List Float) → Room a b → Kept a b ns rows_from c v → CellAdded a b c (get_or ns c 0) v w → Kept a b ns rows_from (c + 1) w
kept_next a b c ns v w room k e d h s = go (ltb d c) refl
  where
    go : (t : Bool) → ltb d c ≡ t → part (rows_from + d * (a * b)) (a * b) w ≡ take (a * b) (cell_row a b d)
    go true p =
        let l = ltb-true d c p in
        let r : d * (a * b) + a * b ≤ c * (a * b) = row_end d c (a * b) l (omega arith) in
        e.earlier (rows_from + d * (a * b)) (a * b) (omega (arith, room)) (omega (arith, r)) ∙ k d l s
    go false p = let q : d ≡ c = omega (arith, ltb-false d c p) in rw q (e.row (rw q at s))

-- what lies beside the system and the rows stays: where nothing is done, where one thing is done after another, where a cell is added, where x comes to the system's places
pub aside_none : (a b : ℕ) (w : List Float) → Aside a b w w
aside_none a b w = record { amid = refl; behind = refl }

pub aside_then : (a b : ℕ) (u v w : List Float) → Aside a b u v → Aside a b v w → Aside a b u w
aside_then a b u v w e f = record { amid = f.amid ∙ e.amid; behind = f.behind ∙ e.behind }

pub aside_cell : (a b c n : ℕ) (v w : List Float) → Room a b → c < cells_of a b → CellAdded a b c n v w → Aside a b v w
aside_cell a b c n v w room h e = record {
  amid = e.earlier (a * b * (a * b + 1)) (rows_from - a * b * (a * b + 1)) (omega arith) (omega (arith, room));
  behind = e.later (rows_from + rows_places a b) (omega (arith, row_end c (cells_of a b) (a * b) {len = cells_of a b * (a * b)} h (omega arith)));
}

aside_system : (a b : ℕ) (x w : List Float) → Room a b → length x ≡ a * b * (a * b + 1) → scratch_places ≤ length w → Aside a b w (take 0 w ++ (x ++ drop (a * b * (a * b + 1)) (drop 0 w)))
aside_system a b x w room e long = record {
  amid = laid_after 0 (a * b * (a * b + 1)) x w (omega (arith, room)) e (a * b * (a * b + 1)) (rows_from - a * b * (a * b + 1)) (omega arith);
  behind = laid_dropped 0 (a * b * (a * b + 1)) x w (omega (arith, room)) e (rows_from + rows_places a b) (omega (arith, room));
}

-- the whole: w₁ is the memory with the system wiped, w₂ that with all cells added, w₃ that with X'y in the system, x₄ what is left where the rows were
module _ (values : List Float) (us vs : List ℕ) (a b : ℕ) (f : Fitting values us vs a b) where
  -- what X'y is added up from
  pub kept_part : (w : List Float) → Kept a b (counts_of us vs a b) rows_from (cells_of a b) w → Kept a b (counts_of us vs a b) 0 (cells_of a b) (part rows_from (cells_of a b * (a * b)) w)
  kept_part w k c h s =
      let z : 0 + c * (a * b) ≡ c * (a * b) = omega arith in
      let r = row_end c (cells_of a b) (a * b) {len = cells_of a b * (a * b)} h (omega arith) in
      rw z (part_part (c * (a * b)) (a * b) rows_from (cells_of a b * (a * b)) w r ∙ k c h s)

  pub system_chain : (w₀ w₂ sums : List Float) {x₁ x₃ x₄ : List Float} → scratch_places ≤ length w₀ → length w₂ ≡ length w₀
      → (let w₁ = take 0 w₀ ++ (x₁ ++ drop (a * b * (a * b + 1)) (drop 0 w₀)) in
      let w₃ = take 0 w₂ ++ (x₃ ++ drop (a * b * (a * b + 1)) (drop 0 w₂)) in
      x₁ ≡ wiped (part 0 (a * b * (a * b + 1)) w₀)
      → length x₁ ≡ a * b * (a * b + 1)
      → part 0 (a * b * (a * b + 1)) w₂ ≡ add_cells a b (counts_of us vs a b) (part 0 (a * b * (a * b + 1)) w₁)
      → Aside a b w₁ w₂
      → ValueSums values us vs a b sums
      → x₃ ≡ put_column (a * b) sums (part 0 (a * b * (a * b + 1)) w₂)
      → length x₃ ≡ a * b * (a * b + 1)
      → x₄ ≡ wiped (part rows_from (rows_places a b) w₃)
      → take rows_from w₃ ++ (x₄ ++ drop (rows_places a b) (drop rows_from w₃)) ≡ laid_system values us vs a b w₀)
  unfolding laid_system
  system_chain w₀ w₂ sums {x₁} {x₃} {x₄} long₀ long₂ e₁ l₁ e₂ aside told e₃ l₃ e₄ =
      ap (λ (x : List Float). take rows_from w₃ ++ (x ++ drop n (drop rows_from w₃))) zeroed
      ∙ laid_over z rows_from n (normal_system values us vs a b) (zeros n) w₃ w₀ m.1 (omega (arith, m)) (system_length values us vs a b) system all.amid all.behind
    where
      z : ℕ
      z = a * b * (a * b + 1)

      n : ℕ
      n = rows_places a b

      m : Room a b
      m = rows_room a b f.most_a f.most_b

      w₁ : List Float
      w₁ = take 0 w₀ ++ (x₁ ++ drop z (drop 0 w₀))

      w₃ : List Float
      w₃ = take 0 w₂ ++ (x₃ ++ drop z (drop 0 w₂))

      room₀ : 0 + z ≤ length w₀
      room₀ = omega (arith, m)

      room₂ : 0 + z ≤ length w₂
      room₂ = omega (arith, m)

      system : part 0 z w₃ ≡ normal_system values us vs a b
      system =
          laid_same 0 z x₃ w₂ room₂ l₃
          ∙ e₃
          ∙ ap (put_column (a * b) sums) (e₂ ∙ ap (add_cells a b (counts_of us vs a b)) (laid_same 0 z x₁ w₀ room₀ l₁ ∙ e₁ ∙ wiped_short _ (omega (arith, m, length_part 0 z w₀ room₀)) ∙ ap zeros (length_part 0 z w₀ room₀)))
          ∙ system_built values us vs a b f sums told

      all : Aside a b w₀ w₃
      all = aside_then a b w₀ w₁ w₃ (aside_system a b x₁ w₀ m l₁ long₀) (aside_then a b w₁ w₂ w₃ aside (aside_system a b x₃ w₂ m l₃ (omega arith)))

      long₃ : length (part rows_from n w₃) ≡ n
      long₃ = length_part rows_from n w₃ (omega (arith, m, laid_length 0 z x₃ w₂ room₂ l₃))

      zeroed : x₄ ≡ zeros n
      zeroed = e₄ ∙ wiped_short _ (omega (arith, m, long₃)) ∙ ap zeros long₃

  -- the same two, where j and k are the lengths of the parts as the code works them out, and ns the counts that it holds
  pub kept_lent : (k : ℕ) → k ≡ cells_of a b * (a * b) → {ns : List ℕ} → ns ≡ counts_of us vs a b → (w : List Float) → Kept a b ns rows_from (cells_of a b) w → Kept a b (counts_of us vs a b) 0 (cells_of a b) (take k (drop rows_from w))
  unfolding part
  kept_lent k ek en w kept = rw ek (kept_part w (rw en at kept))

  pub system_lent : (j k : ℕ) → j ≡ a * b * (a * b + 1) → k ≡ rows_places a b → {ns : List ℕ} → ns ≡ counts_of us vs a b → (w₀ w₂ sums : List Float) {x₁ x₃ x₄ : List Float} → scratch_places ≤ length w₀ → length w₂ ≡ length w₀
      → (let w₁ = take 0 w₀ ++ (x₁ ++ drop j (drop 0 w₀)) in
      let w₃ = take 0 w₂ ++ (x₃ ++ drop j (drop 0 w₂)) in
      x₁ ≡ wiped (take j (drop 0 w₀))
      → length x₁ ≡ a * b * (a * b + 1)
      → part 0 (a * b * (a * b + 1)) w₂ ≡ add_cells a b ns (part 0 (a * b * (a * b + 1)) w₁)
      → Aside a b w₁ w₂
      → ValueSums values us vs a b sums
      → x₃ ≡ put_column (a * b) sums (take j (drop 0 w₂))
      → length x₃ ≡ a * b * (a * b + 1)
      → x₄ ≡ wiped (take k (drop rows_from w₃))
      → take rows_from w₃ ++ (x₄ ++ drop k (drop rows_from w₃)) ≡ laid_system values us vs a b w₀)
  unfolding part
  system_lent j k ej ek en w₀ w₂ sums long₀ long₂ e₁ l₁ e₂ aside told e₃ l₃ e₄ =
      rw (ej, ek) (system_chain w₀ w₂ sums long₀ long₂ (rw ej at e₁) l₁ (rw (ej, en) at e₂) (rw ej at aside) told (rw ej at e₃) l₃ (rw (ej, ek) at e₄))
