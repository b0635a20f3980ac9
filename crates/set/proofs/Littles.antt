-- Laws of numbers in bytes: as the library reads and writes them, and how large they are.
use mathlib.Core.Path.{◌≡◌, refl, ◌∙◌, ap}
use mathlib.Core.List.{List, [], ◌∷◌, map}
use Prim.Native.Nat.{ℕ, zero, suc, ◌+◌, ◌*◌, ◌/◌, ◌<◌, ◌≤◌}
use native.Mathlib.Omega.{arith}
use native.Mathlib.Nat.{div-div-eq-div-mul}
use lib.ListN.{length, drop, take, get_or, length-drop, length-map, get_or-map}
use lib.Seq.{length-take-le}
use Rattle.base.specs.Lists.{total, cut, words}
use Rattle.base.proofs.Cuts.{total_turn}
use Rattle.base.proofs.Words.{word_at, length_words}
use Rattle.base.proofs.Bounds.{row_end}
use Rattle.std.specs.Int.{w16, w64, from_le_bytes, to_le_bytes}
use Rattle.std.specs.Simd.{first_chunks}
use Rattle.std.proofs.lemmas.List.{get_or_default}
use Rattle.set.specs.Bytes.{little, bytes}

-- the chunks that the code takes are the words
first_words : (w m k : ℕ) (bs : List ℕ) → k ≤ m → take k (first_chunks w m bs) ≡ words w k bs
unfolding cut
first_words w m zero bs h = refl
first_words w zero (suc k) bs h = absurd (omega arith)
first_words w (suc m) (suc k) bs h = ap (λ (r : List (List ℕ)). take w bs ∷ r) (first_words w m k (drop w bs) (omega arith))

pub chunks_are : (w m k : ℕ) (bs : List ℕ) {cs : List (List ℕ)} → cs ≡ first_chunks w m bs → k ≤ m → take k cs ≡ words w k bs
chunks_are w m k bs e l = ap (take k) e ∙ first_words w m k bs l

-- two bytes, and eight, as the library reads them
pub pair_is : (bs : List ℕ) → length bs ≡ 2 → from_le_bytes w16 bs ≡ little bs
unfolding little
pair_is [] e = absurd (omega arith)
pair_is (a ∷ []) e = absurd (omega arith)
pair_is (a ∷ b ∷ []) e = omega arith
pair_is (a ∷ b ∷ c ∷ bs) e = absurd (omega arith)

pub eight_is : (bs : List ℕ) → length bs ≡ 8 → from_le_bytes w64 bs ≡ little bs
unfolding little
eight_is ([]) p = absurd (omega arith)
eight_is (a ∷ []) p = absurd (omega arith)
eight_is (a ∷ b ∷ []) p = absurd (omega arith)
eight_is (a ∷ b ∷ c ∷ []) p = absurd (omega arith)
eight_is (a ∷ b ∷ c ∷ d ∷ []) p = absurd (omega arith)
eight_is (a ∷ b ∷ c ∷ d ∷ e ∷ []) p = absurd (omega arith)
eight_is (a ∷ b ∷ c ∷ d ∷ e ∷ f ∷ []) p = absurd (omega arith)
eight_is (a ∷ b ∷ c ∷ d ∷ e ∷ f ∷ g ∷ []) p = absurd (omega arith)
eight_is (a ∷ b ∷ c ∷ d ∷ e ∷ f ∷ g ∷ h ∷ []) p = omega arith
eight_is (a ∷ b ∷ c ∷ d ∷ e ∷ f ∷ g ∷ h ∷ i ∷ bs) p = absurd (omega arith)

-- the first two bytes
pub two_first : (bs : List ℕ) {n : ℕ} → 2 ≤ length bs → n ≡ from_le_bytes w16 (get_or bs 0 0 ∷ get_or bs 1 0 ∷ []) → n ≡ little (take 2 bs)
two_first [] h e = absurd (omega arith)
two_first (a ∷ []) h e = absurd (omega arith)
two_first (a ∷ b ∷ bs) h e = e ∙ pair_is (a ∷ b ∷ []) refl

-- the numbers from g on
module _ (w k : ℕ) (bs : List ℕ) (g : ℕ) (h : g < k) where
  pub numbers_turn : total (drop g (map little (words w k bs))) ≡ little (get_or (words w k bs) g []) + total (drop (g + 1) (map little (words w k bs)))
  unfolding little
  numbers_turn =
      total_turn (map little (words w k bs)) g (rw (length-map, length_words w k bs) h)
      ∙ ap (λ (n : ℕ). n + total (drop (g + 1) (map little (words w k bs)))) (get_or-map little (words w k bs) g [])

  -- the word at g has all its bytes where there are enough
  pub word_long : k * w ≤ length bs → length (get_or (words w k bs) g []) ≡ w
  word_long fits = let r = row_end g k w h fits in rw (word_at w k bs g h) (length-take-le w (drop (g * w) bs) (rw length-drop (omega (arith, r))))

-- the number that the code reads of the word at g
module _ (w m k : ℕ) (bs : List ℕ) {cs : List (List ℕ)} (e : cs ≡ first_chunks w m bs) (l : k ≤ m) (g : ℕ) (h : g < length (take k cs)) where
  pub among : g < k
  among = rw (chunks_are w m k bs e l, length_words w k bs) at h

  word_is : (d : List ℕ) → get_or (take k cs) g d ≡ get_or (words w k bs) g []
  word_is d = get_or_default (take k cs) g d [] h ∙ ap (λ (ws : List (List ℕ)). get_or ws g []) (chunks_are w m k bs e l)

module _ (m k : ℕ) (bs : List ℕ) {cs : List (List ℕ)} where
  pub pair_read : cs ≡ first_chunks 2 m bs → k ≤ m → k * 2 ≤ length bs → (g : ℕ) → g < length (take k cs) → {n : ℕ} (d : List ℕ) → n ≡ from_le_bytes w16 (get_or (take k cs) g d) → n ≡ little (get_or (words 2 k bs) g [])
  pair_read e l f g h d q = q ∙ ap (from_le_bytes w16) (word_is 2 m k bs e l g h d) ∙ pair_is _ (word_long 2 k bs g (among 2 m k bs e l g h) f)

  pub eight_read : cs ≡ first_chunks 8 m bs → k ≤ m → k * 8 ≤ length bs → (g : ℕ) → g < length (take k cs) → {n : ℕ} (d : List ℕ) → n ≡ from_le_bytes w64 (get_or (take k cs) g d) → n ≡ little (get_or (words 8 k bs) g [])
  eight_read e l f g h d q = q ∙ ap (from_le_bytes w64) (word_is 8 m k bs e l g h d) ∙ eight_is _ (word_long 8 k bs g (among 8 m k bs e l g h) f)

-- a number written byte by byte: one byte, and the end
pub length_bytes : (k w : ℕ) → length (bytes k w) ≡ k
unfolding bytes
length_bytes zero w = refl
length_bytes (suc k) w = ap suc (length_bytes k (w / 256))

-- the library writes a number as the definition does
pub bytes_are : (w : ℕ) {bs : List ℕ} → bs ≡ to_le_bytes w64 w → bs ≡ bytes 8 w
unfolding bytes
bytes_are w e = e ∙ simp div-div-eq-div-mul refl
