-- Laws of a list in words of one length: where a word lies.
use mathlib.Core.Path.{◌≡◌, sym, ap, ◌∙◌}
use mathlib.Core.List.{List, []}
use Prim.Native.Nat.{ℕ, zero, suc, ◌+◌, ◌*◌, ◌≤◌, ◌<◌}
use native.Mathlib.Nat.{zero-mul, suc-mul, not-suc-le-zero, le_of_suc-le-suc, add_comm}
use native.Mathlib.Omega.{arith}
use lib.ListN.{length, get_or, take, drop, replicate, length-replicate, get_or-replicate}
use Rattle.base.specs.Lists.{total, words}
use Rattle.base.proofs.Cuts.{length_cut, cut_at}

before_word : (w k g : ℕ) → g ≤ k → total (take g (replicate k w)) ≡ g * w
unfolding total
before_word w k zero h = sym (zero-mul w)
before_word w zero (suc g) h = absurd (not-suc-le-zero h)
before_word w (suc k) (suc g) h = ap (λ (n : ℕ). w + n) (before_word w k g (le_of_suc-le-suc h)) ∙ add_comm w (g * w) ∙ sym (suc-mul g w)

module _ {A : Type 0} (w k : ℕ) (xs : List A) where
  pub length_words : length (words w k xs) ≡ k
  length_words = length_cut (replicate k w) xs ∙ length-replicate k w

  pub word_at : (g : ℕ) → g < k → get_or (words w k xs) g [] ≡ take w (drop (g * w) xs)
  word_at g h = cut_at (replicate k w) g xs (rw length-replicate h) ∙ rw (get_or-replicate k g w 0 h, before_word w k g (omega arith))
