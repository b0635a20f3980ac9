-- Laws of a walk over a list by its index: one turn, and its end. `rest` is what is left to fold from i on, from t.
use mathlib.Core.Path.{◌≡◌}
use mathlib.Core.List.{List, foldl}
use Prim.Native.Nat.{ℕ, ◌+◌, ◌<◌, ◌≤◌}
use native.Mathlib.Numerals.{add-one}
use lib.ListN.{get_or, length, drop, drop_of_length-le}
use lib.Seq.{drop-cons}

module _ {A B : Type 0} (f : B → A → B) where
  abbrev pub rest : List A → B → ℕ → B
  rest xs t i = foldl f t (drop i xs)

  -- for the invariant `rest xs t i ≡ whole`
  pub fold_step : (xs : List A) (d : A) (i : ℕ) (t t' : B) {whole : B} → rest xs t i ≡ whole → i < length xs → t' ≡ f t (get_or xs i d) → rest xs t' (i + 1) ≡ whole
  fold_step xs d i t t' e h q = rw (q, add-one) (rw (drop-cons xs i d h) at e)

  pub fold_ends : (xs : List A) (i : ℕ) (t : B) {whole : B} → rest xs t i ≡ whole → length xs ≤ i → t ≡ whole
  fold_ends xs i t e h = rw (drop_of_length-le xs h) at e
