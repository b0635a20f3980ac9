-- A row copied behind where it lies: place by place, as the definition says, and all at once, as the library does.
use Prim.Native.Nat.{ℕ, ◌+◌, ◌-◌, ◌≤◌, ◌<◌}
use mathlib.Core.Path.{◌≡◌, sym, ap, ◌∙◌}
use mathlib.Core.List.{List, ◌++◌}
use native.Mathlib.Omega.{arith}
use lib.Ieee.{Float, nan}
use lib.ListN.{length, set, take, drop, get_or, length-drop, length-append, get_or-append}
use lib.Seq.{paste, get_or-take, get_or-drop, length-take-le}
use Rattle.std.proofs.lemmas.List.Edits.{paste_none, paste_more}
use Rattle.base.specs.Loop.{loop}
use Rattle.base.proofs.Walks.{walks}
use Rattle.matrix_linear.specs.Rows.{at}
use Rattle.twoway_type3.specs.Inner.{copy_at}

-- the n places from q on come to those from p on, which lie behind them
module _ (m : List Float) (p q n : ℕ) (before : q + n ≤ p) (room : p + n ≤ length m) where
  -- after j places
  abbrev copied : ℕ → List Float
  copied j = paste m p (drop q m) j

  -- what is read was not changed
  read : (j : ℕ) → j < n → at (copied j) (q + j) ≡ get_or (drop q m) j nan
  read j l =
      let k : length (take p m) ≡ p = length-take-le p m (omega arith) in
      get_or-append (take p m ++ take j (drop q m)) _ nan (q + j) (rw length-append (omega (arith, k)))
      ∙ get_or-append (take p m) _ nan (q + j) (omega (arith, k))
      ∙ get_or-take p m (q + j) nan (omega arith)
      ∙ sym (get_or-drop q m j nan)

  pub copied_row : paste m p (drop q m) (q + n - q) ≡ loop 0 n (copy_at q p) m
  copied_row =
      let k : q + n - q ≡ n = omega arith in
      rw k (sym (walks (copy_at q p) (λ j s. s ≡ copied j) n (λ j s l e. rw e (ap (set (copied j) (p + j)) (read j l) ∙ paste_more m p (drop q m) j nan (omega arith) (rw length-drop (omega arith)))) 0 m (omega arith) (paste_none m p (drop q m))))
