-- The law of `xs.iter().map(..).sum()`: f of each element is added up in their order, from -0.0. r is that sum, or what `canon` makes of it.
use mathlib.Core.Path.{◌≡◌, ◌∙◌}
use mathlib.Core.List.{List}
use lib.Ieee.{Float}
use denote.Ref.{Bor}
use denote.Param.Members.{Mut}
use Rattle.std.specs.declared.iter.Map.{Map}
use Rattle.std.specs.declared.slice.Iter.{Iter}
use Rattle.std.specs.Fn.{Called}
use Rattle.std.specs.Bool.{⊤}
use Rattle.std.specs.Iterator.{Drains}
use Rattle.std.specs.Iterator.Adapters.{map_source, map_callee}
use Rattle.std.specs.Slice.Iter.{iter_rest}
use Rattle.std.proofs.iter.Yields.{fronts}
use Rattle.std.specs.List.{fold}
use Rattle.std.proofs.lemmas.Iterator.{maps, YieldsList-from_slice, YieldsList-from_map}
use Rattle.std.proofs.lemmas.Iterator.Consumers.{YieldsList-at}
use Rattle.std.proofs.lemmas.Iterator.Adapters.{total_from_yields_List}
use Rattle.float.specs.Words.{◌⊕◌, minus_zero}
use Rattle.stats.specs.Sums.{sum_by}
use Rattle.stats.proofs.Adding.{sum_of_map}

module _ {A F : Type 0} {g : Mut F (Bor A × Unit {0}) Float} {s : Map (Iter A) F} {it : Iter A} {k : F} where
  pub summed : (f : A → Float) (xs : List A) {x r : Float} → r ≡ x
      → ((ys : List Float) × (⊤ → Drains (maps fronts g) s ys) × (x ≡ fold (λ a y. a ⊕ y) minus_zero ys))
      → map_source s ≡ it → iter_rest it ≡ xs → map_callee s ≡ k
      → ((y : Bor A) (z : Float) (q : F) → Called g k (y, tt) z q → (q ≡ k) × (z ≡ f y.now))
      → r ≡ sum_by f xs
  unfolding sum_by
  summed f xs {x} e ran source rest closure calls =
      e
      ∙ (total_from_yields_List ◌⊕◌ minus_zero x ran (YieldsList-from_map g f (YieldsList-at source (YieldsList-from_slice xs rest)) closure calls)
      ∙ sum_of_map f minus_zero xs)
