-- What is left of a number once counts are taken away from it one after another, by `try_fold`: nothing where a count is over what was left.
use mathlib.Core.Path.{◌≡◌, refl, sym, ap, subst, ◌∙◌}
use mathlib.Core.Bool.{Bool, true, false}
use mathlib.Core.List.{List, [], ◌∷◌}
use Prim.Native.Nat.{ℕ, ◌+◌, ◌-◌, ◌≤◌, ◌<◌}
use native.Mathlib.Omega.{arith}
use borrow.Author.Tests.{le-leb, lt-leb, leb-true, leb-false}
use lib.Dec.{leb}
use denote.Param.Members.{Mut}
use Rattle.std.specs.Prelude.{Option, None, Some}
use Rattle.std.specs.Option.{MatchOption, SomeIff, is_some}
use Rattle.std.specs.ControlFlow.{continue_value}
use Rattle.std.specs.declared.ops.ControlFlow.{ControlFlow}
use Rattle.std.specs.Iterator.{AlwaysYields, YieldsThen, TryFoldTurn, TryFoldsItems}
use Rattle.std.specs.Fn.{Called}
use Rattle.std.specs.List.{FoldsTo}
use Rattle.std.proofs.lemmas.Iterator.{YieldsList}
use Rattle.base.specs.Lists.{total}

-- one count less on both sides
less : (a n t : ℕ) → n ≤ a → leb t (a - n) ≡ leb (n + t) a
less a n t h = go (leb t (a - n)) refl
  where
    go : (b : Bool) → leb t (a - n) ≡ b → leb t (a - n) ≡ leb (n + t) a
    go true e = e ∙ sym (le-leb (n + t) a (omega (arith, leb-true t (a - n) e, h)))
    go false e = e ∙ sym (lt-leb (n + t) a (omega (arith, leb-false t (a - n) e, h)))

-- each call of f takes the count away, where there is so much
module _ {S A F : Type 0} (N : Type 0) (steps : S → Option A → S → Type 0) (v : A → ℕ) (g : Mut F (ℕ × (A × Unit {0})) (Option ℕ)) (f : F)
    (k : (a : ℕ) (x : A) (r : Option ℕ) (q : F) → Called g f (a, (x, tt)) r q → (q ≡ f) × SomeIff r (v x ≤ a) (a - v x)) where
  abbrev Branches : Option ℕ → ControlFlow N ℕ → Type 0
  Branches r c = r ≡ continue_value c

  abbrev Ends : Option ℕ → F → ℕ → Option A → Type 0
  Ends r p a o = MatchOption o (r ≡ Some a) (λ x. (w : Option ℕ) × (h : F) × (e : N) × Called g p (a, (x, tt)) w h × (w ≡ None) × (r ≡ None))

  last : (o : Option A) (s u : S) (a : ℕ) (p : F) (r : Option ℕ) (ns : List ℕ) → p ≡ f → steps s o u → AlwaysYields steps v s ns → Ends r p a o → is_some r ≡ leb (total ns) a
  unfolding total
  last None s u a p r [] i y e m = ap is_some m ∙ sym (le-leb 0 a (omega arith))
  last None s u a p r (n ∷ ns) i y e m = absurd (e.0 u y)
  last (Some x) s u a p r [] i y e m = absurd (e x u y)
  last (Some x) s u a p r (n ∷ ns) i y e m =
      let same : v x ≡ n = (e.1 x u y).0 in
      let over : SomeIff None (v x ≤ a) (a - v x) = rw m.4 at (k a x m.0 m.1 (subst (λ (z : F). Called g z (a, (x, tt)) m.0 m.1) i m.3)).1 in
      ap is_some m.5 ∙ sym (lt-leb (n + total ns) a (go (leb n a) refl same over))
    where
      go : (b : Bool) → leb n a ≡ b → v x ≡ n → (v x ≤ a → ⊥) → a < n + total ns
      go true q same over = absurd (over (omega (arith, leb-true n a q, same)))
      go false q same over = omega (arith, leb-false n a q)

  folds : (xs : List A) (o : Option A) (s u : S) (a b : ℕ) (p q : F) (r : Option ℕ) (ns : List ℕ) → p ≡ f → YieldsThen steps s xs o u → FoldsTo {P = F × ℕ} (TryFoldTurn g Branches) (p, a) xs (q, b)
      → AlwaysYields steps v s ns → Ends r q b o → is_some r ≡ leb (total ns) a
  unfolding total
  folds [] o s u a b p q r ns i y c e m =
      last o y.0 u b q r ns (sym (ap (λ (z : F × ℕ). z.0) c) ∙ i) y.2 (subst (λ (z : S). AlwaysYields steps v z ns) y.1 e) m ∙ ap (leb (total ns)) (sym (ap (λ (z : F × ℕ). z.1) c))
  folds (x ∷ xs) o s u a b p q r [] i y c e m = absurd (e x y.1.0 y.1.1)
  folds (x ∷ xs) o s u a b p q r (n ∷ ns) i y c e m =
      let h = e.1 x y.1.0 y.1.1 in
      let d = k a x c.1.0 c.0.0 (subst (λ (z : F). Called g z (a, (x, tt)) c.1.0 c.0.0) i c.1.1) in
      let l : (v x ≤ a) × (c.0.1 ≡ a - v x) = rw c.1.2 at d.1 in
      folds xs o y.1.0 u c.0.1 b c.0.0 q r ns d.0 (y.0, y.1.2, y.2) c.2 h.1 m
      ∙ ap (leb (total ns)) (l.1 ∙ ap (λ (z : ℕ). a - z) h.0)
      ∙ less a n (total ns) (omega (arith, l.0, h.0))

  pub left_within : (n : ℕ) (r : Option ℕ) (s u : S) (ns : List ℕ) → TryFoldsItems steps g Branches (λ _ t. t ≡ None) s f n r u → YieldsList steps v s ns → is_some r ≡ leb (total ns) n
  left_within n r s u ns d e = folds d.0 d.1 s u n d.3 f d.2 r ns refl d.4 d.5 e.runs d.6
