-- Words for lists: sums of sizes, counts, a list cut into groups, one list laid over another, a part of a list, pieces laid one after another, places filled one by one.
use Rattle.std.specs.Prelude.{ℕ, ◌+◌, length, get_or, set, replicate}
use mathlib.Core.List.{List, [], ◌∷◌, ◌++◌, map, flatten}
use Rattle.std.proofs.Math.ListN.{take, drop}
use Rattle.base.specs.Loop.{loop}

-- the sum of these sizes
unfoldable pub total : List ℕ → ℕ
total [] = 0
total (n ∷ ns) = n + total ns

-- counts, of which the one at place k is one more
abbrev pub bump : List ℕ → ℕ → List ℕ
bump ns k = set ns k (get_or ns k 0 + 1)

module _ {A : Type 0} where
  -- the list cut into groups of these sizes, one after another
  unfoldable pub cut : List ℕ → List A → List (List A)
  cut [] xs = []
  cut (n ∷ ns) xs = take n xs ∷ cut ns (drop n xs)

  -- `front` laid over the first places of `back`: the places beyond keep what they hold
  abbrev pub over : List A → List A → List A
  over front back = front ++ drop (length front) back

  -- the k places from a on
  unfoldable pub part : ℕ → ℕ → List A → List A
  part a k s = take k (drop a s)

  -- those places changed by f, and the others left alone
  unfoldable pub within : ℕ → ℕ → (List A → List A) → List A → List A
  unfolding part
  within a k f s = take a s ++ (f (part a k s) ++ drop k (drop a s))

  -- the list in k words of w elements each
  abbrev pub words : ℕ → ℕ → List A → List (List A)
  words w k xs = cut (replicate k w) xs

  -- f 0, f 1, .. in the first n places of `out`
  abbrev pub put_at : (ℕ → A) → ℕ → List A → List A
  put_at f i out = set out i (f i)

  unfoldable pub listed : ℕ → (ℕ → A) → List A → List A
  listed n f out = loop 0 n (put_at f) out

-- f of each element, one piece after another: texts, and bytes
abbrev pub run : {A B : Type 0} → (A → List B) → List A → List B
run f xs = flatten (map f xs)
