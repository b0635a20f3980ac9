-- Laws of a search for the first fault: it is here, further on, or nowhere; and such a search over the parts that a list is cut into.
use Prim.Native.Nat.{ℕ, ◌+◌, ◌-◌, ◌<◌, ◌≤◌}
use mathlib.Core.Path.{◌≡◌, sym}
use mathlib.Core.List.{List, [], ◌∷◌}
use lib.ListN.{length, take, drop, get_or}
use Rattle.base.specs.declared.Refusal.{Refusal}
use Rattle.base.specs.Lists.{cut}
use Rattle.base.specs.Refusals.{none, verdict, ◌or_else◌, first_fault}
use Rattle.std.specs.Prelude.{Result, Ok, Err, ⊤}
use Rattle.base.proofs.Cuts.{cut_turn, cut_done, cut_next, cut_over}
use Rattle.base.proofs.Order.{first_wins, second_asked, ends_there, was_passed}

module _ {A : Type 0} (fault : ℕ → A → Refusal) (i : ℕ) {xs : List A} where
  pub fault_nowhere : xs ≡ [] → none ≡ first_fault fault i xs
  unfolding first_fault
  fault_nowhere e = rw e

  module _ {x : A} {rest : List A} (e : xs ≡ x ∷ rest) where
    turned : first_fault fault i xs ≡ (fault i x or_else first_fault fault (i + 1) rest)
    unfolding first_fault
    turned = rw e

    -- r is what was said of x
    module _ (r : Refusal) (q : r ≡ fault i x) where
      pub fault_here : (r.number ≡ 0 → ⊥) → r ≡ first_fault fault i xs
      fault_here n = rw (turned, ← q) (sym (first_wins r _ n))

      pub fault_further : r.number ≡ 0 → first_fault fault (i + 1) rest ≡ first_fault fault i xs
      fault_further z = rw (turned, ← q) (sym (second_asked r _ z))

-- part g of xs, whose parts have the sizes ns, begins at `at`
module _ {A : Type 0} (xs : List A) (ns : List ℕ) (g at : ℕ) where
  -- as the code takes it
  abbrev pub here : List A
  here = take (at + get_or ns g 0 - at) (drop at xs)

  module _ (fault : ℕ → List A → Refusal) where
    -- the search from part g on, which has the number g + 1, and from the next one on
    abbrev pub faults : Refusal
    faults = first_fault fault (g + 1) (cut (drop g ns) (drop at xs))

    abbrev further : Refusal
    further = first_fault fault (g + 1 + 1) (cut (drop (g + 1) ns) (drop (at + get_or ns g 0) xs))

    pub part_nowhere : length ns ≤ g → none ≡ faults
    part_nowhere h = fault_nowhere fault (g + 1) (cut_done ns xs at g h)

    module _ (h : g < length ns) where
      pub part_here : (r : Refusal) → r ≡ fault (g + 1) here → (r.number ≡ 0 → ⊥) → r ≡ faults
      part_here = fault_here fault (g + 1) (cut_turn ns xs at g h)

      pub part_further : (r : Refusal) → r ≡ fault (g + 1) here → r.number ≡ 0 → further ≡ faults
      part_further = fault_further fault (g + 1) (cut_turn ns xs at g h)

-- the search as `?` walks it: `rest` is what is left of the readings from group g on, and `told` is what was said of group g
module _ {A : Type 0} (fault : ℕ → List A → Refusal) (ns : List ℕ) (g : ℕ) (rest : List A) where
  -- the search from group g on, which has the number g + 1
  abbrev pub left : Refusal
  left = first_fault fault (g + 1) (cut (drop g ns) rest)

  abbrev after : Refusal
  after = first_fault fault (g + 1 + 1) (cut (drop (g + 1) ns) (drop (get_or ns g 0) rest))

  pub none_left_over : length ns ≤ g → none ≡ left
  none_left_over h = fault_nowhere fault (g + 1) (cut_over ns g rest h)

  module _ (h : g < length ns) {x : Result ⊤ Refusal} (told : x ≡ verdict (fault (g + 1) (take (get_or ns g 0) rest))) where
    turn : left ≡ (fault (g + 1) (take (get_or ns g 0) rest) or_else after)
    unfolding first_fault
    turn = rw (cut_next ns g rest h)

    pub found_here : {r : Refusal} → x ≡ Err r → Err r ≡ verdict left
    found_here e = rw turn (ends_there _ after told e)

    pub found_later : x ≡ Ok tt → after ≡ left
    found_later e = rw turn (sym (second_asked _ after (was_passed _ tt told e)))
