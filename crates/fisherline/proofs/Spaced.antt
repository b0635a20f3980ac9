-- A number behind a space, put by two calls.
use mathlib.Core.Path.{◌≡◌, ap, ◌∙◌}
use mathlib.Core.List.{List, [], ◌∷◌, ◌++◌}
use Prim.Native.Nat.{ℕ, suc, ◌+◌, ◌<◌, ◌≤◌}
use native.Mathlib.Nat.{add_assoc}
use native.Mathlib.Numerals.{add-one}
use native.Mathlib.Omega.{arith}
use lib.ListN.{length, set, get_or, drop, length-set, length-append}
use lib.Seq.{sets, length-sets}
use Rattle.base.specs.Lists.{run}
use Rattle.base.proofs.Runs.{run_step, run_left, run_end, sets_append}
use Rattle.text.specs.Put.{put_of}
use Rattle.text.proofs.Puts.{put_lays, put_place}
use Rattle.fisherline.specs.Rows.{puts}

module _ (out : List ℕ) (a : ℕ) (src : List ℕ) (fits : a + length (32 ∷ src) ≤ length out) {o₁ o₂ : List ℕ} {r₁ r₂ : ℕ} (p : (o₁, r₁) ≡ put_of out a (32 ∷ [])) (q : (o₂, r₂) ≡ put_of o₁ r₁ src) where
  one_put : o₁ ≡ set out a 32
  one_put = put_lays out a (32 ∷ []) (omega arith) p

  place_one : r₁ ≡ suc a
  place_one = put_place out a (32 ∷ []) (omega arith) p ∙ add-one a

  room : r₁ + length src ≤ length o₁
  room = rw (one_put, place_one, length-set) (omega arith)

  pub spaced_out : o₂ ≡ sets out a (32 ∷ src)
  spaced_out = put_lays o₁ r₁ src room q ∙ rw (one_put, place_one)

  pub spaced_place : r₂ ≡ a + length (32 ∷ src)
  spaced_place = put_place o₁ r₁ src room q ∙ rw place_one (omega arith)

-- one turn of a loop that puts the numbers of a list, and its end; `word` is a number's text, and `end` the place behind the last
module _ {A : Type 0} (word : A → List ℕ) (xs : List A) where
  abbrev pub spaced : List A → List ℕ
  spaced ys = run (λ (x : A). 32 ∷ word x) ys

  module _ (d : A) (i : ℕ) (h : i < length xs) (out : List ℕ) (a : ℕ) {whole o₁ o₂ : List ℕ} {end r₁ r₂ : ℕ} (left : a + length (spaced (drop i xs)) ≡ end) (all : end ≤ length out)
      (e : sets out a (spaced (drop i xs)) ≡ whole) (p : (o₁, r₁) ≡ put_of out a (32 ∷ [])) (q : (o₂, r₂) ≡ put_of o₁ r₁ (word (get_or xs i d))) where
    fits : a + length (32 ∷ word (get_or xs i d)) ≤ length out
    fits = omega (arith, run_left (λ (x : A). 32 ∷ word x) xs d i h)

    pub spaced_turn : (length o₂ ≡ length out) × (r₂ + length (spaced (drop (i + 1) xs)) ≡ end) × (sets o₂ r₂ (spaced (drop (i + 1) xs)) ≡ whole)
    spaced_turn =
        let o = spaced_out out a (word (get_or xs i d)) fits p q in
        let r = spaced_place out a (word (get_or xs i d)) fits p q in (
          ap length o ∙ length-sets out a (32 ∷ word (get_or xs i d)),
          omega (arith, run_left (λ (x : A). 32 ∷ word x) xs d i h),
          run_step (λ (x : A). 32 ∷ word x) xs d i h out a e o r,
        )

  -- the number x is the one at i
  pub item_put : (i : ℕ) (x : A) (out : List ℕ) (a : ℕ) {o : List ℕ} {r : ℕ} → x ≡ get_or xs i x → (o, r) ≡ put_of out a (word x) → (o, r) ≡ put_of out a (word (get_or xs i x))
  item_put i x out a e p = p ∙ ap (λ (y : A). put_of out a (word y)) e

  pub spaced_ends : (i : ℕ) (out start : List ℕ) (a at : ℕ) → length xs ≤ i → a + length (spaced (drop i xs)) ≡ at + length (spaced xs) → sets out a (spaced (drop i xs)) ≡ sets start at (spaced xs)
      → (out, a) ≡ puts start at (spaced xs)
  unfolding puts
  spaced_ends i out start a at h l e =
      let z = run_end (λ (x : A). 32 ∷ word x) xs i h in
      let k : a ≡ at + length (spaced xs) = omega (arith, ap length z) in
      rw (k, rw z at e)

-- what `puts` leaves
module _ (out : List ℕ) (at : ℕ) (t : List ℕ) {o : List ℕ} {r : ℕ} (e : (o, r) ≡ puts out at t) where
  pub puts_out : o ≡ sets out at t
  unfolding puts
  puts_out = ap (λ (p : List ℕ × ℕ). p.0) e

  pub puts_place : r ≡ at + length t
  unfolding puts
  puts_place = ap (λ (p : List ℕ × ℕ). p.1) e

  pub puts_length : length o ≡ length out
  puts_length = ap length puts_out ∙ length-sets out at t

-- one text behind another is one text
pub puts_more : (out : List ℕ) (at : ℕ) (t u : List ℕ) {o₁ o₂ : List ℕ} {r₁ r₂ : ℕ} → (o₁, r₁) ≡ puts out at t → (o₂, r₂) ≡ puts o₁ r₁ u → (o₂, r₂) ≡ puts out at (t ++ u)
unfolding puts
puts_more out at t u p q = q ∙ rw (puts_out out at t p, puts_place out at t p, ← sets_append out at t u, length-append, add_assoc)

-- `put` is that where there is room
pub put_puts : (out : List ℕ) (at : ℕ) (t : List ℕ) {o : List ℕ} {r : ℕ} → at + length t ≤ length out → (o, r) ≡ put_of out at t → (o, r) ≡ puts out at t
unfolding puts
put_puts out at t h e = rw (put_lays out at t h e, put_place out at t h e)

-- a line: its name, its numbers, its end
module _ (out : List ℕ) (at : ℕ) (name body : List ℕ) (fits : at + length (name ++ (body ++ (10 ∷ []))) ≤ length out) {o₁ : List ℕ} {r₁ : ℕ} (p : (o₁, r₁) ≡ put_of out at name) where
  long : at + (length name + (length body + 1)) ≤ length out
  long = simp (length-append) at fits

  named : (o₁, r₁) ≡ puts out at name
  named = put_puts out at name (omega (arith, long)) p

  pub line_room : r₁ + length body ≤ length o₁
  line_room = rw (puts_place out at name named, puts_length out at name named) (omega (arith, long))

  module _ {o₂ o₃ : List ℕ} {r₂ r₃ : ℕ} (q : (o₂, r₂) ≡ puts o₁ r₁ body) (s : (o₃, r₃) ≡ put_of o₂ r₂ (10 ∷ [])) where
    pub line_made : (o₃, r₃) ≡ puts out at (name ++ (body ++ (10 ∷ [])))
    line_made =
        let last : r₂ + 1 ≤ length o₂ = rw (puts_place o₁ r₁ body q, puts_length o₁ r₁ body q, puts_place out at name named, puts_length out at name named) (omega (arith, long)) in
        puts_more out at name (body ++ (10 ∷ [])) named (puts_more o₁ r₁ body (10 ∷ []) q (put_puts o₂ r₂ (10 ∷ []) last s))
