-- What a caller knows of `put` where src fits.
use mathlib.Core.Path.{◌≡◌, sym, ap, ◌∙◌}
use mathlib.Core.List.{List}
use Prim.Native.Nat.{ℕ, ◌+◌, ◌≤◌}
use borrow.Author.Tests.{le-leb}
use lib.ListN.{length}
use lib.Seq.{sets, sets-eq}
use Rattle.text.specs.Put.{laid, put_of}

module _ (out : List ℕ) (at : ℕ) (src : List ℕ) (fits : at + length src ≤ length out) {out' : List ℕ} {r : ℕ} (e : (out', r) ≡ put_of out at src) where
  there : ◌≡◌ {A = List ℕ × ℕ} (out', r) (laid out at src, at + length src)
  unfolding put_of
  there = rw (le-leb (at + length src) (length out) fits) at e

  pub put_lays : out' ≡ sets out at src
  put_lays = ap (λ (p : List ℕ × ℕ). p.0) there ∙ sym (sets-eq src out at fits)

  pub put_place : r ≡ at + length src
  put_place = ap (λ (p : List ℕ × ℕ). p.1) there
