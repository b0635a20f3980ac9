-- The ends of the two calls: b, d, f are what the tests of the sizes said; the rest is the memory after each step. The last two of the first call make NaNs canonical and leave it as it was.
use Prim.Native.Nat.{ℕ, ◌*◌, ◌≤◌}
use mathlib.Core.Path.{◌≡◌}
use mathlib.Core.Bool.{Bool, true, false}
use mathlib.Core.List.{List, ◌++◌}
use native.Mathlib.Omega.{arith}
use lib.ListN.{length, take, drop, length-replicate}
use lib.Seq.{length-take-le}
use lib.Ieee.{Float}
use Rattle.base.specs.Limits.{scratch_places}
use Rattle.lent.specs.Wiping.{zeros}
use Rattle.lent.specs.Wiping.{wiped as wipedAll}
use Rattle.lent.proofs.Wipes.{wiped_short}
use Rattle.matrix_places.specs.Places.{most_contrasts, refuses}
use Rattle.matrix_eigen.specs.Qr.{wiped, qr_columns, qr_of, qr_decomposition}
use Rattle.matrix_eigen.specs.Values.{rounds, diagonal, compute_eigenvalues}

module _ (n : ℕ) (a q r : List Float) {b : Bool} (e : b ≡ refuses most_contrasts n n (length a)) where
  pub qr_first : b ≡ true → ((q, r), false) ≡ qr_decomposition n a (q, r)
  unfolding qr_decomposition
  qr_first h = rw (← e, h)

  module _ (h : b ≡ false) {d : Bool} (e' : d ≡ refuses most_contrasts n n (length q)) where
    pub qr_second : d ≡ true → ((q, r), false) ≡ qr_decomposition n a (q, r)
    unfolding qr_decomposition
    qr_second h' = rw (← e, h, ← e', h')

    module _ (h' : d ≡ false) {f : Bool} (e'' : f ≡ refuses most_contrasts n n (length r)) where
      pub qr_third : f ≡ true → ((q, r), false) ≡ qr_decomposition n a (q, r)
      unfolding qr_decomposition
      qr_third h'' = rw (← e, h, ← e', h', ← e'', h'')

      pub qr_taken : {q₁ r₁ q₂ r₂ q₃ r₃ : List Float} → f ≡ false
          → q₁ ≡ wiped (n * n) q → r₁ ≡ wiped (n * n) r → (q₂, r₂) ≡ qr_columns n a (q₁, r₁) → q₃ ≡ q₂ → r₃ ≡ r₂ → ((q₃, r₃), true) ≡ qr_decomposition n a (q, r)
      unfolding qr_decomposition qr_of
      qr_taken h'' u v w s t = rw (← e, h, ← e', h', ← e'', h'', ← u, ← v, ← w, s, t)

module _ (n : ℕ) (m v : List Float) {b : Bool} (e : b ≡ refuses most_contrasts n n (length m)) where
  pub eigen_first : b ≡ true → ((m, v), false) ≡ compute_eigenvalues n (m, v)
  unfolding compute_eigenvalues
  eigen_first h = rw (← e, h)

  module _ (h : b ≡ false) {d : Bool} (e' : d ≡ refuses most_contrasts n 1 (length v)) where
    pub eigen_second : d ≡ true → ((m, v), false) ≡ compute_eigenvalues n (m, v)
    unfolding compute_eigenvalues
    eigen_second h' = rw (← e, h, ← e', h')

    pub eigen_taken : {x y : List Float} → d ≡ false → x ≡ rounds n m → y ≡ diagonal n x v → ((x, y), true) ≡ compute_eigenvalues n (m, v)
    unfolding compute_eigenvalues
    eigen_taken h' q r = rw (← e, h, ← e', h', ← q, r)

-- the first k places lent on and wiped
pub wiped_part : (k : ℕ) (m z : List Float) → k ≤ length m → k ≤ scratch_places → z ≡ wipedAll (take k m) → z ++ drop k m ≡ wiped k m
unfolding wiped zeros
wiped_part k m z h l e =
    let t = length-take-le k m h in
    rw (e, wiped_short (take k m) (omega (arith, t)), t, length-replicate)
