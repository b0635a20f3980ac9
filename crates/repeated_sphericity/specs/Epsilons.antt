-- The two epsilons: 1.0 where the conditions are spherical, less the further they are from it. There are n subjects, k conditions and p = k - 1 eigenvalues vs.
use Rattle.std.specs.Prelude.{ℕ, ◌-◌, Bool, cond, ◌&&◌, List, take, Float}
use Rattle.std.specs.Float.Ieee.{lt}
use Rattle.float.specs.Words.{◌⊖◌, ◌⊗◌, ◌⊘◌, count, square, plus_zero, one, two, tinier}
use Rattle.float.specs.Singles.{is_finite, least_of, greatest_of}
use Rattle.stats.specs.Sums.{sum, sum_by}
use Rattle.matrix_eigen.specs.Qr.{blank_column}
use Rattle.matrix_eigen.specs.Values.{compute_eigenvalues}

-- the p eigenvalues of the matrix m, p rows of p, in the first of 11 places
unfoldable pub values : ℕ → List Float → List Float
values p m = (compute_eigenvalues p (m, blank_column)).0.1

-- those alone
abbrev pub eigenvalues : ℕ → List Float → List Float
eigenvalues p m = take p (values p m)

-- `.map(|e| e * e).sum()`
abbrev pub square_sum : List Float → Float
square_sum vs = sum_by square vs

-- `sum * sum / (p as f64 * sum_sq)` where the sum of squares is above 1e-15, which a NaN is not; else 1.0
unfoldable pub gg_raw : ℕ → List Float → Float
gg_raw p vs = cond (lt tinier (square_sum vs)) ((sum vs ⊗ sum vs) ⊘ (count p ⊗ square_sum vs)) one

-- Greenhouse and Geisser's epsilon: `.max(1.0 / (k - 1) as f64).min(1.0)`
unfoldable pub epsilon_gg : ℕ → List Float → Float
epsilon_gg k vs = least_of (greatest_of (gg_raw (k - 1) vs) (one ⊘ count (k - 1))) one

-- `k as f64 - 1.0`
abbrev pub one_less : ℕ → Float
one_less k = count k ⊖ one

-- Huynh and Feldt's estimate from the epsilon e: `(n p e - 2) / (p (n - 1 - p e))`
unfoldable pub hf_raw : ℕ → ℕ → Float → Float
hf_raw n k e = (count n ⊗ one_less k ⊗ e ⊖ two) ⊘ (one_less k ⊗ (count n ⊖ one ⊖ one_less k ⊗ e))

-- can it be used: is it finite and above 0?
unfoldable pub usable : Float → Bool
usable hf = is_finite hf && lt plus_zero hf

-- that estimate, but 1.0 at most; where it cannot be used, the epsilon e
unfoldable pub epsilon_hf : ℕ → ℕ → Float → Float
epsilon_hf n k e = cond (usable (hf_raw n k e)) (least_of (hf_raw n k e) one) e
