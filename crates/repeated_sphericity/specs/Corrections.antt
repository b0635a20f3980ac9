-- `compute_sphericity_corrections`: W and the two corrected analyses of n subjects under k conditions. The readings xs lie subject by subject; ms are the conditions' means.
use Rattle.std.specs.Prelude.{ℕ, ◌-◌, Bool, cond, ◌&&◌, List, leb, Float}
use Rattle.float.specs.Words.{◌⊗◌}
use Rattle.matrix_eigen.specs.Values.{zeros}
use Rattle.repeated_contrasts.specs.Contrasts.{contrast_covariance}
use Rattle.repeated_sphericity.specs.Epsilons.{eigenvalues, epsilon_gg, epsilon_hf}
use Rattle.repeated_sphericity.specs.Mauchly.{mauchly_w, df_w}
use Rattle.results.specs.Corrections.{no_corrections}
use Rattle.results.specs.declared.SphericityResult.{SphericityResult}
use Rattle.results.specs.declared.CorrectedResult.{CorrectedResult}
use Rattle.results.specs.declared.Corrections.{Corrections}

-- C S C', k - 1 rows of k - 1 places, in the first of 121 places; and whether the sizes were taken
unfoldable pub csc : ℕ → ℕ → List Float → List Float → List Float × Bool
csc n k xs ms = contrast_covariance n k xs ms zeros

-- the epsilon of the eigenvalues of the matrix m
unfoldable pub gg_of : ℕ → List Float → Float
gg_of k m = epsilon_gg k (eigenvalues (k - 1) m)

-- W and its degrees of freedom, of the matrix m of p rows of p
abbrev pub sphericity_of : ℕ → List Float → SphericityResult
sphericity_of p m = record { w = mauchly_w p m; df = df_w p }

-- both degrees of freedom times the epsilon; F is as it was
abbrev pub corrected : Float → Float → Float → Float → CorrectedResult
corrected f dn dd e = record {
  epsilon = e;
  df_num_corrected = dn ⊗ e;
  df_den_corrected = dd ⊗ e;
  f_statistic = f;
}

-- everything, from the matrix m
unfoldable pub corrections_of : ℕ → ℕ → List Float → Float → Float → Float → Corrections
corrections_of n k m f dn dd = record {
  sphericity = sphericity_of (k - 1) m;
  greenhouse_geisser = corrected f dn dd (gg_of k m);
  huynh_feldt = corrected f dn dd (epsilon_hf n k (gg_of k m));
}

-- three conditions or more, and sizes that `contrast_covariance` takes (2 to 64 subjects, up to 12 conditions, a reading for each of both, a mean for each condition),
-- give their corrections; else nothing but zeros
unfoldable pub compute_sphericity_corrections : ℕ → ℕ → List Float → List Float → Float → Float → Float → Corrections
compute_sphericity_corrections n k xs ms f dn dd = cond (leb 3 k && (csc n k xs ms).1) (corrections_of n k (csc n k xs ms).0 f dn dd) no_corrections
