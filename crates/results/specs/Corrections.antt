-- The corrections of a repeated-measures analysis where there are none.
use Rattle.float.specs.Words.{plus_zero}
use Rattle.results.specs.declared.CorrectedResult.{CorrectedResult}
use Rattle.results.specs.declared.Corrections.{Corrections}

-- zeros for one corrected analysis
abbrev pub no_corrected : CorrectedResult
no_corrected = record {
  epsilon = plus_zero;
  df_num_corrected = plus_zero;
  df_den_corrected = plus_zero;
  f_statistic = plus_zero;
}

-- nothing but zeros
abbrev pub no_corrections : Corrections
no_corrections = record {
  sphericity = record { w = plus_zero; df = plus_zero };
  greenhouse_geisser = no_corrected;
  huynh_feldt = no_corrected;
}
