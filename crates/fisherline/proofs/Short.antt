-- How long the lines are: every answer fits into 256 bytes.
use mathlib.Core.Path.{◌≡◌, ap}
use mathlib.Core.Bool.{Bool, true, false, cond}
use mathlib.Core.List.{List, [], ◌∷◌, ◌++◌, flatten}
use Prim.Native.Nat.{ℕ, suc, ◌+◌, ◌*◌, ◌<◌, ◌≤◌}
use native.Mathlib.Omega.{arith}
use borrow.Author.Tests.{lt-ltb, le-ltb, eq-eqb, ne_eqb}
use lib.Dec.{ltb, eqb}
use lib.Ieee.{Float, binary64, to_bits}
use lib.ListN.{length, length-append}
use Rattle.base.specs.declared.Refusal.{Refusal}
use Rattle.base.specs.Refusals.{refuse}
use Rattle.base.specs.Lists.{run}
use Rattle.base.proofs.Runs.{length_run}
use Rattle.oneway.specs.declared.AnovaKind.TheVariants.{Fisher}
use Rattle.results.specs.declared.OneWayAnovaResult.{OneWayAnovaResult}
use Rattle.set.specs.Sets.{set_anova}
use Rattle.text.specs.Numbers.{hex_of, numeral_of, width_of}
use Rattle.text.proofs.Fills.{length_digits}
use Rattle.text.proofs.Numerals.{width_fits}
use Rattle.fisherline.specs.Rows.{spaced_hex, spaced_decimal, floats_line, counts_line, puts}
use Rattle.fisherline.specs.Answers.{refused_name, fisher_name, ss_name, df_name, ms_name, f_name, refused_text, groups_line, ss_line, df_line, ms_line, f_line, fisher_text, result_text, text_of, answer_of}
use Rattle.fisherline.proofs.Spaced.{puts_place, puts_length}

hex_long : (x : Float) → length (spaced_hex x) ≡ 17
unfolding hex_of
hex_long x = ap suc (length_digits 16 16 (to_bits binary64 x))

decimal_short : (n : ℕ) → length (spaced_decimal n) ≤ 21
unfolding numeral_of
decimal_short n = omega (arith, length_digits 10 (width_of n) n, width_fits n)

decimals_short : (ns : List ℕ) → length (run spaced_decimal ns) ≤ length ns * 21
unfolding flatten
decimals_short [] = omega arith
decimals_short (n ∷ ns) = rw length-append (omega (arith, decimal_short n, decimals_short ns))

pub floats_long : (name : List ℕ) (xs : List Float) → length (floats_line name xs) ≡ length name + (length xs * 17 + 1)
floats_long name xs = simp (length-append, length_run spaced_hex 17 hex_long xs)

pub counts_short : (name ns : List ℕ) → length (counts_line name ns) ≤ length name + (length ns * 21 + 1)
counts_short name ns = simp length-append (omega (arith, decimals_short ns))

-- what stands before a line, and the line, fit
pub puts_room : (out t u : List ℕ) {o : List ℕ} {r : ℕ} → (o, r) ≡ puts out 0 t → length t + length u ≤ length out → r + length u ≤ length o
puts_room out t u e h = rw (puts_place out 0 t e, puts_length out 0 t e) (omega arith)

-- Fisher's text up to a line, and how long it is with that line
module _ (a : OneWayAnovaResult) where
  abbrev pub until_ss : List ℕ
  until_ss = groups_line a ++ ss_line a

  abbrev pub until_df : List ℕ
  until_df = until_ss ++ df_line a

  abbrev pub until_ms : List ℕ
  until_ms = until_df ++ ms_line a

  pub two_lines : length (groups_line a) + length (ss_line a) ≤ 103
  two_lines = omega (arith, counts_short fisher_name (a.n_groups ∷ a.n_total ∷ []), floats_long ss_name (a.ss_between ∷ a.ss_within ∷ a.ss_total ∷ []))

  pub three_lines : length until_ss + length (df_line a) ≤ 140
  three_lines = rw (length-append (groups_line a) (ss_line a)) (omega (arith, two_lines, floats_long df_name (a.df_between ∷ a.df_within ∷ [])))

  pub four_lines : length until_df + length (ms_line a) ≤ 177
  four_lines = rw (length-append until_ss (df_line a)) (omega (arith, three_lines, floats_long ms_name (a.ms_between ∷ a.ms_within ∷ [])))

  pub five_lines : length until_ms + length (f_line a) ≤ 196
  five_lines = rw (length-append until_df (ms_line a)) (omega (arith, four_lines, floats_long f_name (a.statistic ∷ [])))

  fisher_short : length (fisher_text a) ≤ 256
  fisher_short = rw (length-append until_ms (f_line a)) (omega (arith, five_lines))

pub refused_short : (r : Refusal) → length (refused_text r) ≤ 71
refused_short r = omega (arith, counts_short refused_name (r.number ∷ r.first ∷ r.second ∷ []))

short_either : (b : Bool) (t u : List ℕ) → length t ≤ 256 → length u ≤ 256 → length (cond b t u) ≤ 256
short_either true t u h k = h
short_either false t u h k = k

pub text_short : (set : List ℕ) → length (text_of set) ≤ 256
unfolding text_of
text_short set =
    let a = set_anova Fisher set in
    short_either (ltb 4130 (length set)) (refused_text (refuse 10 4130 4131)) (result_text a) (omega (arith, refused_short (refuse 10 4130 4131)))
    (short_either (eqb a.refusal.number 0) (fisher_text a) (refused_text a.refusal) (fisher_short a) (omega (arith, refused_short a.refusal)))

-- the ends of a call
module _ (set out : List ℕ) where
  pub too_short : length out < 256 → (out, 0) ≡ answer_of set out
  unfolding answer_of
  too_short h = rw (lt-ltb (length out) 256 h)

  module _ (h : 256 ≤ length out) {o : List ℕ} {n : ℕ} where
    pub too_long : 4130 < length set → (o, n) ≡ puts out 0 (refused_text (refuse 10 4130 4131)) → (o, n) ≡ answer_of set out
    unfolding answer_of text_of
    too_long l e = rw (le-ltb (length out) 256 h, lt-ltb 4130 (length set) l) e

    module _ (l : length set ≤ 4130) (a : OneWayAnovaResult) (q : a ≡ set_anova Fisher set) where
      pub answers_refusal : (a.refusal.number ≡ 0 → ⊥) → (o, n) ≡ puts out 0 (refused_text a.refusal) → (o, n) ≡ answer_of set out
      unfolding answer_of text_of
      answers_refusal z e = rw (le-ltb (length out) 256 h, le-ltb 4130 (length set) l, ← q, ne_eqb a.refusal.number 0 z) e

      pub answers_fisher : a.refusal.number ≡ 0 → (o, n) ≡ puts out 0 (fisher_text a) → (o, n) ≡ answer_of set out
      unfolding answer_of text_of
      answers_fisher z e = rw (le-ltb (length out) 256 h, le-ltb 4130 (length set) l, ← q, eq-eqb a.refusal.number 0 z) e

  -- what is written lies within out
  pub answer_fits : {o : List ℕ} {n : ℕ} → 256 ≤ length out → (o, n) ≡ answer_of set out → n ≤ length o
  unfolding answer_of
  answer_fits h e =
      let p = rw (le-ltb (length out) 256 h) at e in
      rw (puts_place out 0 (text_of set) p, puts_length out 0 (text_of set) p) (omega (arith, text_short set))
