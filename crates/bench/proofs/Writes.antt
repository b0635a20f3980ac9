-- Laws of the calls' writing, and of their three ends: output too short, refused, written.
use mathlib.Core.Path.{◌≡◌}
use mathlib.Core.List.{List}
use Prim.Native.Nat.{ℕ, ◌*◌, ◌<◌, ◌≤◌}
use borrow.Author.Tests.{lt-ltb, le-ltb, eq-eqb, ne_eqb}
use lib.Ieee.{Float, binary64, to_bits}
use lib.ListN.{length}
use Rattle.base.specs.Lists.{over, run}
use Rattle.base.proofs.Runs.{length_run}
use Rattle.oneway.specs.declared.AnovaKind.{AnovaKind}
use Rattle.results.specs.declared.OneWayAnovaResult.{OneWayAnovaResult}
use Rattle.set.specs.Sets.{set_anova}
use Rattle.set.proofs.Littles.{length_bytes}
use Rattle.bench.specs.Calls.{float_bytes, figures, bench_refusal, bench_of}

pub eight : (x : Float) → length (float_bytes x) ≡ 8
eight x = length_bytes 8 (to_bits binary64 x)

pub length_floats : (xs : List Float) → length (run float_bytes xs) ≡ length xs * 8
length_floats xs = length_run float_bytes 8 eight xs

module _ (kind : AnovaKind) (bs out : List ℕ) where
  pub too_short : length out < 48 → (out, 12) ≡ bench_of kind bs out
  unfolding bench_of bench_refusal
  too_short h = rw (lt-ltb (length out) 48 h)

  module _ (h : 48 ≤ length out) (a : OneWayAnovaResult) (e : a ≡ set_anova kind bs) where
    pub refuses : (a.refusal.number ≡ 0 → ⊥) → (out, a.refusal.number) ≡ bench_of kind bs out
    unfolding bench_of bench_refusal
    refuses n = rw (← e, le-ltb (length out) 48 h, ne_eqb a.refusal.number 0 n)

    pub writes : a.refusal.number ≡ 0 → {out' : List ℕ} → out' ≡ over (run float_bytes (figures a)) out → (out', 0) ≡ bench_of kind bs out
    unfolding bench_of bench_refusal
    writes z q = rw (← e, le-ltb (length out) 48 h, eq-eqb a.refusal.number 0 z, q)
