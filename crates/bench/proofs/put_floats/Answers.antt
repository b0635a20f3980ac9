-- Each float's eight bytes are put where those before it end: what is left to put from float i on gives the whole.
use Prim.Native.Nat.{◌≤◌, ◌+◌}
use mathlib.Core.Path.{◌≡◌, ◌∙◌, ap}
use native.Mathlib.Omega.{arith}
use lib.ListN.{length, get_or}
use lib.Seq.{sets, length-sets}
use lib.Ieee.{nan}
use Rattle.set.specs.Bytes.{bytes}
use Rattle.base.proofs.Runs.{run_step}
use Rattle.text.proofs.Puts.{put_lays, put_place}
use Rattle.bench.proofs.Writes.{eight}
use Rattle.bench.specs.Calls.{float_bytes}
use Rattle.bench.proofs.put_floats.Goals as goal

pub loop-x-preserved : goal.loop-x-preserved
loop-x-preserved c =
    let i = c.loop-x.x-index in
    let x = get_or c.args.figures.now i nan in
    let e : c.le_bytes.result ≡ float_bytes x = c.le_bytes.ensures ∙ ap (bytes 8) c.bits_of.ensures in
    let n : length c.le_bytes.result ≡ 8 = ap length e ∙ eight x in
    let room : c.loop-x.at + length c.le_bytes.result ≤ length c.loop-x.out = omega (arith, n, c.requires, c.loop-x.invariant.0, c.loop-x.invariant.1, c.loop-x-test.true) in
    let laid : c.put-at.new.out ≡ sets c.loop-x.out c.loop-x.at (float_bytes x) = put_lays c.loop-x.out c.loop-x.at c.le_bytes.result room c.put-at.ensures ∙ ap (sets c.loop-x.out c.loop-x.at) e in
    let behind : c.put-at.result ≡ c.loop-x.at + 8 = put_place c.loop-x.out c.loop-x.at c.le_bytes.result room c.put-at.ensures ∙ ap (λ k. c.loop-x.at + k) n in (
      rw (laid, length-sets) c.loop-x.invariant.0,
      omega (arith, behind, c.loop-x.invariant.1),
      run_step float_bytes c.args.figures.now nan i c.loop-x-test.true c.loop-x.out c.loop-x.at c.loop-x.invariant.2 laid (rw (eight x) behind),
    )
