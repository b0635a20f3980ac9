-- Cell after cell is added, and the rows of those before it stay, and what lies beside the system and the rows.
use native.Mathlib.Omega.{arith}
use Rattle.base.proofs.Loops.{step, ends}
use Rattle.twoway_normal.specs.Counted.{cells_of}
use Rattle.twoway_normal.proofs.Coded.{cells_few}
use Rattle.twoway_normal.proofs.Heads.{first_here, first_long}
use Rattle.twoway_normal.proofs.Keeping.{rows_room, kept_next, aside_then, aside_cell}
use Rattle.twoway_normal.proofs.normal.add_cells.Goals as goal

pub loop-c-preserved : goal.loop-c-preserved
loop-c-preserved c =
    let room = rows_room c.args.levels.a c.args.levels.b c.args.levels.in_range.1 c.args.levels.in_range.3 in
    let few = cells_few c.args.levels.a c.args.levels.b c.args.levels.in_range.1 c.args.levels.in_range.3 in
    let h = first_here _ c.args.counts.now (omega (arith, few)) 0 c.loop-c-test.true in
    let added = rw h.1 at c.add_cell.ensures in (
      omega arith,
      step _ _ _ _ _ _ c.loop-c.invariant.1 h.0 added.system,
      kept_next c.args.levels.a c.args.levels.b c.loop-c.c c.args.counts.now c.loop-c.work _ room c.loop-c.invariant.2 added,
      aside_then c.args.levels.a c.args.levels.b c.args.work.now c.loop-c.work _ c.loop-c.invariant.3 (aside_cell _ _ _ _ _ _ room h.0 added),
    )

pub returns : goal.returns
returns c =
    let few = cells_few c.args.levels.a c.args.levels.b c.args.levels.in_range.1 c.args.levels.in_range.3 in
    let all = first_long (cells_of c.args.levels.a c.args.levels.b) c.args.counts.now (omega (arith, few)) in
    record { system = ends _ _ _ _ _ c.loop-c.invariant.1 (omega (arith, all)); rows = λ d h. c.loop-c.invariant.2 d (omega (arith, all)); aside = c.loop-c.invariant.3 }
