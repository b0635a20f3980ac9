-- The cells give X'X, the readings X'y, and both stand in the system's part of the lent memory; the rows that come between them lie behind it, and are wiped.
use Prim.Native.Nat.{◌-◌, ◌+◌, ◌*◌}
use mathlib.Core.Path.{◌≡◌}
use native.Mathlib.Omega.{arith}
use lib.ListN.{length}
use Rattle.twoway_normal.specs.Counted.{cells_of}
use Rattle.twoway_normal.specs.Equations.{rows_from, rows_places}
use Rattle.twoway_normal.proofs.Keeping.{Room, rows_room, kept_lent, system_lent}
use Rattle.twoway_normal.proofs.normal.normal_system.Goals as goal

pub value_sums-sums-requires : goal.value_sums-sums-requires
value_sums-sums-requires c =
    let sizes : Room c.args.a c.args.b = rows_room c.args.a c.args.b c.requires.most_a c.requires.most_b in
    let n = cells_of c.args.a c.args.b * (c.args.a * c.args.b) in
    (c.requires, omega (arith, sizes), kept_lent _ _ _ _ _ c.requires (rows_from + n - rows_from) (omega arith) c.count_cells-counts.ensures _ c.add_cells.ensures.rows)

pub returns : goal.returns
returns c =
    let long : length c.add_cells.new.work ≡ length c.args.work.now = omega arith in
    let p = c.args.a * c.args.b in
    system_lent c.args.values.now c.args.factor_a.now c.args.factor_b.now c.args.a c.args.b c.requires
    (p * (p + 1) - 0) (rows_from + rows_places c.args.a c.args.b - rows_from) (omega arith) (omega arith) c.count_cells-counts.ensures c.args.work.now _ c.value_sums-sums.result (omega arith) long
    c.wipe.ensures (omega arith) c.add_cells.ensures.system c.add_cells.ensures.aside c.value_sums-sums.ensures c.put_column.ensures (omega arith) c.wipe-2.ensures
