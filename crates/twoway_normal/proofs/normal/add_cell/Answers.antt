-- The products go to the system and the row of codes behind it: two parts of the lent memory that do not meet.
use Prim.Native.Nat.{◌+◌, ◌-◌, ◌*◌}
use mathlib.Core.Path.{◌≡◌, ap, ◌∙◌}
use native.Mathlib.Omega.{arith}
use lib.ListN.{length}
use Rattle.twoway_normal.specs.Counted.{cell_row}
use Rattle.twoway_normal.specs.Equations.{rows_from}
use Rattle.twoway_normal.proofs.Built.{row_length}
use Rattle.twoway_normal.proofs.Keeping.{Room, rows_room, passed_over, cell_lent}
use Rattle.twoway_normal.proofs.normal.add_cell.Goals as goal

pub returns-then-n-eq0 : goal.returns-then-n-eq0
returns-then-n-eq0 c =
    let sizes : Room c.args.levels.a c.args.levels.b = rows_room c.args.levels.a c.args.levels.b c.args.levels.in_range.1 c.args.levels.in_range.3 in
    passed_over c.args.levels.a c.args.levels.b c.args.c c.args.n sizes c.requires c.args.work.now (omega arith) c.if-n-eq0.true

pub returns : goal.returns
unfolding cell_row
returns c =
    let sizes : Room c.args.levels.a c.args.levels.b = rows_room c.args.levels.a c.args.levels.b c.args.levels.in_range.1 c.args.levels.in_range.3 in
    let wide : length c.design_row-x.result ≡ 37 = ap length c.design_row-x.ensures ∙ row_length _ _ _ _ _ in
    let z = sizes in
    let p = c.args.levels.a * c.args.levels.b in
    let q = rows_from + c.args.c * p in
    cell_lent c.args.levels.a c.args.levels.b c.args.c c.args.n z c.requires c.args.work.now (omega arith) (p * (p + 1) - 0) (q + p - q) (p - 0) (omega arith) (omega arith) (omega arith)
    c.if-n-eq0.false c.design_row-x.ensures (omega (arith, z, wide)) c.add_products.ensures (omega arith) c.put.ensures
