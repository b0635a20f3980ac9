-- A design that passed the checks has its table.
use Prim.Native.Nat.{ℕ}
use mathlib.Core.Path.{◌≡◌}
use mathlib.Core.List.{List}
use borrow.Author.Tests.{le-ltb, eq-eqb}
use lib.Ieee.{Float}
use Rattle.repeated_grid.specs.declared.RmTable.{RmTable}
use Rattle.repeated_checks.specs.Inner.{Passed}
use Rattle.repeated_grid.specs.Table.{table_of, rm_table}

pub table_there : (xs : List Float) (ns : List ℕ) (n k : ℕ) (t : RmTable) → Passed xs ns n k → t ≡ rm_table xs n k → t ≡ table_of xs n k
unfolding rm_table
table_there xs ns n k t p e = rw (le-ltb 64 n p.high_n, le-ltb 12 k p.high_k, eq-eqb _ _ p.all) at e
