-- Numbers laid into memory.
use Rattle.std.specs.Prelude.{cond, List, ltb, Float, length}
use Rattle.base.specs.Lists.{over}

-- the numbers in the first places, and the others as they were; all as they were where there are too few
unfoldable pub laid : List Float → List Float → List Float
laid numbers out = cond (ltb (length out) (length numbers)) out (over numbers out)
