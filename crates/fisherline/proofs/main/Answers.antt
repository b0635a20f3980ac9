-- What is printed lies within the 256 places, since the answer ends within them.
use mathlib.Core.Path.{sym}
use native.Mathlib.Omega.{arith}
use lib.ListN.{replicate}
use lib.Seq.{length-take-le}
use Rattle.fisherline.proofs.Short.{answer_fits}
use Rattle.fisherline.proofs.main.Goals as goal

pub slice_bounds-out-end : goal.slice_bounds-out-end
slice_bounds-out-end c = answer_fits _ (replicate 256 0) (omega arith) c.answer-len.ensures

pub slice_bounds-write_all-end : goal.slice_bounds-write_all-end
slice_bounds-write_all-end c = sym (length-take-le _ _ (answer_fits _ (replicate 256 0) (omega arith) c.answer-len.ensures))
