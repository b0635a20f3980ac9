-- The second list is put behind the first: both together are one list laid over the front.
use native.Mathlib.Omega.{arith}
use borrow.Author.Rules.{rules}
use Rattle.speed_oneway.proofs.Laid.{laid_both}
use Rattle.speed_oneway.proofs.hand_out.Goals as goal

pub returns : goal.returns
returns c =
    laid_both c.args.figures c.args.means c.args.out.now _ _ 9 (search rules) (omega (arith, c.requires)) c.put.ensures c.put-2.ensures
