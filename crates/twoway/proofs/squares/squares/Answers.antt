-- Balanced where the first unlike count is the first: then the plain formulas, and the scratch is wiped; else Type III, which a design that is ready always fits.
use Rattle.twoway.proofs.Design.{type3_way}
use Rattle.twoway.proofs.squares.squares.Goals as goal

pub returns-else-other_count-first : goal.returns-else-other_count-first
returns-else-other_count-first c =
    type3_way _ _ _ _ _ _ _ _ _ _ c.other_count.ensures _ c.if-other_count-first.false c.requires c.type3_ss.ensures
