-- What is found unlike the first count, or the first itself.
use Rattle.std.proofs.Common.{rules, not, eqb, tests}
use Rattle.std.proofs.lemmas.Iterator.{YieldsList-from_slice}
use Rattle.std.proofs.lemmas.Iterator.Search.{find_from_yields_List}
use Rattle.twoway_balanced.proofs.Lines.{unlike_found, shown_or}
use Rattle.twoway_balanced.specs.Squares.{other_count}
use Rattle.twoway_balanced.proofs.other_count.Goals as goal

pub returns : goal.returns
unfolding other_count
returns c =
    let n = c.in-Some.first.now in
    let found = find_from_yields_List (λ m. not (eqb m n)) _ _ c.find.result c.find.ensures.ran (YieldsList-from_slice _ c.iter.ensures.rest) (λ x b q k. search (rules, tests)) in
    rw (c.unwrap_or.ensures, shown_or c.find.result c.in-Some.first, found, unlike_found n) (search rules)
