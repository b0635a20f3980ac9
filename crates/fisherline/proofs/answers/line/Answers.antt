-- The name, the numbers and the newline are put one behind the other; the caller's room for the whole line is room for each.
use Rattle.std.proofs.Common.{◌∷◌}
use Rattle.base.specs.Lists.{run}
use Rattle.fisherline.proofs.Spaced.{line_room, line_made}
use Rattle.fisherline.proofs.answers.line.Goals as goal

pub put_words-b-requires : goal.put_words-b-requires
put_words-b-requires g c =
    line_room c.args.out.now c.args.at c.args.name.now (run (λ x. 32 ∷ g.T.Word.word x) c.args.xs.now) c.requires c.put-a.ensures

pub returns : goal.returns
returns g c =
    line_made c.args.out.now c.args.at c.args.name.now (run (λ x. 32 ∷ g.T.Word.word x) c.args.xs.now) c.requires c.put-a.ensures c.put_words-b.ensures c.put.ensures
