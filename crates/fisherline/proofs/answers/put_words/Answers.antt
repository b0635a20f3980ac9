-- Each number is put where the one before it ended: what is left to put from number i on gives the whole.
use Rattle.std.proofs.Common.{◌∙◌, arith}
use Rattle.fisherline.proofs.Spaced.{spaced_turn, item_put, spaced_ends}
use Rattle.fisherline.proofs.answers.put_words.Goals as goal

pub loop-x-preserved : goal.loop-x-preserved
loop-x-preserved g c =
    let x = c.x-item.result in
    let here = item_put g.T.Word.word c.args.xs.now c.loop-x.x-index x c.put-a.new.out c.put-a.result c.x-item.is c.put-a-in-loop-x.ensures in
    let t = spaced_turn g.T.Word.word c.args.xs.now x c.loop-x.x-index c.loop-x-test.true c.loop-x.out c.loop-x.a c.loop-x.invariant.1 (omega (arith, c.requires, c.loop-x.invariant.0)) c.loop-x.invariant.2
    c.put-a.ensures here in
    (t.0 ∙ c.loop-x.invariant.0, t.1, t.2)

pub returns : goal.returns
returns g c =
    spaced_ends g.T.Word.word c.args.xs.now c.loop-x.x-index c.loop-x.out c.args.out.now c.loop-x.a c.args.at c.loop-x-test.false c.loop-x.invariant.1 c.loop-x.invariant.2
