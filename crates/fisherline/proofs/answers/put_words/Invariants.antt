-- What is left to put from number i on gives the whole.
use Rattle.std.proofs.Common.{◌≡◌, ◌+◌, ◌∷◌, length, drop}
use lib.Seq.{sets}
use Rattle.base.specs.Lists.{run}
use Rattle.fisherline.proofs.answers.put_words.Given as goal

abbrev pub invariant-loop-x : goal.invariant-loop-x
invariant-loop-x g l =
    (length l.out ≡ length l.initial.out)
    × (l.a + length (run (λ x. 32 ∷ g.T.Word.word x) (drop l.x-index l.xs)) ≡ l.at + length (run (λ x. 32 ∷ g.T.Word.word x) l.xs))
    × (sets l.out l.a (run (λ x. 32 ∷ g.T.Word.word x) (drop l.x-index l.xs)) ≡ sets l.initial.out l.at (run (λ x. 32 ∷ g.T.Word.word x) l.xs))
