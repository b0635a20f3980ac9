-- As many places are filled as the number has digits, at most 20, and `put` puts those.
use Rattle.std.proofs.Common.{◌∙◌, ap, sym, ◌≡◌, arith, length, take, length-take-le}
use lib.ListN.{replicate}
use Rattle.text.specs.Numbers.{digits, width_of, numeral_of}
use Rattle.text.specs.Put.{put_of}
use Rattle.text.proofs.Numerals.{width_fits}
use Rattle.text.proofs.put_decimal.Goals as goal

pub slice_bounds-digits-end : goal.slice_bounds-digits-end
slice_bounds-digits-end c = sym (length-take-le c.width.result _ (omega (arith, width_fits c.args.n, c.width.ensures)))

pub returns : goal.returns
unfolding numeral_of
returns c =
    let places : length (take c.width.result (replicate 20 0)) ≡ width_of c.args.n = length-take-le c.width.result (replicate 20 0) (omega (arith, width_fits c.args.n, c.width.ensures)) ∙ c.width.ensures in
    c.put.ensures ∙ ap (put_of c.args.out.now c.args.at) (c.fill.ensures ∙ ap (λ k. digits 10 k c.args.n) places)
