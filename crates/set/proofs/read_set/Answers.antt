-- The checks stand in the definition's order. What each one needs of the bytes lies within the length that those before it asked, and a set that passed them all is long enough for its readings.
use borrow.Author.Tests.{eqb-false}
use mathlib.Core.Path.{refl}
use Rattle.set.proofs.Littles.{two_first}
use Rattle.set.proofs.Heads.{counted, fails, too_many_readings, wrong_length}
use Rattle.set.proofs.read_set.Goals as goal

pub returns-then-n-gt-MOST_READINGS : goal.returns-then-n-gt-MOST_READINGS
returns-then-n-gt-MOST_READINGS c = fails c.args.set.now c.new-then-n-gt-MOST_READINGS.ensures (too_many_readings c.args.set.now c.if-len-lt2.false c.from_le_bytes-k.result (two_first c.args.set.now c.if-len-lt2.false c.from_le_bytes-k.ensures) c.if-k-gt-MOST_GROUPS.false c.if-len-contents.false c.sizes_in-total.result.total (counted c.args.set.now c.from_le_bytes-k.result c.sizes_in-total.ensures) c.if-n-gt-MOST_READINGS.true) (eqb-false 11 0 refl)

pub returns-then-len-needed : goal.returns-then-len-needed
returns-then-len-needed c = fails c.args.set.now c.new-then-len-needed.ensures (wrong_length c.args.set.now c.if-len-lt2.false c.from_le_bytes-k.result (two_first c.args.set.now c.if-len-lt2.false c.from_le_bytes-k.ensures) c.if-k-gt-MOST_GROUPS.false c.if-len-contents.false c.sizes_in-total.result.total (counted c.args.set.now c.from_le_bytes-k.result c.sizes_in-total.ensures) c.if-n-gt-MOST_READINGS.false c.if-len-needed.true) (eqb-false 10 0 refl)
