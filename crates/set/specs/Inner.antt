-- What is read of a set's two parts. No public contract cites these words.
use Rattle.std.specs.Prelude.{ℕ, List, Float}
use Rattle.base.specs.Lists.{total, over}
use Rattle.results.specs.Results.{no_sizes}
use Rattle.set.specs.declared.Contents.{Contents}
use Rattle.set.specs.Sets.{no_readings}

-- the sizes in their array, with their sum; the readings in theirs
abbrev pub contents_of : List ℕ → Contents
contents_of ns = record { sizes = over ns no_sizes; total = total ns }

abbrev pub body_of : List Float → List Float
body_of xs = over xs no_readings
