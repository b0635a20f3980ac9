-- What a reading set says, and which sets are refused. bs are the bytes.
use Rattle.std.specs.Prelude.{ℕ, ◌+◌, ◌*◌, List, map, ltb, eqb, Float, length, take, drop, replicate, Result}
use Rattle.base.specs.declared.Refusal.{Refusal}
use Rattle.base.specs.Limits.{most_groups, most_readings}
use Rattle.base.specs.Lists.{total, over, words}
use Rattle.base.specs.Refusals.{refuse, when, unless, ◌or_else◌, guarded, judged}
use Rattle.float.specs.Words.{plus_zero}
use Rattle.oneway.specs.declared.AnovaKind.{AnovaKind}
use Rattle.results.specs.declared.OneWayAnovaResult.{OneWayAnovaResult}
use Rattle.results.specs.Results.{refused_result, no_sizes}
use Rattle.oneway.specs.Anova.{one_way_anova}
use Rattle.set.specs.declared.ReadingSet.{ReadingSet}
use Rattle.set.specs.Bytes.{little, reading}

-- the group count: the first two bytes
abbrev pub group_count : List ℕ → ℕ
group_count bs = little (take 2 bs)

-- the sizes: as many pairs of bytes behind the count
abbrev pub set_sizes : List ℕ → List ℕ
set_sizes bs = map little (words 2 (group_count bs) (drop 2 bs))

-- how long the contents are, and the whole set
abbrev pub contents_length : List ℕ → ℕ
contents_length bs = 2 + group_count bs * 2

abbrev pub set_length : List ℕ → ℕ
set_length bs = contents_length bs + total (set_sizes bs) * 8

-- how long a set can be
abbrev pub longest_set : ℕ
longest_set = 2 + most_groups * 2 + most_readings * 8

-- the readings: as many eights of bytes behind the contents as the sizes add up to
abbrev pub set_readings : List ℕ → List Float
set_readings bs = map reading (words 8 (total (set_sizes bs)) (drop (contents_length bs) bs))

-- the checks of a set, in document 01's order: under two bytes, the count, contents cut short, readings, the total length
unfoldable pub set_refusal : List ℕ → Refusal
set_refusal bs =
    when (ltb (length bs) 2) (refuse 10 2 (length bs))
    or_else when (ltb most_groups (group_count bs)) (refuse 11 1 (group_count bs))
    or_else when (ltb (length bs) (contents_length bs)) (refuse 10 (contents_length bs) (length bs))
    or_else when (ltb most_readings (total (set_sizes bs))) (refuse 11 2 (total (set_sizes bs)))
    or_else unless (eqb (length bs) (set_length bs)) (refuse 10 (set_length bs) (length bs))

-- sizes and readings in their arrays, and zeros behind them
unfoldable pub no_readings : List Float
no_readings = replicate most_readings plus_zero

abbrev pub set_of : List ℕ → List Float → ReadingSet
set_of ns xs = record { n_groups = length ns; n_total = length xs; sizes = over ns no_sizes; readings = over xs no_readings }

-- a set that is read
unfoldable pub read_set : List ℕ → Result ReadingSet Refusal
read_set bs = judged (set_refusal bs) (set_of (set_sizes bs) (set_readings bs))

-- a set that is analysed: the set's checks, then one-way's
unfoldable pub set_anova : AnovaKind → List ℕ → OneWayAnovaResult
set_anova kind bs = guarded (set_refusal bs) refused_result (one_way_anova kind (set_readings bs) (set_sizes bs))
