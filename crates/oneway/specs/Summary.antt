-- What every analysis tells of its groups, from their rows.
use Rattle.std.specs.Prelude.{ℕ, List, map, Float}
use Rattle.base.specs.Lists.{total, over}
use Rattle.oneway_rows.specs.declared.Row.{Row}
use Rattle.results.specs.Results.{no_sizes, no_means}

abbrev pub size_of : Row → ℕ
size_of r = r.size

abbrev pub row_mean : Row → Float
row_mean r = r.mean

-- how many readings the rows stand for
abbrev pub n_total : List Row → ℕ
n_total rs = total (map size_of rs)

-- the groups' sizes and means, and zeros behind them
abbrev pub group_sizes : List Row → List ℕ
group_sizes rs = over (map size_of rs) no_sizes

abbrev pub group_means : List Row → List Float
group_means rs = over (map row_mean rs) no_means
