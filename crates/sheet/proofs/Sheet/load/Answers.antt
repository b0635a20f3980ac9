-- Sizes that add up leave no reading out, so the readings laid over zeros are the groups one after another. The zero sheet is the sheet of no groups.
use lib.Ieee.{of_bits}
use Rattle.sheet.specs.Sheets.{zero_places}
use Rattle.sheet.proofs.Loaded.{load_made}
use Rattle.sheet.proofs.Sheet.load.Goals as goal

pub returns : goal.returns
unfolding zero_places of_bits
returns c =
    load_made _ _ c.validate_anova_groups-stats.result c.validate_anova_groups-stats.ensures c.check.ensures c.in_default.is c.put.ensures c.none.ensures
