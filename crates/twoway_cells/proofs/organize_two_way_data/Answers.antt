-- A refusal is handed on and nothing is touched; an accepted design has the codes and the room that the sort asks.
use Rattle.std.proofs.Common.{◌∙◌}
use Rattle.twoway_cells.proofs.Answers.{organized_tallied, organized_passed}
use Rattle.twoway_cells.proofs.organize_two_way_data.Goals as goal

pub lay-requires : goal.lay-requires
lay-requires c = organized_tallied _ _ _ _ c.check_two_way_data.ensures c.in_ok-d.was

pub returns : goal.returns
returns c = organized_passed _ _ _ _ c.check_two_way_data.ensures c.in_ok-d.was _ c.lay.ensures
