use Rattle.step_core.proofs.OwnRange.{row-at}
use Rattle.step_core.proofs.weights.Weighing.weight_of.Goals as goal

pub kept_count-requires-clause-rows : goal.kept_count-requires-clause-rows
kept_count-requires-clause-rows c = row-at c.args.self.now.system.now c.args.connector c.index-rows.result.now c.requires.connector c.index-rows.ensures

pub sum_of_ways-requires-clause-rows : goal.sum_of_ways-requires-clause-rows
sum_of_ways-requires-clause-rows c = row-at c.args.self.now.system.now c.args.connector c.index-rows.result.now c.requires.connector c.index-rows.ensures
