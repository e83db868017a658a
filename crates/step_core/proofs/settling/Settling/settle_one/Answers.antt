use Rattle.step_core.proofs.OwnRange.{row-at}
use Rattle.step_core.proofs.settling.Settling.settle_one.Goals as goal

pub settle_word-requires-clause-rows : goal.settle_word-requires-clause-rows
settle_word-requires-clause-rows c = row-at c.args.self.now.system.now c.args.connector c.index-rows.result.now c.requires.connector c.index-rows.ensures
