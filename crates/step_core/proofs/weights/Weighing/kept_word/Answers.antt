use Rattle.step_core.proofs.ConnectorRange.{word-of}
use Rattle.step_core.proofs.weights.Weighing.kept_word.Goals as goal

pub returns : goal.returns
returns c =
    word-of c.args.self.now c.args.connector c.index.result.now c.requires.connector c.index.ensures c.args.place c.word.result c.word-2.result c.word.ensures c.word-2.ensures
