use Rattle.std.proofs.Common.{◌%◌, ◌∙◌, arith}
use Rattle.plant_model.proofs.WordSets.{bit-kept, bit-put}
use Rattle.plant_model.proofs.connector_judge.put_own.Goals as goal

pub returns-clause-put : goal.returns-clause-put
returns-clause-put c n at its =
    c.set_word.ensures.here n at ∙ bit-put c.word-before.result c.args.own c.args.here (n % 64) (omega arith) (omega arith) its

pub returns-clause-kept : goal.returns-clause-kept
returns-clause-kept c n at out none =
    c.set_word.ensures.here n at ∙ bit-kept c.word-before.result c.args.own c.args.here (n % 64) (omega arith) (omega arith) out none ∙ c.word-before.ensures n at
