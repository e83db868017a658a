use Rattle.std.proofs.Common.{◌%◌, ◌∙◌, arith}
use Rattle.plant_model.proofs.WordSets.{bit-kept, bit-put}
use Rattle.step_core.proofs.words.put_word.Goals as goal

pub returns-clause-here : goal.returns-clause-here
returns-clause-here c n at its =
    c.set_word.ensures.here n at ∙ bit-put c.word-before.result c.args.own c.args.word (n % 64) (omega arith) (omega arith) its

pub returns-clause-out : goal.returns-clause-out
returns-clause-out c n at out =
    c.set_word.ensures.here n at ∙ bit-kept c.word-before.result c.args.own c.args.word (n % 64) (omega arith) (omega arith) out (c.requires.own (n % 64) out) ∙ c.word-before.ensures n at
