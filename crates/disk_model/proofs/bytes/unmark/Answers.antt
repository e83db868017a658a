use Rattle.std.proofs.Common.{◌∙◌, arith}
use Rattle.disk_model.proofs.Stretches.{clear_empty, cleared}
use Rattle.disk_model.proofs.bytes.unmark.Goals as goal

pub returns-then-stretch : goal.returns-then-stretch
returns-then-stretch c = c.mark.ensures ∙ cleared c.args.stretch c.args.marks.now c.if-stretch.true c.requires.inside c.requires.outside

pub returns-else-stretch : goal.returns-else-stretch
returns-else-stretch c = clear_empty c.args.stretch c.args.marks.now (omega (arith, c.if-stretch.false)) c.requires.outside
