use Rattle.std.proofs.Common.{◌∙◌, sym, arith}
use Rattle.std.proofs.lemmas.Bool.{le-ltb}
use Rattle.priority_filter.proofs.Words.{no-bit-past}
use Rattle.step_core.proofs.settling.has_connector.Goals as goal

pub returns-else-connector-lt64 : goal.returns-else-connector-lt64
returns-else-connector-lt64 c = le-ltb c.args.connector 64 c.if-connector-lt64.false ∙ sym (no-bit-past c.args.word c.args.connector (omega arith) c.if-connector-lt64.false)
