use Rattle.std.proofs.Common.{rules}
use Rattle.text_io.proofs.reading.next_part.Goals as goal

pub returns-clause-bytes : goal.returns-clause-bytes
returns-clause-bytes g c = search rules
