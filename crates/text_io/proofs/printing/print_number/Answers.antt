use Rattle.std.proofs.Common.{rules}
use Rattle.text_io.proofs.printing.print_number.Goals as goal

pub returns : goal.returns
returns g c = search rules
