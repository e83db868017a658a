use Rattle.run_text.proofs.ShownWord.{printed}
use Rattle.run_text.proofs.shown_word.WordDisplay.fmt.Goals as goal

pub unreachable-requires : goal.unreachable-requires
unreachable-requires g c = c.in-Err.ensures.cases.0 (rw c.as_bytes.ensures.value (printed c.args.self.now c.as_bytes.ensures.printable))
