use Rattle.std.proofs.Common.{◌-◌, length}
use Rattle.text_io.proofs.LineParts.{IsReadSoFar}
use Rattle.text_io.proofs.line.read_line.Given as goal

abbrev pub invariant-loop-reader : goal.invariant-loop-reader
invariant-loop-reader g l = IsReadSoFar g.row.KEPT (g.R.Read.remaining l.initial.reader) (g.R.Read.remaining l.reader) l.line.items

abbrev pub decreases-loop-reader : goal.decreases-loop-reader
decreases-loop-reader g l = g.row.KEPT - length l.line.items
