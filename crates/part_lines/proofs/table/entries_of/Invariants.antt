-- The entries so far, and those of the lines that are left, are all entries.
use Rattle.std.proofs.Common.{◌≡◌, ◌++◌, length}
use Rattle.plant_words.specs.Lines.{lines_of}
use Rattle.part_lines.specs.Table.{entries_from}
use Rattle.part_lines.proofs.table.entries_of.Given as goal

abbrev pub invariant-loop-line : goal.invariant-loop-line
invariant-loop-line l = l.entries.items ++ entries_from l.number l.lines ≡ entries_from 1 (lines_of l.text)

abbrev pub decreases-loop-line : goal.decreases-loop-line
decreases-loop-line l = length l.lines
