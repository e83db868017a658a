-- The entry is sought among those from this one on, by the number that is left.
use Rattle.std.proofs.Common.{◌≡◌, drop}
use Rattle.part_lines.specs.Lookup.{line_at}
use Rattle.part_lines.proofs.lookup.line_at.Given as goal

abbrev pub invariant-loop-entry : goal.invariant-loop-entry
invariant-loop-entry l = line_at l.kind l.left (drop l.entry-index l.entries) ≡ line_at l.kind l.number l.entries
