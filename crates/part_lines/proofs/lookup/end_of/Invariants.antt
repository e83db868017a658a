-- The entry is sought among those from this one on, by the number that is left.
use Rattle.std.proofs.Common.{◌≡◌, drop}
use Rattle.part_lines.specs.Lookup.{behind}
use Rattle.part_lines.proofs.lookup.end_of.Given as goal

abbrev pub invariant-loop-place : goal.invariant-loop-place
invariant-loop-place l = behind l.kind l.left (drop l.place l.entries) ≡ behind l.kind l.number l.entries
