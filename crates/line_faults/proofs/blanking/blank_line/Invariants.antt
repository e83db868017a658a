-- What was passed is as it is to be, and so will be what is left.
use Rattle.std.proofs.Common.{◌≡◌, ◌++◌, take, drop}
use Rattle.line_faults.specs.Blank.{without_line}
use Rattle.line_faults.proofs.blanking.blank_line.Given as goal

abbrev pub invariant-loop-byte : goal.invariant-loop-byte
invariant-loop-byte l = take l.byte-index l.text ++ without_line l.left (drop l.byte-index l.text) ≡ without_line l.number l.initial.text
