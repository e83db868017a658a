-- What is left to show is shown after what was shown.
use Rattle.std.proofs.Common.{◌≡◌, ◌++◌, drop}
use Rattle.shown_fault.specs.Shown.{shown}
use Rattle.shown_fault.proofs.shown.shown_name.Given as goal

abbrev pub invariant-loop-byte : goal.invariant-loop-byte
invariant-loop-byte l = l.text.items ++ shown (drop l.byte-index l.name) ≡ shown l.name
