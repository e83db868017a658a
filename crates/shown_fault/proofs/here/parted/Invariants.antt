-- The bytes that are left stand after those so far.
use Rattle.std.proofs.Common.{◌≡◌, ◌++◌, drop}
use Rattle.shown_fault.specs.Here.{parted_text}
use Rattle.shown_fault.proofs.here.parted.Given as goal

abbrev pub invariant-loop-byte : goal.invariant-loop-byte
invariant-loop-byte l = l.parted.items ++ parted_text (drop l.byte-index l.text) ≡ parted_text l.text
