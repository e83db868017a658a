-- The port is one of the words that are left.
use Rattle.std.proofs.Common.{◌≡◌, length}
use Rattle.shown_fault.specs.Exports.{port_of_atom}
use Rattle.shown_fault.proofs.exports.port_of_atom.Given as goal

abbrev pub invariant-loop-word : goal.invariant-loop-word
invariant-loop-word l = port_of_atom l.atom l.words ≡ port_of_atom l.atom l.initial.words

abbrev pub decreases-loop-word : goal.decreases-loop-word
decreases-loop-word l = length l.words
