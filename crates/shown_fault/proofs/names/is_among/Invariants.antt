-- The word is one of the names that are left, if it is one.
use Rattle.std.proofs.Common.{◌≡◌, drop}
use Rattle.shown_fault.specs.Lent.{lists_of}
use Rattle.shown_fault.specs.Names.{is_among}
use Rattle.shown_fault.proofs.names.is_among.Given as goal

abbrev pub invariant-loop-name : goal.invariant-loop-name
invariant-loop-name l = is_among (lists_of (drop l.name-index l.names)) l.word ≡ is_among (lists_of l.names) l.word
