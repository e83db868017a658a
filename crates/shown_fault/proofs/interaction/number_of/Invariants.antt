-- The atom is one of the names that are left.
use Rattle.std.proofs.Common.{◌≡◌, drop}
use Rattle.std.specs.List.{position_from}
use Rattle.petri_atom.specs.Name.{is_same_text}
use Rattle.shown_fault.specs.Lent.{lists_of}
use Rattle.shown_fault.specs.Interaction.{number_of}
use Rattle.shown_fault.proofs.interaction.number_of.Given as goal

abbrev pub invariant-loop-index : goal.invariant-loop-index
invariant-loop-index l = position_from (λ name. is_same_text name l.atom) l.index (lists_of (drop l.index l.names)) ≡ number_of (lists_of l.names) l.atom
