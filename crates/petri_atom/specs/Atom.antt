use Rattle.petri_atom.specs.Definition.{AtomDefinition}
use Rattle.petri_atom.specs.Parts.{definition_by}
use Rattle.petri_atom.specs.declared.atom.Atom.{Atom}

-- the atom as it was written
abbrev pub definition_of : Atom → AtomDefinition
definition_of a = definition_by a.name a.places.items a.variables.items a.ports.items a.transitions.items
