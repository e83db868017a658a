-- The atom so far.
use Rattle.petri_atom.specs.Definition.{AtomDefinition}
use Rattle.petri_atom.specs.Parts.{definition_by}
use Rattle.atom_lines.specs.declared.draft.AtomDraft.{AtomDraft}

-- the atom as its lines have written it so far
abbrev pub drafted : AtomDraft → AtomDefinition
drafted d = definition_by d.name d.places.items d.variables.items d.ports.items d.transitions.items
