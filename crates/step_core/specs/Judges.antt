-- What judges of interactions are given.
use Rattle.std.specs.Prelude.{List, map}
use Rattle.petri_atom.specs.Atom.{definition_of}
use Rattle.petri_atom.specs.Definition.{AtomDefinition}
use Rattle.step_core.specs.declared.possible.InteractionJudge.{InteractionJudge}

-- the atoms of a plant whose interactions are judged
abbrev pub judged_atoms : InteractionJudge → List AtomDefinition
judged_atoms j = map definition_of j.atoms.now
