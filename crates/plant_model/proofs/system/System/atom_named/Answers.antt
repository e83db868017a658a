use Rattle.std.proofs.Common.{◌∙◌, sym}
use Rattle.petri_atom.specs.Atom.{definition_of}
use Rattle.petri_atom.specs.Definition.{AtomDefinition}
use Rattle.petri_atom.specs.Name.{is_same_text}
use Rattle.petri_atom.proofs.Positions.{first_of_images}
use Rattle.plant_model.proofs.system.System.atom_named.Goals as goal

pub returns-in-Some : goal.returns-in-Some
returns-in-Some c =
    sym c.in-Some.is
    ∙ first_of_images definition_of (λ (a : AtomDefinition). is_same_text a.name c.args.name.now) c.atoms.result.now _ c.find_atom.result c.atoms.ensures c.find_atom.ensures.first

pub returns-in-None : goal.returns-in-None
returns-in-None c =
    sym c.in-None.is
    ∙ first_of_images definition_of (λ (a : AtomDefinition). is_same_text a.name c.args.name.now) c.atoms.result.now _ c.find_atom.result c.atoms.ensures c.find_atom.ensures.first
