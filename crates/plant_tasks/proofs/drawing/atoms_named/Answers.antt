-- What is found of the atoms as they are kept is found of the plant's.
use Rattle.std.proofs.Common.{◌∙◌, sym}
use Rattle.plant_model.specs.System.{plant_of}
use Rattle.plant_tasks.proofs.Naming.{set_mapped, unknown_mapped}
use Rattle.plant_tasks.proofs.drawing.atoms_named.Goals as goal

pub returns-in-Some-clause-unknown : goal.returns-in-Some-clause-unknown
returns-in-Some-clause-unknown c =
    sym (unknown_mapped (plant_of c.args.system.now) c.atoms.result.now c.args.names.now c.atoms.ensures) ∙ sym c.first_unknown.ensures ∙ c.in-Some.is

pub returns-in-None-clause-set : goal.returns-in-None-clause-set
returns-in-None-clause-set c =
    c.set_of.ensures ∙ set_mapped (plant_of c.args.system.now) c.atoms-in-None.result.now c.args.names.now c.atoms-in-None.ensures
