use Rattle.plant_model.specs.System.{plant_of}
use Rattle.plant_model.proofs.RulesKept.{well_formed, few_atoms_of_plant}
use Rattle.plant_model.proofs.system.System.keeps_its_rules.Goals as goal

pub returns-clause-plant : goal.returns-clause-plant
returns-clause-plant c = c.args.self.now.valid

pub returns-clause-atoms : goal.returns-clause-atoms
returns-clause-atoms c = well_formed c.args.self.now.atoms.items

pub returns-clause-few : goal.returns-clause-few
returns-clause-few c = few_atoms_of_plant (plant_of c.args.self.now) c.args.self.now.valid
