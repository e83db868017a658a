-- Plants as memory holds them.
use Rattle.std.specs.Prelude.{◌≡◌, true, None}
use Rattle.std.specs.List.{list_all}
use Rattle.petri_atom.specs.Definition.{is_well_formed}
use Rattle.plant_model.specs.Plant.{PlantDefinition}
use Rattle.plant_model.specs.Rules.{fault_of}
use Rattle.read_back.specs.Names.{plant_has_names}

-- the plant breaks no rule of plants, its atoms break none of atoms, and what it has for names are names
pub record KeepsTheRules (plant : PlantDefinition) : Type 0 where
  pub valid : fault_of plant ≡ None
  pub formed : list_all is_well_formed plant.atoms ≡ true
  pub names : plant_has_names plant ≡ true
