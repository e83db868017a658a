-- What a recorded run keeps of its choices.
use Rattle.std.specs.Prelude.{◌≡◌, ℕ, ◌&&◌, Bool, true, List, [], ◌∷◌, None}
use Rattle.std.specs.List.{list_all}
use Rattle.petri_atom.specs.Definition.{AtomDefinition, is_well_formed}
use Rattle.petri_atom.specs.Name.{is_name}
use Rattle.plant_model.specs.Choice.{ChoiceDefinition}
use Rattle.plant_model.specs.Plant.{PlantDefinition}
use Rattle.plant_model.specs.Rules.{fault_of}
use Rattle.text_io.specs.Numbered.{numbered}
use Rattle.run_text.specs.Picks.{PickDefinition, named}

-- the names of an atom and of its ports are names
abbrev pub has_names : AtomDefinition → Bool
has_names a = is_name a.name && list_all (λ p. is_name p.name) a.ports

-- the names of a plant's connectors, of its atoms and of their ports are names
abbrev pub AreNames : PlantDefinition → Type 0
AreNames plant = (list_all (λ w. is_name w.name) plant.wires && list_all has_names plant.atoms) ≡ true

-- the plant breaks no rule, its atoms break none, and its names are names
pub record IsWellNamed (plant : PlantDefinition) : Type 0 where
  pub valid : fault_of plant ≡ None
  pub formed : list_all is_well_formed plant.atoms ≡ true
  pub names : AreNames plant

-- the pick of a choice at a place
abbrev pub named_pick : ℕ → ChoiceDefinition → List PickDefinition
named_pick place c = record { place = place; take = named c } ∷ []

-- choices as picks, the first of them at this place
abbrev pub named_picks : ℕ → List ChoiceDefinition → List PickDefinition
named_picks place cs = numbered named_pick place cs
