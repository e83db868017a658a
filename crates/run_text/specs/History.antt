-- What was fired so far.
use Rattle.std.specs.Prelude.{List, [], ◌∷◌}
use Rattle.petri_atom.specs.Local.{Local}
use Rattle.plant_model.specs.Plant.{PlantDefinition}
use Rattle.plant_model.specs.Choice.{ChoiceDefinition}
use Rattle.plant_model.specs.Step.{next}
use Rattle.run_text.specs.Alone.{alone}

-- a choice that was fired, with the state from which it was
pub record FiredStep : Type 0 where
  pub before : List Local
  pub choice : ChoiceDefinition

-- what was fired so far, the last first
abbrev pub History : Type 0
History = List FiredStep

-- what was fired after these choices are, from a state on, where this was fired before them
abbrev pub told_after : PlantDefinition → List Local → List ChoiceDefinition → History → History
told_after plant states [] told = told
told_after plant states (c ∷ cs) told = told_after plant (next plant states (alone c)) cs (record { before = states; choice = c } ∷ told)
