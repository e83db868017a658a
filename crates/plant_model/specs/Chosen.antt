use Rattle.std.specs.Prelude.{ℤ, List}
use Rattle.plant_model.specs.Choice.{ChoiceDefinition}
use Rattle.plant_model.specs.Firing.{FiringDefinition}
use Rattle.plant_model.specs.declared.choice.Choice.{Choice}
use Rattle.plant_model.specs.declared.fired.Firing.{Firing}

-- a choice as it is kept
abbrev pub choice_of : Choice → ChoiceDefinition
choice_of c = record { connector = c.connector; mask = c.mask; moves = c.moves }

-- its firing with these values
abbrev pub firing_of : Choice → List ℤ → FiringDefinition
firing_of c inputs = record { connector = c.connector; mask = c.mask; moves = c.moves; inputs = inputs }

-- a firing as it is kept
abbrev pub fired_of : Firing → FiringDefinition
fired_of f = firing_of f.choice f.inputs
