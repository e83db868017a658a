-- Picks that take nothing for want of a weight.
use Rattle.std.specs.Prelude.{◌≡◌, List}
use Rattle.std.specs.List.{sum}
use Rattle.petri_atom.specs.Local.{Local}
use Rattle.plant_model.specs.Plant.{PlantDefinition}
use Rattle.run_text.specs.Picks.{TakeDefinition, counted, weighted, numbered, named, misread}
use Rattle.run_text.specs.Weights.{weights_in}

-- the pick is by weights, and these add up to 0 in the state
abbrev pub IsWeightless : PlantDefinition → List Local → TakeDefinition → Type 0
IsWeightless plant states (counted n) = ⊥
IsWeightless plant states (weighted n weights) = sum (weights_in plant states weights) ≡ 0
IsWeightless plant states (numbered n) = ⊥
IsWeightless plant states (named c) = ⊥
IsWeightless plant states (misread why) = ⊥
