-- Runs of a plant: firings one after another, each of which can happen in the state that it meets.
use Rattle.std.specs.Prelude.{◌≡◌, List, [], ◌∷◌}
use Rattle.petri_atom.specs.Local.{Local}
use Rattle.plant_model.specs.Plant.{PlantDefinition}
use Rattle.plant_model.specs.Firing.{FiringDefinition, CanFire}
use Rattle.plant_model.specs.Step.{next}

-- the firings are a run from one state to another: each can happen in the state that it meets, and they lead there
abbrev pub IsRun : PlantDefinition → List Local → List FiringDefinition → List Local → Type 0
IsRun plant start [] end = start ≡ end
IsRun plant start (f ∷ fs) end = CanFire plant start f × IsRun plant (next plant start f) fs end

-- the state that firings lead to, one after another
abbrev pub fold : PlantDefinition → List Local → List FiringDefinition → List Local
fold plant start [] = start
fold plant start (f ∷ fs) = fold plant (next plant start f) fs
