use Rattle.plant_model.specs.Plant.{PlantDefinition}
use Rattle.plant_model.specs.System.{plant_of}
use Rattle.blocked_text.specs.declared.reasons.Reasons.{Reasons}

-- the plant that is asked for reasons
abbrev pub plant_asked : Reasons → PlantDefinition
plant_asked reasons = plant_of reasons.system.now
