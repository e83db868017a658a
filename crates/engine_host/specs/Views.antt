-- How far a plant is, by its view.
use Rattle.std.specs.Prelude.{◌==◌, ◌+◌, Bool, false, []}
use Rattle.plant_core.specs.declared.front.Front.{Front}
use Rattle.front_word.specs.declared.front.TheConstants.{MOST_FIRED}
use Rattle.plant_model.specs.Plant.{PlantDefinition}
use Rattle.plant_core.specs.View.{View, fired_number}

abbrev pub no_plant : PlantDefinition
no_plant = record { atoms = []; wires = []; rules = [] }

abbrev pub no_view : View
no_view = record { acked = []; acked_counts = []; number = 0; tail = []; present = []; counts = []; base = 0; ring = 0; marks = []; saved = []; kept = []; away = []; broken = false }

-- how far the plant with this view is
abbrev pub front_in : View → Front
front_in v = record { fired = fired_number v; acked = v.number; base = v.base }

-- as many choices were fired since the opening as one word can count
abbrev pub is_used_up : View → View → Bool
is_used_up opening v = fired_number v == fired_number opening + MOST_FIRED
