-- What is said in a report on a plant in a state.
use Rattle.std.specs.Prelude.{ℕ, List, [], slice_get}
use Rattle.std.specs.Option.{option_map_or}
use Rattle.plant_model.specs.Choice.{Interaction, plant_interactions}
use Rattle.plant_model.specs.Plant.{PlantDefinition}
use Rattle.plant_model.specs.System.{plant_of}
use Rattle.blocked_text.specs.ReasonText.{clause_text, reason_text}
use Rattle.blocked_text.specs.Way.{by_text, interaction_text, way_text}
use Rattle.blocked_text.specs.declared.reason.Reason.{Reason}
use Rattle.blocked_text.specs.declared.report.Report.{Report}

-- the plant, and its interactions
abbrev pub plant_in : Report → PlantDefinition
plant_in report = plant_of report.system.now

abbrev pub all_in : Report → List Interaction
all_in report = plant_interactions (plant_in report)

-- a reason of an interaction
abbrev pub reason_in : Report → Interaction → Reason → List ℕ
reason_in report i reason = reason_text (plant_in report) report.states.now (all_in report) report.lines.now i reason

-- that a guard clause of a connector is 0, by their numbers
abbrev pub clause_in : Report → ℕ → ℕ → List ℕ
clause_in report connector k = option_map_or (λ w. clause_text (plant_in report).atoms report.states.now w k) (slice_get (plant_in report).wires connector) []

-- an interaction by its name
abbrev pub interaction_in : Report → Interaction → List ℕ
interaction_in report i = interaction_text (plant_in report) (all_in report) i

-- what puts an interaction below another
abbrev pub by_in : Report → Interaction → Interaction → List ℕ
by_in report i j = by_text (plant_in report) report.states.now report.lines.now i j

-- that an interaction gives way to another, which is at hand or has this number
abbrev pub way_in : Report → Interaction → Interaction → List ℕ
way_in report i j = way_text (plant_in report) report.states.now (all_in report) report.lines.now i j

abbrev pub way_to : Report → Interaction → ℕ → List ℕ
way_to report i m = option_map_or (way_in report i) (slice_get (all_in report) m) []
