-- The run of a plant that is printed and saved, as the words of the command line ask for it.
use Rattle.std.specs.Prelude.{ℕ, Bool, List, Option}
use Rattle.plant_model.specs.Plant.{PlantDefinition}
use Rattle.plant_model.specs.Step.{initial_states}
use Rattle.run_text.specs.Picks.{PickDefinition}
use Rattle.run_text.specs.Steps.{Parts, run_printed}
use Rattle.run_text.specs.Trace.{trace_parts}
use Rattle.run_text.specs.Watched.{Held, reached_by, watched}
use Rattle.run_states.specs.States.{state_parts}
use Rattle.run_states.specs.Waves.{wave_parts}
use Rattle.command_line.specs.declared.request.Shape.{Shape}
use Rattle.command_line.specs.declared.request.Shape.TheVariants.{Steps, States, Waves}
use Rattle.command_line.specs.declared.request.Picking.{Picking}
use Rattle.command_line.specs.declared.request.Trace.{Trace}
use Rattle.command_line.specs.declared.request.WatchWords.{WatchWords}
use Rattle.command_line.specs.declared.request.WeightWords.{WeightWords}
use Rattle.plant_tasks.specs.Picked.{picks_weighted}
use Rattle.plant_tasks.specs.Reached.{are_several, with_reached}
use Rattle.plant_tasks.specs.Watches.{held_in, is_held}
use Rattle.plant_tasks.specs.Weights.{weights_said}

-- the parts of a run in a shape
abbrev pub parts_of : Shape → Parts
parts_of (Steps format) = trace_parts format
parts_of (States format) = state_parts format
parts_of Waves = wave_parts

-- what is printed in a shape of a run by picks, and behind it where something came for which it is watched
abbrev pub run_shaped : Shape → Bool → Held → PlantDefinition → List PickDefinition → List ℕ
run_shaped shape several held = run_printed (with_reached shape several held (parts_of shape))

-- the same as the words ask for it
abbrev pub trace_printed : Trace → PlantDefinition → List PickDefinition → List ℕ
trace_printed trace plant = run_shaped trace.shape (are_several trace.watches.items) (held_in plant trace.watches.items) plant

-- The picks by which a run goes that is watched and weighted so: of those that are asked for, as far as these are known, the ones before the first state in which
-- something holds for which it is watched.
abbrev pub picks_watched : List WatchWords → List WeightWords → Picking → PlantDefinition → Option (List ℕ) → Option (List PickDefinition)
picks_watched watches weights picking plant input =
    watched (held_in plant watches) plant (initial_states plant) 1 (picks_weighted (weights_said plant weights) picking plant input)

-- the same as the words of a trace ask for it
abbrev pub picks_traced : Trace → PlantDefinition → Option (List ℕ) → Option (List PickDefinition)
picks_traced trace = picks_watched trace.watches.items trace.weights.items trace.picking

-- the run by these picks ends by what must not hold
abbrev pub ends_held : List WatchWords → PlantDefinition → List PickDefinition → Bool
ends_held watches plant picks = is_held watches (reached_by (held_in plant watches) plant (initial_states plant) picks)
