-- A run as a value change dump: time counts the interactions that are fired.
use Rattle.std.specs.Prelude.{ℕ, Bool, if◌then◌else◌, List, ◌++◌, codes, decimal}
use Rattle.petri_atom.specs.Local.{Local}
use Rattle.plant_model.specs.Plant.{PlantDefinition}
use Rattle.plant_model.specs.Choice.{ChoiceDefinition}
use Rattle.plant_model.specs.Step.{next}
use Rattle.run_text.specs.Alone.{alone}
use Rattle.run_text.specs.Picks.{PickDefinition}
use Rattle.run_text.specs.Steps.{Parts, run_printed}
use Rattle.run_text.specs.Stuck.{is_by_weights}
use Rattle.run_states.specs.Changes.{changes_of}
use Rattle.run_states.specs.Declarations.{declarations_of}
use Rattle.run_states.specs.Values.{values_of}

-- a time
abbrev pub time_line : ℕ → List ℕ
time_line time = codes "#" ++ decimal time ++ codes "\n"

-- the values of all signals at the start
abbrev pub start_values : PlantDefinition → List Local → List ℕ
start_values plant states = codes "#0\n$dumpvars\n" ++ values_of plant states ++ codes "$end\n"

-- the time of a choice that is fired from these states, and what it changes
abbrev pub step_changes : PlantDefinition → List Local → ℕ → ChoiceDefinition → List ℕ
step_changes plant states time c = time_line time ++ changes_of plant states (next plant states (alone c))

-- nothing is fired any more, and whether it is by the weights of a random pick
abbrev pub stuck_line : Bool → List ℕ
stuck_line by_weights = if by_weights then codes "$comment stuck by weights $end\n" else codes "$comment stuck $end\n"

-- the signals, and their values at the start; the changes at each fired interaction, and that nothing is fired any more, if so; then one more time, so that the last state has a width
abbrev pub wave_parts : Parts
wave_parts = record {
  start = λ plant states. declarations_of plant ++ start_values plant states;
  fired = step_changes;
  stuck = λ plant states. stuck_line (is_by_weights plant states);
  end = λ plant states number. time_line number;
}

-- the run of a plant from its first states on
abbrev pub waves_of : PlantDefinition → List PickDefinition → List ℕ
waves_of = run_printed wave_parts
