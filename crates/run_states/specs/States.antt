-- A run with its states, in each format.
use Rattle.std.specs.Prelude.{ℕ, Bool, if◌then◌else◌, List, [], ◌++◌, codes}
use Rattle.petri_atom.specs.Local.{Local}
use Rattle.plant_model.specs.Plant.{PlantDefinition}
use Rattle.plant_model.specs.Choice.{ChoiceDefinition}
use Rattle.plant_model.specs.Step.{next}
use Rattle.text_io.specs.declared.format.Format.{Format}
use Rattle.text_io.specs.declared.format.Format.TheVariants.{Lines, Csv, Jsonl}
use Rattle.run_text.specs.Alone.{alone}
use Rattle.run_text.specs.Format.{step_text, stuck_text}
use Rattle.run_text.specs.Jsonl.{step_members}
use Rattle.run_text.specs.Line.{states_text}
use Rattle.run_text.specs.Picks.{PickDefinition}
use Rattle.run_text.specs.Steps.{Parts, run_printed}
use Rattle.run_text.specs.Stuck.{is_by_weights}
use Rattle.run_states.specs.Columns.{columns_of, names_of}
use Rattle.run_states.specs.Objects.{states_end}

-- what stands before the run: the names of the columns
abbrev pub head_line : Format → PlantDefinition → List ℕ
head_line Lines plant = []
head_line Csv plant = names_of plant ++ codes "\n"
head_line Jsonl plant = []

-- a state: in lines of its own, as the columns that end a row, or as the member that ends an object
abbrev pub present_part : Format → PlantDefinition → List Local → List ℕ
present_part Lines plant states = states_text plant states
present_part Csv plant states = columns_of plant states ++ codes "\n"
present_part Jsonl plant states = states_end plant states

-- what stands before the state at the start
abbrev pub start_begin : Format → List ℕ
start_begin Lines = []
start_begin Csv = codes "start,,,,"
start_begin Jsonl = codes "{\"kind\":\"start\""

-- the state at the start
abbrev pub start_lines : Format → PlantDefinition → List Local → List ℕ
start_lines format plant states = start_begin format ++ present_part format plant states

-- what stands before the state after a choice that is fired from these states: the choice as a trace prints it
abbrev pub fired_begin : Format → PlantDefinition → List Local → ℕ → ChoiceDefinition → List ℕ
fired_begin Lines plant states number c = step_text Lines plant states number c ++ codes "\n"
fired_begin Csv plant states number c = step_text Csv plant states number c
fired_begin Jsonl plant states number c = step_members plant states number c

-- a choice that is fired from these states, and the state after it
abbrev pub fired_lines : Format → PlantDefinition → List Local → ℕ → ChoiceDefinition → List ℕ
fired_lines format plant states number c = fired_begin format plant states number c ++ present_part format plant (next plant states (alone c))

-- what stands before the state in a row that says that nothing is fired any more, and whether it is by the weights of a random pick
abbrev pub stuck_begin : Bool → List ℕ
stuck_begin by_weights = if by_weights then codes "stuck,,weights,," else codes "stuck,,,,"

-- nothing is fired from these states any more; a row says them again
abbrev pub stuck_lines : Format → Bool → PlantDefinition → List Local → List ℕ
stuck_lines Lines by_weights plant states = stuck_text Lines by_weights
stuck_lines Csv by_weights plant states = stuck_begin by_weights ++ present_part Csv plant states
stuck_lines Jsonl by_weights plant states = stuck_text Jsonl by_weights

-- what stands before the run, and the state at its start; each fired interaction with the state after it; and that nothing is fired any more, if so
abbrev pub state_parts : Format → Parts
state_parts format = record {
  start = λ plant states. head_line format plant ++ start_lines format plant states;
  fired = fired_lines format;
  stuck = λ plant states. stuck_lines format (is_by_weights plant states) plant states;
  end = λ plant states number. [];
}

-- the run of a plant from its first states on, with these states
abbrev pub states_in : Format → PlantDefinition → List PickDefinition → List ℕ
states_in format = run_printed (state_parts format)
