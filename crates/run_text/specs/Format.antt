-- What each format says of the parts of a run.
use Rattle.std.specs.Prelude.{ℕ, Bool, if◌then◌else◌, List, [], codes}
use Rattle.petri_atom.specs.Local.{Local}
use Rattle.petri_atom.specs.Definition.{AtomDefinition}
use Rattle.plant_model.specs.Plant.{PlantDefinition}
use Rattle.plant_model.specs.Choice.{ChoiceDefinition}
use Rattle.text_io.specs.declared.format.Format.{Format}
use Rattle.text_io.specs.declared.format.Format.TheVariants.{Lines, Csv, Jsonl}
use Rattle.run_text.specs.Line.{fired_line, state_line, states_said}
use Rattle.run_text.specs.Csv.{state_row, step_row}
use Rattle.run_text.specs.Jsonl.{state_object, step_object}

-- what stands before the run
abbrev pub head_text : Format → List ℕ
head_text Lines = []
head_text Csv = codes "kind,number,name,parts,values\n"
head_text Jsonl = []

-- a choice that is fired from these states, with the number of its line
abbrev pub step_text : Format → PlantDefinition → List Local → ℕ → ChoiceDefinition → List ℕ
step_text Lines plant states number c = fired_line plant number c
step_text Csv plant states number c = step_row plant states number c
step_text Jsonl plant states number c = step_object plant states number c

-- the line that says that nothing is fired any more, and whether it is by the weights of a random pick
abbrev pub stuck_text : Format → Bool → List ℕ
stuck_text Lines by_weights = if by_weights then codes "stuck by weights\n" else codes "stuck\n"
stuck_text Csv by_weights = if by_weights then codes "stuck,,weights,,\n" else codes "stuck,,,,\n"
stuck_text Jsonl by_weights = if by_weights then codes "{\"kind\":\"stuck\",\"by\":\"weights\"}\n" else codes "{\"kind\":\"stuck\"}\n"

-- an atom in a state
abbrev pub atom_text : Format → AtomDefinition → Local → List ℕ
atom_text Lines = state_line
atom_text Csv = state_row
atom_text Jsonl = state_object

-- a line for each atom of a plant, in order
abbrev pub end_text : Format → PlantDefinition → List Local → List ℕ
end_text format plant states = states_said (atom_text format) plant states
