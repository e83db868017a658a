-- The rows of a run, of five columns each: kind, number, name, parts, values.
use Rattle.std.specs.Prelude.{ℕ, List, [], ◌++◌, flat_map, map, slice_get, codes, decimal}
use Rattle.std.specs.Option.{option_map_or}
use Rattle.petri_atom.specs.Local.{Local, Row}
use Rattle.petri_atom.specs.Definition.{AtomDefinition}
use Rattle.plant_model.specs.Plant.{PlantDefinition, wire_name}
use Rattle.plant_model.specs.Choice.{ChoiceDefinition}
use Rattle.plant_model.specs.Step.{transfer}
use Rattle.plant_model.specs.declared.choice.Move.{Move}
use Rattle.text_io.specs.declared.format.Format.TheVariants.{Csv}
use Rattle.run_text.specs.Alone.{alone}
use Rattle.run_text.specs.Word.{separated_by}
use Rattle.run_text.specs.Line.{participant, places_text, value_words}
use Rattle.run_text.specs.Delivered.{delivered_words}

-- the words of what a participant gets
abbrev pub participant_words : PlantDefinition → Move → Row → List (List ℕ)
participant_words plant m d = option_map_or (λ a. delivered_words Csv a m.transition d) (slice_get plant.atoms m.atom) []

-- the words of what a choice delivers to a participant, on the states from before the firing
abbrev pub delivery_words : PlantDefinition → List Local → ChoiceDefinition → Move → List (List ℕ)
delivery_words plant states c m = participant_words plant m (transfer plant states (alone c) m.atom)

-- a fired interaction: its number, its connector's name, its participants, and the words of what it delivered
abbrev pub fired_row : PlantDefinition → ℕ → ChoiceDefinition → List (List ℕ) → List ℕ
fired_row plant number c words =
    codes "step," ++ decimal number ++ codes "," ++ wire_name plant c.connector ++ codes "," ++
    separated_by (codes " ") (map (participant plant.atoms) c.moves) ++ codes "," ++ separated_by (codes " ") words

-- the same of a choice that is fired from these states
abbrev pub step_row : PlantDefinition → List Local → ℕ → ChoiceDefinition → List ℕ
step_row plant states number c = fired_row plant number c (flat_map (delivery_words plant states c) c.moves)

-- an atom in a state: its name, its marked places, and its variables with their values
abbrev pub state_row : AtomDefinition → Local → List ℕ
state_row a state =
    codes "state,," ++ a.name ++ codes "," ++ places_text Csv state.marking a.places ++ codes "," ++
    separated_by (codes " ") (value_words Csv state.values a.variables)
