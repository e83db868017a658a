-- The objects of a run, one on each line.
use Rattle.std.specs.Prelude.{ℕ, List, [], ◌++◌, map, slice_get, codes, decimal}
use Rattle.std.specs.Option.{option_map_or}
use Rattle.petri_atom.specs.Local.{Local}
use Rattle.petri_atom.specs.Definition.{AtomDefinition}
use Rattle.petri_atom.specs.Local.{Row}
use Rattle.plant_model.specs.Plant.{PlantDefinition, wire_name}
use Rattle.plant_model.specs.Choice.{ChoiceDefinition}
use Rattle.plant_model.specs.Step.{transfer}
use Rattle.plant_model.specs.declared.choice.Move.{Move}
use Rattle.text_io.specs.declared.format.Format.TheVariants.{Jsonl}
use Rattle.run_text.specs.Alone.{alone}
use Rattle.run_text.specs.Word.{quoted, separated_by}
use Rattle.run_text.specs.Line.{fired_port_name, places_text, value_words}
use Rattle.run_text.specs.Delivered.{delivered_words}

-- a participant: its atom, the port that its transition fires, the transition's number, and the values that were delivered to it
abbrev pub atom_object : AtomDefinition → ℕ → Row → List ℕ
atom_object a transition d =
    codes "{\"atom\":" ++ quoted a.name ++ codes ",\"port\":" ++ quoted (fired_port_name a transition) ++
    codes ",\"transition\":" ++ decimal transition ++ codes ",\"delivered\":{" ++
    separated_by (codes ",") (delivered_words Jsonl a transition d) ++ codes "}}"

-- the same of a move, if its atom gets this
abbrev pub move_object : PlantDefinition → Move → Row → List ℕ
move_object plant m d = option_map_or (λ a. atom_object a m.transition d) (slice_get plant.atoms m.atom) []

-- the same of a move of a choice, on the states from before the firing
abbrev pub participant_object : PlantDefinition → List Local → ChoiceDefinition → Move → List ℕ
participant_object plant states c m = move_object plant m (transfer plant states (alone c) m.atom)

-- a fired interaction that is not closed yet: its number, its connector's name, and the objects of its participants
abbrev pub fired_members : PlantDefinition → ℕ → ChoiceDefinition → List (List ℕ) → List ℕ
fired_members plant number c participants =
    codes "{\"kind\":\"step\",\"number\":" ++ decimal number ++ codes ",\"connector\":" ++ quoted (wire_name plant c.connector) ++
    codes ",\"participants\":[" ++ separated_by (codes ",") participants ++ codes "]"

-- a fired interaction
abbrev pub fired_object : PlantDefinition → ℕ → ChoiceDefinition → List (List ℕ) → List ℕ
fired_object plant number c participants = fired_members plant number c participants ++ codes "}"

-- the same two of a choice that is fired from these states: not closed yet
abbrev pub step_members : PlantDefinition → List Local → ℕ → ChoiceDefinition → List ℕ
step_members plant states number c = fired_members plant number c (map (participant_object plant states c) c.moves)

-- and closed
abbrev pub step_object : PlantDefinition → List Local → ℕ → ChoiceDefinition → List ℕ
step_object plant states number c = step_members plant states number c ++ codes "}"

-- what an object says of an atom in a state: its name, its marked places, and its variables with their values
abbrev pub state_members : AtomDefinition → Local → List ℕ
state_members a state =
    codes "\"atom\":" ++ quoted a.name ++ codes ",\"places\":[" ++ places_text Jsonl state.marking a.places ++
    codes "],\"variables\":{" ++ separated_by (codes ",") (value_words Jsonl state.values a.variables) ++ codes "}"

-- an atom in a state
abbrev pub state_object : AtomDefinition → Local → List ℕ
state_object a state = codes "{\"kind\":\"state\"," ++ state_members a state ++ codes "}"
