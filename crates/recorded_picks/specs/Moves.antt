-- The moves that the words of a line name.
use Rattle.std.specs.Prelude.{ℕ, ◌==◌, Bool, false, if◌then◌else◌, List, [], ◌∷◌, slice_get, Option, Some, None, Result, Ok}
use Rattle.std.specs.List.{after_first, before_first}
use Rattle.std.specs.Option.{ok_or, option_and_then, option_map_or}
use Rattle.petri_atom.specs.Definition.{AtomDefinition, port_name}
use Rattle.petri_atom.specs.Name.{is_same_text}
use Rattle.petri_atom.specs.declared.parts.TheConstants.{MAX_TRANSITIONS}
use Rattle.plant_words.specs.Numbers.{below, pick_in}
use Rattle.plant_words.specs.Reading.{◌>>=◌}
use Rattle.plant_words.specs.Splits.{export_parts}
use Rattle.plant_model.specs.Choice.{move_of}
use Rattle.plant_model.specs.Plant.{PlantDefinition}
use Rattle.plant_model.specs.declared.choice.Move.{Move}
use Rattle.run_text.specs.ShownWord.{shown_word}
use Rattle.run_text.specs.declared.pick.Misread.{Misread}
use Rattle.run_text.specs.declared.pick.Misread.TheVariants.{UnknownMove}
use Rattle.recorded_picks.specs.Names.{atom_named}

-- a slash (47)
abbrev pub is_slash : ℕ → Bool
is_slash byte = byte == 47

-- the number of a transition: digits alone, below the most that an atom may have
abbrev pub transition_in : List ℕ → Option ℕ
transition_in word = below MAX_TRANSITIONS (pick_in word)

-- the transition with a number is there, and is of the port with a name
abbrev pub is_of_named_port : AtomDefinition → ℕ → List ℕ → Bool
is_of_named_port a transition name = option_map_or (λ t. is_same_text (port_name a t.port) name) (slice_get a.transitions transition) false

-- the same of the atom with a number
abbrev pub is_fired_at : List AtomDefinition → ℕ → List ℕ → ℕ → Bool
is_fired_at atoms atom name transition = option_map_or (λ a. is_of_named_port a transition name) (slice_get atoms atom) false

-- the move of the atom with a number by a transition, if that is of the port with the name
abbrev pub move_at : List AtomDefinition → List ℕ → ℕ → ℕ → Option Move
move_at atoms name transition atom = if is_fired_at atoms atom name transition then Some (move_of atom transition) else None

-- the move of the atom with the first name by a transition, if that is of the port with the second name
abbrev pub move_named : PlantDefinition → List ℕ × List ℕ → ℕ → Option Move
move_named plant names transition = option_and_then (move_at plant.atoms names.1 transition) (atom_named plant names.0)

-- the move that a word `ATOM.PORT/NUMBER` names: the number stands after the first slash
abbrev pub move_in : PlantDefinition → List ℕ → Option Move
move_in plant word =
    option_and_then (λ names. option_and_then (move_named plant names) (transition_in (after_first is_slash word))) (export_parts (before_first is_slash word))

-- the move that a word names, or that it names none
abbrev pub move_read : PlantDefinition → List ℕ → Result Move Misread
move_read plant word = ok_or (move_in plant word) (UnknownMove (shown_word word))

-- the moves that words name, one each, or the first of the words that names none
abbrev pub moves_in : PlantDefinition → List (List ℕ) → Result (List Move) Misread
moves_in plant [] = Ok []
moves_in plant (word ∷ words) = do
  m ← move_read plant word
  ms ← moves_in plant words
  Ok (m ∷ ms)
