-- What is said of a firing by the rows that it delivered: a row for each move, at the move's place.
use Rattle.std.specs.Prelude.{ℕ, List, [], ◌∷◌, slice_index_or}
use Rattle.petri_atom.specs.Local.{Row}
use Rattle.plant_model.specs.Plant.{PlantDefinition}
use Rattle.plant_model.specs.Chosen.{choice_of}
use Rattle.plant_model.specs.declared.choice.Move.{Move}
use Rattle.text_io.specs.Numbered.{numbered}
use Rattle.text_io.specs.declared.format.Format.{Format}
use Rattle.text_io.specs.declared.format.Format.TheVariants.{Lines, Csv, Jsonl}
use Rattle.run_text.specs.Line.{fired_line}
use Rattle.run_text.specs.Csv.{fired_row, participant_words}
use Rattle.run_text.specs.Jsonl.{fired_object, move_object}
use Rattle.run_text.specs.declared.fired.Firing.{Firing}

-- what is said of each move and its row, one after another
abbrev pub said_each : (Move → Row → List (List ℕ)) → List Row → List Move → List (List ℕ)
said_each say rows moves = numbered (λ place m. say m (slice_index_or rows place [])) 0 moves

-- the words of what the participants got
abbrev pub words_by_rows : PlantDefinition → List Row → List Move → List (List ℕ)
words_by_rows plant rows moves = said_each (participant_words plant) rows moves

-- the objects of the participants
abbrev pub objects_by_rows : PlantDefinition → List Row → List Move → List (List ℕ)
objects_by_rows plant rows moves = said_each (λ m d. move_object plant m d ∷ []) rows moves

-- a choice that was fired, with the number of its line
abbrev pub step_by_rows : Format → PlantDefinition → Firing → List ℕ
step_by_rows Lines plant f = fired_line plant f.number (choice_of f.choice.now)
step_by_rows Csv plant f = fired_row plant f.number (choice_of f.choice.now) (words_by_rows plant f.delivered.now f.choice.now.moves)
step_by_rows Jsonl plant f = fired_object plant f.number (choice_of f.choice.now) (objects_by_rows plant f.delivered.now f.choice.now.moves)
