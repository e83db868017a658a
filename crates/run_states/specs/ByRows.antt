-- What is said of a firing by the rows that it delivered: a row for each move, at the move's place.
use Rattle.std.specs.Prelude.{ℕ, List, ◌++◌, codes}
use Rattle.plant_model.specs.Plant.{PlantDefinition}
use Rattle.plant_model.specs.Chosen.{choice_of}
use Rattle.text_io.specs.declared.format.Format.{Format}
use Rattle.text_io.specs.declared.format.Format.TheVariants.{Lines, Csv, Jsonl}
use Rattle.run_text.specs.Jsonl.{fired_members}
use Rattle.run_text.specs.ByRows.{objects_by_rows, step_by_rows}
use Rattle.run_text.specs.declared.fired.Firing.{Firing}

-- what stands before the state after a choice that was fired
abbrev pub begin_by_rows : Format → PlantDefinition → Firing → List ℕ
begin_by_rows Lines plant f = step_by_rows Lines plant f ++ codes "\n"
begin_by_rows Csv plant f = step_by_rows Csv plant f
begin_by_rows Jsonl plant f = fired_members plant f.number (choice_of f.choice.now) (objects_by_rows plant f.delivered.now f.choice.now.moves)
