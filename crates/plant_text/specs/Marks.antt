-- Which line of a text is at fault.
use Rattle.std.specs.Prelude.{ℕ, List, [], ◌∷◌, Option, Some, None, Result, Ok, Err}
use Rattle.plant_text.specs.Text.{PlantText}
use Rattle.plant_text.specs.Rows.{line_row}
use Rattle.plant_text.specs.declared.fault.Fault.{Fault}

-- the line, where what it says is a fault; and else what is found after it
abbrev pub if_refused : Result PlantText Fault → List ℕ → (PlantText → Option (List ℕ)) → Option (List ℕ)
if_refused (Ok next) line behind = behind next
if_refused (Err fault) line behind = Some line

-- the first of the lines with a fault, after lines that wrote this much
abbrev pub faulty_line : List (List ℕ) → PlantText → Option (List ℕ)
faulty_line [] plant = None
faulty_line (line ∷ lines) plant = if_refused (line_row line plant) line (faulty_line lines)
