-- The plant that a text means, or the first line with a fault.
use Rattle.std.specs.Prelude.{◌≡◌, ℕ, ◌+◌, ◌<◌, if◌then◌else◌, nat_lt, List, [], ◌∷◌, length, Result, Ok, Err}
use Rattle.std.specs.Option.{option_map_or}
use Rattle.priority_filter.specs.Decided.{order_fault}
use Rattle.text_io.specs.declared.reading.TheConstants.{MAX_TEXT}
use Rattle.plant_words.specs.Lines.{lines_of}
use Rattle.plant_text.specs.Text.{PlantText}
use Rattle.plant_text.specs.Interactions.{interactions_of}
use Rattle.plant_text.specs.Fault.{of_no_line}
use Rattle.plant_words.specs.Reading.{◌>>=◌}
use Rattle.plant_text.specs.Rows.{line_row}
use Rattle.plant_text.specs.declared.fault.Fault.{Fault}
use Rattle.plant_text.specs.declared.fault.Fault.TheVariants.{TooLong, NoAtom, Order}
use Rattle.plant_text.specs.declared.fault.PlantFault.{PlantFault}

-- what a line says, with its fault, placed at its number
abbrev pub on_line : {A : Type 0} → ℕ → Result A Fault → Result A PlantFault
on_line number (Ok x) = Ok x
on_line number (Err fault) = Err (record { line = number; fault = fault })

-- what lines say of a plant, one after the other, where the first of them has this number
abbrev pub lines_row : ℕ → List (List ℕ) → PlantText → Result PlantText PlantFault
lines_row number [] plant = Ok plant
lines_row number (line ∷ lines) plant = on_line number (line_row line plant) >>= λ next. lines_row (number + 1) lines next

-- the plant, where it has an atom
abbrev pub with_an_atom : PlantText → Result PlantText PlantFault
with_an_atom plant = if nat_lt 0 (length plant.atoms) then Ok plant else Err (of_no_line NoAtom)

-- the plant, where its rules put an order on its interactions
abbrev pub with_an_order : PlantText → Result PlantText PlantFault
with_an_order plant =
    option_map_or (λ fault. Err (of_no_line (Order fault))) (order_fault plant.rules (interactions_of plant.wires)) (Ok plant)

-- the plant with no parts
abbrev pub nothing : PlantText
nothing = record { atoms = []; wires = []; rules = [] }

-- what the lines of a text write, numbered from 1, one after the other; a text that is too long is a fault before them, and after
-- them that no atom stands in it
abbrev pub written_in : List ℕ → Result PlantText PlantFault
written_in text =
    if nat_lt MAX_TEXT (length text) then Err (of_no_line TooLong) else
    (lines_row 1 (lines_of text) nothing >>= with_an_atom)

-- What a text means: what its lines write, or the first line with a fault. After all lines it is a fault that the rules put no
-- order on the interactions.
abbrev pub meaning : List ℕ → Result PlantText PlantFault
meaning text = written_in text >>= with_an_order

-- lines without a fault write the plant, and an atom stands in it
abbrev pub IsWritten : PlantText → Type 0
IsWritten written = (lines : List (List ℕ)) × (lines_row 1 lines nothing ≡ Ok written) × (0 < length written.atoms)
