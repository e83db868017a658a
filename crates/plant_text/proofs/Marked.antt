-- The first line with a fault is the one that is found.
use Rattle.std.proofs.Common.{◌≡◌, ◌∙◌, refl, ap, ℕ, suc, ◌+◌, ◌-◌, ◌<◌, ◌≤◌, arith, Bool, true, false, List, [], ◌∷◌, length, Option, Some, None, Result, Ok, Err}
use Rattle.std.specs.Prelude.{nat_lt, slice_get, if◌then◌else◌}
use Rattle.std.specs.Option.{option_map_or}
use Rattle.priority_filter.specs.Decided.{order_fault}
use Rattle.priority_filter.specs.declared.fault.OrderFault.{OrderFault}
use Rattle.text_io.specs.declared.reading.TheConstants.{MAX_TEXT}
use Rattle.plant_words.specs.Lines.{lines_of}
use Rattle.plant_text.specs.Text.{PlantText}
use Rattle.plant_text.specs.Interactions.{interactions_of}
use Rattle.plant_text.specs.Fault.{of_no_line}
use Rattle.plant_text.specs.Marks.{if_refused, faulty_line}
use Rattle.plant_words.specs.Reading.{◌>>=◌}
use Rattle.plant_text.specs.Rows.{line_row}
use Rattle.plant_text.specs.Meaning.{on_line, lines_row, nothing, with_an_atom, with_an_order, meaning}
use Rattle.plant_text.specs.declared.fault.Fault.{Fault}
use Rattle.plant_text.specs.declared.fault.Fault.TheVariants as fault
use Rattle.plant_text.specs.declared.fault.PlantFault.{PlantFault}

-- the line that a reading finds at fault
abbrev line_found : Result PlantText PlantFault → ℕ
line_found (Ok plant) = 0
line_found (Err told) = told.line

-- of lines that are numbered from n on
from_number : (n : ℕ) (lines : List (List ℕ)) (plant : PlantText) (told : PlantFault) → lines_row n lines plant ≡ Err told →
    (n ≤ told.line) × (faulty_line lines plant ≡ slice_get lines (told.line - n))
from_number n [] plant told fails = absurd (cc)
from_number n (line ∷ lines) plant told fails = each (λ next fails. from_number (n + 1) lines next told fails) (line_row line plant) fails
  where
    each : ((next : PlantText) → lines_row (n + 1) lines next ≡ Err told → (n + 1 ≤ told.line) × (faulty_line lines next ≡ slice_get lines (told.line - (n + 1)))) →
        (row : Result PlantText Fault) → (on_line n row >>= λ next. lines_row (n + 1) lines next) ≡ Err told →
        (n ≤ told.line) × (if_refused row line (faulty_line lines) ≡ slice_get (line ∷ lines) (told.line - n))
    each behind (Err broken) fails =
        let here : n ≡ told.line = ap line_found fails in
        let first : 0 ≡ told.line - n = omega (arith, here) in
        (omega (arith, here), ap (slice_get (line ∷ lines)) first)
    each behind (Ok next) fails =
        let later_fault = behind next fails in
        let later : suc (told.line - (n + 1)) ≡ told.line - n = omega (arith, later_fault.0) in
        (omega (arith, later_fault.0), later_fault.1 ∙ ap (slice_get (line ∷ lines)) later)

-- what is found at a line is the fault of one of the lines
of_a_line : (text : List ℕ) (told : PlantFault) → meaning text ≡ Err told → 0 < told.line → lines_row 1 (lines_of text) nothing ≡ Err told
of_a_line text told fails line = length_of (nat_lt MAX_TEXT (length text)) fails
  where
    order_of : (plant : PlantText) (o : Option OrderFault) → option_map_or (λ broken. Err (of_no_line (fault.Order broken))) o (Ok plant) ≡ Err told → lines_row 1 (lines_of text) nothing ≡ Err told
    order_of plant None fails = absurd (cc)
    order_of plant (Some broken) fails =
        let none : 0 ≡ told.line = ap line_found fails in
        absurd (omega (arith, line, none))

    atoms_of : (plant : PlantText) (some : Bool) → ((if some then Ok plant else Err (of_no_line fault.NoAtom)) >>= with_an_order) ≡ Err told → lines_row 1 (lines_of text) nothing ≡ Err told
    atoms_of plant true fails = order_of plant (order_fault plant.rules (interactions_of plant.wires)) fails
    atoms_of plant false fails =
        let none : 0 ≡ told.line = ap line_found fails in
        absurd (omega (arith, line, none))

    lines_are : (row : Result PlantText PlantFault) → lines_row 1 (lines_of text) nothing ≡ row → ((row >>= with_an_atom) >>= with_an_order) ≡ Err told → lines_row 1 (lines_of text) nothing ≡ Err told
    lines_are (Err broken) is fails = is ∙ fails
    lines_are (Ok plant) is fails = atoms_of plant (nat_lt 0 (length plant.atoms)) fails

    length_of : (long : Bool) → ((if long then Err (of_no_line fault.TooLong) else (lines_row 1 (lines_of text) nothing >>= with_an_atom)) >>= with_an_order) ≡ Err told → lines_row 1 (lines_of text) nothing ≡ Err told
    length_of true fails =
        let none : 0 ≡ told.line = ap line_found fails in
        absurd (omega (arith, line, none))
    length_of false fails = lines_are (lines_row 1 (lines_of text) nothing) refl fails

-- the first line with a fault is the one with the number that is found
pub told_line : (text : List ℕ) (told : PlantFault) → meaning text ≡ Err told → 0 < told.line → faulty_line (lines_of text) nothing ≡ slice_get (lines_of text) (told.line - 1)
told_line text told fails line = (from_number 1 (lines_of text) nothing told (of_a_line text told fails line)).1
