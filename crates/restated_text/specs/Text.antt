-- A plant text with other first states.
use Rattle.std.specs.Prelude.{ℕ, ◌-◌, Bool, List, [], ◌∷◌, ◌++◌, length, drop, slice_get, Option, Some, None, ◌==◌}
use Rattle.std.specs.List.{slice_split}
use Rattle.std.specs.Option.{option_map_or}
use Rattle.std.specs.Str.Lines.{strip_carriage_return}
use Rattle.petri_atom.specs.Local.{Local, has}
use Rattle.plant_words.specs.declared.line_kind.AtomPart.{AtomPart}
use Rattle.plant_words.specs.declared.line_kind.AtomPart.TheVariants.{Place, Variable, Port, Transition}
use Rattle.plant_words.specs.declared.line_kind.LineKind.{LineKind}
use Rattle.plant_words.specs.declared.line_kind.LineKind.TheVariants.{Atom, Connector, OfAtom, OfConnector, Rule}
use Rattle.restated_text.specs.Counts.{kind_of, no_parts, after}
use Rattle.restated_text.specs.Lines.{place_line, variable_line}
use Rattle.restated_text.specs.declared.counts.Counts.{Counts}

-- the line of a part of an atom in the state, after lines with these counts: the state of a place is its mark, that of a variable its value
abbrev pub part_line : AtomPart → Local → Counts → List ℕ → List ℕ
part_line Place state counts line = place_line (has state.marking counts.places) line
part_line Variable state counts line = option_map_or (λ value. variable_line value line) (slice_get state.values counts.variables) line
part_line Port state counts line = line
part_line Transition state counts line = line

-- a line of a kind, where the latest atom is in the state: parts of atoms alone have one
abbrev pub line_in_state : Option LineKind → Local → Counts → List ℕ → List ℕ
line_in_state None state counts line = line
line_in_state (Some Atom) state counts line = line
line_in_state (Some Connector) state counts line = line
line_in_state (Some (OfAtom part)) state counts line = part_line part state counts line
line_in_state (Some (OfConnector part)) state counts line = line
line_in_state (Some (Rule kind)) state counts line = line

-- the state of the latest atom
abbrev pub latest_state : List Local → Counts → Option Local
latest_state states counts = slice_get states (counts.atoms - 1)

-- a line after lines with these counts, restated; as it was where there is no state for its atom
abbrev pub restated_line : List Local → Counts → List ℕ → List ℕ
restated_line states counts line =
    option_map_or (λ state. line_in_state (kind_of line) state counts line) (latest_state states counts) line

-- the carriage return at the end of a line, if it has one
abbrev pub return_of : List ℕ → List ℕ
return_of part = drop (length (strip_carriage_return part)) part

-- what stands before a line feed, or after the last one: a line, and the carriage return at its end
abbrev pub restated_part : List Local → Counts → List ℕ → List ℕ
restated_part states counts part = restated_line states counts (strip_carriage_return part) ++ return_of part

-- the counts after it
abbrev pub after_part_of_text : Counts → List ℕ → Counts
after_part_of_text counts part = after (kind_of (strip_carriage_return part)) counts

-- these, one after another, with the line feeds (10) between them
abbrev pub restated_parts : List Local → Counts → List (List ℕ) → List ℕ
restated_parts states counts [] = []
restated_parts states counts (part ∷ []) = restated_part states counts part
restated_parts states counts (part ∷ next ∷ more) =
    restated_part states counts part ++ 10 ∷ restated_parts states (after_part_of_text counts part) (next ∷ more)

-- a line feed
abbrev pub is_line_feed : ℕ → Bool
is_line_feed byte = byte == 10

-- The text with these states as its atoms' first ones: the marks of its places and the values of its variables are replaced, line by line,
-- and every other byte is as it was.
abbrev pub restated_text : List Local → List ℕ → List ℕ
restated_text states text = restated_parts states no_parts (slice_split is_line_feed text)
