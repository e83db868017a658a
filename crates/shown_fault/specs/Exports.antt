-- A variable that no port of a connector exports.
use Rattle.std.specs.Prelude.{ℕ, ◌+◌, Bool, false, ◌&&◌, nat_le, if◌then◌else◌, List, [], ◌∷◌, length, drop, Option, Some, None, is_some, codes}
use Rattle.std.specs.Option.{option_map_or}
use Rattle.std.specs.Fmt.{decimal}
use Rattle.petri_atom.specs.Name.{is_same_text}
use Rattle.petri_atom.specs.declared.state.TheConstants.{MAX_EXPORTS}
use Rattle.plant_words.specs.Splits.{PortParts, port_parts}
use Rattle.plant_words.specs.Words.{words_of}
use Rattle.shown_fault.specs.Names.{latest_in, says, second_word}
use Rattle.shown_fault.specs.RuleSign.{spaced}
use Rattle.shown_fault.specs.Shown.{shown, joined, cut_to, advice_line}
use Rattle.shown_fault.specs.declared.exports.Placed.{Placed}
use Rattle.shown_fault.specs.declared.window.TheConstants.{MAX_SHOWN}

-- the last of the lines that begins with this word and has a second one, or else this
abbrev pub latest_line : List ℕ → List ℕ → List (List ℕ) → List ℕ
latest_line latest first [] = latest
latest_line latest first (line ∷ lines) = latest_line (if is_some (second_word first line) then line else latest) first lines

-- the port of these parts of a word, if it is of the atom, or else this
abbrev pub port_or : List ℕ → PortParts → Option (List ℕ) → Option (List ℕ)
port_or atom parts other = if is_same_text parts.atom atom then Some parts.port else other

-- the port of the atom that is the first among the words
abbrev pub port_of_atom : List ℕ → List (List ℕ) → Option (List ℕ)
port_of_atom atom [] = None
port_of_atom atom (word ∷ words) = option_map_or (λ parts. port_or atom parts (port_of_atom atom words)) (port_parts word) (port_of_atom atom words)

-- a line with its number
abbrev pub placed : Placed → ℕ × List ℕ
placed found = (found.number, found.line.now)

-- the first of the lines, numbered from this on, that declares the port of the atom, where the lines begin inside of the atom or
-- outside
abbrev pub port_line : ℕ → Bool → List ℕ → List ℕ → List (List ℕ) → Option (ℕ × List ℕ)
port_line number inside atom port [] = None
port_line number inside atom port (line ∷ lines) =
    option_map_or (λ name. port_line (number + 1) (is_same_text name atom) atom port lines) (second_word (codes "atom") line)
    (if inside && says (codes "port") port line then Some (number, line) else port_line (number + 1) inside atom port lines)

-- how the line of a port has to be written to export this variable too, or that it exports as many as it may
unfoldable pub exporting_line : ℕ × List ℕ → List ℕ → List ℕ
exporting_line port variable =
    if nat_le (MAX_EXPORTS + 2) (length (words_of port.1))
    then advice_line (codes "the port of line " ∷ decimal port.0 ∷ codes " exports " ∷ decimal MAX_EXPORTS ∷ codes " variables already, and no port more" ∷ [])
    else advice_line (codes "write line " ∷ decimal port.0 ∷ codes " as '" ∷
    cut_to MAX_SHOWN (shown (joined (codes "port" ∷ spaced (drop 1 (words_of port.1)) ∷ codes " " ∷ variable ∷ []))) ∷ codes "'" ∷ [])

-- how to have a port of the atom export the variable; nothing if no line declares the port
unfoldable pub found_port_advice : List (List ℕ) → List ℕ → List ℕ → List ℕ → List ℕ
found_port_advice lines atom port variable = option_map_or (λ found. exporting_line found variable) (port_line 1 false atom port lines) []

-- that the connector has no port of the atom
abbrev pub no_leaf_line : List ℕ → List ℕ → List ℕ
no_leaf_line connector atom = advice_line (codes "connector " ∷ connector ∷ codes " has no port of atom " ∷ atom ∷ [])

-- how to have the port of the atom in the latest connector export the variable
unfoldable pub export_line : List (List ℕ) → List ℕ → List ℕ → List ℕ
export_line lines atom variable =
    option_map_or (λ port. found_port_advice lines atom port variable)
    (port_of_atom atom (drop 2 (words_of (latest_line [] (codes "connector") lines)))) (no_leaf_line (latest_in (codes "connector") lines) atom)
