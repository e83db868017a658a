-- Places, and variables of other atoms, where a variable has to stand.
use Rattle.std.specs.Prelude.{ℕ, Bool, if◌then◌else◌, List, [], ◌∷◌, codes}
use Rattle.std.specs.Option.{option_map_or}
use Rattle.petri_atom.specs.Name.{is_same_text}
use Rattle.plant_words.specs.Splits.{export_parts}
use Rattle.shown_fault.specs.Missing.{names_listed}
use Rattle.shown_fault.specs.Names.{is_among, latest_in, part_names_in}
use Rattle.shown_fault.specs.Parts.{latest_part_advice, part_advice}
use Rattle.shown_fault.specs.Shown.{joined, quoted, advice_line}

-- the atom has a part with the name, by the first word of the lines of such parts
abbrev pub has_part_named : List (List ℕ) → List ℕ → List ℕ → List ℕ → Bool
has_part_named lines atom first name = is_among (part_names_in atom first lines) name

-- that a place of the atom stands where a variable has to, and where places are asked for
unfoldable pub place_lines : List ℕ → List ℕ → List ℕ
place_lines atom place =
    joined (advice_line (quoted place ∷ codes " is a place of atom " ∷ atom ∷ codes ", and an expression of a plant has variables alone" ∷ []) ∷
    advice_line (codes "'from " ∷ place ∷ codes "' asks for a place in a transition, 'when " ∷ atom ∷ codes " at " ∷ place ∷ codes "' in a rule" ∷ []) ∷ [])

-- the variables of the latest atom, or where its places are asked for if the word is one
unfoldable pub plain_advice : List (List ℕ) → List ℕ → List ℕ
plain_advice lines word =
    if has_part_named lines (latest_in (codes "atom") lines) (codes "place") word then place_lines (latest_in (codes "atom") lines) word
    else latest_part_advice lines (codes "var") (codes "variable") word

-- that a transition reads no variable of another atom
abbrev pub other_atom_line : List (List ℕ) → List ℕ
other_atom_line lines =
    advice_line (codes "a transition reads the variables of its own atom alone, by their names; " ∷ latest_in (codes "atom") lines ∷ codes " has" ∷
    names_listed (part_names_in (latest_in (codes "atom") lines) (codes "var") lines) ∷ [])

-- what to write for a name of the latest atom with the atom before it
abbrev pub own_advice : List (List ℕ) → List ℕ → List ℕ
own_advice lines name =
    if has_part_named lines (latest_in (codes "atom") lines) (codes "var") name
    then advice_line (codes "a variable of the same atom is written without it: write '" ∷ name ∷ codes "'" ∷ [])
    else plain_advice lines name

-- the same of a name of any atom
abbrev pub dotted_advice : List (List ℕ) → List ℕ × List ℕ → List ℕ
dotted_advice lines parts =
    if is_same_text parts.0 (latest_in (codes "atom") lines) then own_advice lines parts.1
    else if has_part_named lines parts.0 (codes "place") parts.1 then place_lines parts.0 parts.1
    else other_atom_line lines

-- where a transition names what is no variable of its atom: the variables, or where places are asked for
unfoldable pub reading_advice : List (List ℕ) → List ℕ → List ℕ
reading_advice lines word = option_map_or (dotted_advice lines) (export_parts word) (plain_advice lines word)

-- where the atom of a connector has no variable with the name: its variables, or where its places are asked for
unfoldable pub atom_reading_advice : List (List ℕ) → List ℕ → List ℕ → List ℕ
atom_reading_advice lines atom name =
    if has_part_named lines atom (codes "place") name then place_lines atom name
    else part_advice lines atom (codes "var") (codes "variable") name
