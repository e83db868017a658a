-- The condition of a rule.
use Rattle.std.specs.Prelude.{ℕ, ◌+◌, if◌then◌else◌, List, [], ◌∷◌, Option, Some, None, slice_get, unwrap_or, codes}
use Rattle.std.specs.Option.{option_map_or}
use Rattle.petri_atom.specs.Name.{is_name, is_same_text}
use Rattle.plant_words.specs.Splits.{export_parts}
use Rattle.shown_fault.specs.Parts.{atom_advice, atom_or, part_advice}
use Rattle.shown_fault.specs.Places.{has_part_named}
use Rattle.shown_fault.specs.Shown.{joined, advice_line}
use Rattle.shown_fault.specs.declared.condition.TheConstants.{ATOM_OF_CONDITION}

-- the condition that this place of the atom is marked
abbrev pub asked_line : List ℕ → List ℕ → List ℕ
asked_line atom place = advice_line (codes "a condition is written as ATOM at PLACE: write 'when " ∷ atom ∷ codes " at " ∷ place ∷ codes "'" ∷ [])

-- how a condition is written
abbrev pub condition_line : List ℕ
condition_line = advice_line (codes "a condition is written as ATOM at PLACE, and compares nothing" ∷ [])

-- how a condition is written that names a place, or another part, of an atom by one word
unfoldable pub asked_advice : List (List ℕ) → List ℕ → List ℕ → List ℕ
asked_advice lines atom name =
    if has_part_named lines atom (codes "place") name then asked_line atom name
    else joined (condition_line ∷ part_advice lines atom (codes "place") (codes "place") name ∷ [])

-- how a condition is written of this atom and this place, if both are there and the word is `at`
abbrev pub asked_or : Option (List ℕ) → Option (List ℕ) → List ℕ → List ℕ
asked_or (Some atom) (Some place) word = if is_same_text word (codes "at") then asked_line atom place else condition_line
asked_or atom place word = condition_line

-- how the condition of a line with these words is written whose first word is no name
unfoldable pub condition_form : List (List ℕ) → List ℕ → List ℕ
condition_form line word = asked_or (slice_get line (ATOM_OF_CONDITION + 1)) (slice_get line (ATOM_OF_CONDITION + 2)) word

-- the atoms, if the name is none of them
unfoldable pub atom_name_advice : List (List ℕ) → List ℕ → List ℕ
atom_name_advice lines word = atom_or (atom_advice lines word) []

-- the atoms, if the word of a condition of the line is none of them; or how a condition is written
unfoldable pub condition_atom_advice : List (List ℕ) → List (List ℕ) → List ℕ → List ℕ
condition_atom_advice lines line word =
    option_map_or (λ parts. atom_or (atom_advice lines parts.0) (asked_advice lines parts.0 parts.1)) (export_parts word)
    (if is_name word then atom_name_advice lines word else condition_form line word)

-- the places of the atom that the words of a rule name after `when`
unfoldable pub condition_place_advice : List (List ℕ) → List (List ℕ) → List ℕ → List ℕ
condition_place_advice lines words word = part_advice lines (unwrap_or (slice_get words ATOM_OF_CONDITION) []) (codes "place") (codes "place") word

-- how the condition of a line is written, where a word stands in the place of its `at`
abbrev pub asked_at : List ℕ → Option (List ℕ) → List ℕ
asked_at word (Some atom) = if is_name word then asked_line atom word else condition_line
asked_at word None = condition_line

unfoldable pub at_advice : List (List ℕ) → List ℕ → List ℕ
at_advice line word = asked_at word (slice_get line ATOM_OF_CONDITION)
