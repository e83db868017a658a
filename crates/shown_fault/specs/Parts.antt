-- A name of no part of an atom, or of no atom, and the names that there are.
use Rattle.std.specs.Prelude.{ℕ, if◌then◌else◌, List, [], ◌∷◌, Option, Some, None, codes}
use Rattle.shown_fault.specs.Missing.{missing}
use Rattle.shown_fault.specs.Names.{names_in, latest_in, part_names_in, is_among}
use Rattle.shown_fault.specs.Shown.{joined}

-- the parts of an atom whose lines begin with this word
unfoldable pub part_advice : List (List ℕ) → List ℕ → List ℕ → List ℕ → List ℕ → List ℕ
part_advice lines atom first kind word =
    missing (joined (codes "atom " ∷ atom ∷ codes " has no " ∷ kind ∷ [])) (codes "it has") word (part_names_in atom first lines)

-- the same of the latest atom
unfoldable pub latest_part_advice : List (List ℕ) → List ℕ → List ℕ → List ℕ → List ℕ
latest_part_advice lines first kind word = part_advice lines (latest_in (codes "atom") lines) first kind word

-- the atoms, if the word is none of them
unfoldable pub atom_advice : List (List ℕ) → List ℕ → Option (List ℕ)
atom_advice lines word =
    if is_among (names_in (codes "atom") lines) word then None
    else Some (missing (codes "there is no atom") (codes "there are") word (names_in (codes "atom") lines))

-- the atoms, if the word is none of them, or else this
abbrev pub atom_or : Option (List ℕ) → List ℕ → List ℕ
atom_or None other = other
atom_or (Some text) other = text
