-- A name that a word was perhaps meant to be.
use Rattle.std.specs.Prelude.{ℕ, ◌/◌, Bool, ◌&&◌, List, [], ◌∷◌, length, nat_le, nat_eq, find, Option, Some, None, codes}
use Rattle.std.specs.Option.{option_map_or}
use Rattle.strsim.specs.Edits.{levenshtein_row}
use Rattle.shown_fault.specs.Shown.{advice_line}
use Rattle.shown_fault.specs.declared.near.TheConstants.{MAX_COMPARED}

-- the least number of bytes that are put in, taken out or changed from a word to a name
abbrev pub edits_between : List ℕ → List ℕ → ℕ
edits_between word name = levenshtein_row nat_eq word name (length name)

-- the word becomes the name by so many edits, and by no more than half of its bytes; a long one is near to none
abbrev pub is_near : ℕ → List ℕ → List ℕ → Bool
is_near edits word name =
    nat_le (length word) MAX_COMPARED && (nat_le (edits_between word name) edits && nat_le (edits_between word name) (length word / 2))

-- the first of the names that the word becomes by so many edits
abbrev pub first_near : ℕ → List ℕ → List (List ℕ) → Option (List ℕ)
first_near edits word names = find (is_near edits word) names

-- the first one that is found, or else the second
abbrev pub either_of : Option (List ℕ) → Option (List ℕ) → Option (List ℕ)
either_of (Some name) other = Some name
either_of None other = other

-- a name that the word becomes by one edit, or else by two: the first one
abbrev pub near_name : List ℕ → List (List ℕ) → Option (List ℕ)
near_name word names = either_of (first_near 1 word names) (first_near 2 word names)

-- a line with the name that the word was perhaps meant to be; nothing if no name is near
unfoldable pub near_line : List ℕ → List (List ℕ) → List ℕ
near_line word names =
    option_map_or (λ name. advice_line (codes "did you mean '" ∷ name ∷ codes "'?" ∷ [])) (near_name word names) []
