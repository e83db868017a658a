-- A name that is not there, and those that are.
use Rattle.std.specs.Prelude.{ℕ, suc, zero, ◌-◌, List, [], ◌∷◌, ◌++◌, codes}
use Rattle.shown_fault.specs.declared.missing.TheConstants.{MAX_LISTED}
use Rattle.shown_fault.specs.Shown.{shown, joined, quoted, advice_line}
use Rattle.shown_fault.specs.Near.{near_line}

-- names after others, of which so many are listed
abbrev pub more_names : ℕ → List (List ℕ) → List ℕ
more_names room [] = []
more_names zero (name ∷ names) = codes ", .."
more_names (suc room) (name ∷ names) = codes ", " ++ shown name ++ more_names room names

-- names in a row, the first ones if there are many
abbrev pub names_listed : List (List ℕ) → List ℕ
names_listed [] = codes " none"
names_listed (name ∷ names) = joined (codes ": " ∷ shown name ∷ more_names (MAX_LISTED - 1) names ∷ [])

-- if a name is not there, the names that are, and one that was perhaps meant
unfoldable pub missing : List ℕ → List ℕ → List ℕ → List (List ℕ) → List ℕ
missing what others word names =
    joined (advice_line (what ∷ codes " " ∷ quoted word ∷ codes "; " ∷ others ∷ names_listed names ∷ []) ∷ near_line word names ∷ [])
