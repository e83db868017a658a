-- Words that are names.
use Rattle.std.specs.Prelude.{ℕ, if◌then◌else◌, List, Option, Some, None}
use Rattle.petri_atom.specs.Name.{is_name}

-- a word that is a name
abbrev pub name_in : List ℕ → Option (List ℕ)
name_in word = if is_name word then Some word else None
