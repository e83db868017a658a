-- Expressions over variables of atoms as expressions over numbers: each variable as its place in a list.
use Rattle.std.specs.Prelude.{ℕ, pos, Bool, ◌&&◌, ◌==◌, nat_le, if◌then◌else◌, List, [], ◌∷◌, ◌++◌, length, Option, is_some}
use Rattle.std.specs.List.{position}
use Rattle.std.specs.Option.{option_map_or}
use Rattle.petri_atom.specs.Expression.{Tree, number, variable, negation, operation, all_variables, word_count}
use Rattle.petri_atom.specs.declared.parts.TheConstants.{MAX_WORDS}
use Rattle.petri_atom.specs.declared.state.TheConstants.{MAX_VARIABLES}
use Rattle.plant_model.specs.declared.bound_expressions.AtomVariable.{AtomVariable}

-- two are the same variable
abbrev pub are_same : AtomVariable → AtomVariable → Bool
are_same v w = v.atom == w.atom && v.variable == w.variable

-- the place of a variable in a list, if it is in it
abbrev pub place_in : List AtomVariable → AtomVariable → Option ℕ
place_in list v = position (are_same v) list

-- a variable is in a list
abbrev pub is_listed : List AtomVariable → AtomVariable → Bool
is_listed list v = is_some (place_in list v)

-- a list, and behind it a variable if it is not in it
abbrev pub listed_variable : List AtomVariable → AtomVariable → List AtomVariable
listed_variable list v = if is_listed list v then list else list ++ v ∷ []

-- a list, and behind it the variables of an expression that are not in it, each once
abbrev pub listed : List AtomVariable → Tree AtomVariable → List AtomVariable
listed list (number n) = list
listed list (variable v) = listed_variable list v
listed list (negation e) = listed list e
listed list (operation op e f) = listed (listed list e) f

-- an expression with each variable as its place in a list; one that is not in it is 0
abbrev pub numbered : List AtomVariable → Tree AtomVariable → Tree ℕ
numbered list (number n) = number n
numbered list (variable v) = option_map_or variable (place_in list v) (number (pos 0))
numbered list (negation e) = negation (numbered list e)
numbered list (operation op e f) = operation op (numbered list e) (numbered list f)

-- each variable of an expression is in a list
abbrev pub are_listed : List AtomVariable → Tree AtomVariable → Bool
are_listed list e = all_variables (is_listed list) e

-- an expression names no more variables than code has, and is within the limit of words
abbrev pub fits_code : Tree AtomVariable → Bool
fits_code e = nat_le (length (listed [] e)) MAX_VARIABLES && nat_le (word_count e) MAX_WORDS
