-- Why a state does not offer a transition.
use Rattle.std.specs.Prelude.{ℕ, ℤ, not, ◌&&◌, if◌then◌else◌, List, find, Option, None, Some, option_map}
use Rattle.std.specs.Option.{option_or}
use Rattle.petri_atom.specs.Definition.{TransitionDefinition}
use Rattle.petri_atom.specs.Expression.{Tree, is_true, value_of}
use Rattle.petri_atom.specs.Local.{Local, has, is_in, value_in}
use Rattle.blocked_text.specs.declared.hindrance.Hindrance.{Hindrance}
use Rattle.blocked_text.specs.declared.hindrance.Hindrance.TheVariants.{Unmarked, Marked, ZeroGuard}

-- the first source that is not marked
abbrev pub first_unmarked : ℕ → List ℕ → Option ℕ
first_unmarked marking sources = find (λ p. not (has marking p)) sources

-- the first target that is marked and is no source
abbrev pub first_marked : ℕ → List ℕ → List ℕ → Option ℕ
first_marked marking targets sources = find (λ p. has marking p && not (is_in sources p)) targets

-- a guard that is 0
abbrev pub zero_guard : List ℤ → Tree ℕ → Option Hindrance
zero_guard values guard = if is_true (value_of (value_in values) guard) then None else Some ZeroGuard

-- the first that holds of these: a source is not marked, a target that is no source is marked, the guard is 0
abbrev pub hindrance_of : Local → TransitionDefinition → Option Hindrance
hindrance_of state t =
    option_or (option_map Unmarked (first_unmarked state.marking t.sources))
    (option_or (option_map Marked (first_marked state.marking t.targets t.sources)) (zero_guard state.values t.guard))
