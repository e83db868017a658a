-- What is known of a state while some atoms are away.
use Rattle.std.specs.Prelude.{ℕ, suc, Bool, true, false, not, if◌then◌else◌, List, [], ◌∷◌, map, slice_get, Option, Some, None, is_none}
use Rattle.std.specs.Option.{option_map_or}
use Rattle.petri_atom.specs.Local.{Local, has}
use Rattle.priority_filter.specs.Active.{active}
use Rattle.priority_filter.specs.declared.rule.Rule.{Rule}
use Rattle.priority_filter.specs.declared.seen.At.{At}
use Rattle.plant_model.specs.Plant.{PlantDefinition}

-- the parts of a state are the local states of the atoms that are present, and nothing of those that are away
abbrev pub parts_from : (ℕ → Bool) → ℕ → List Local → List (Option Local)
parts_from away n [] = []
parts_from away n (state ∷ states) = (if away n then None else Some state) ∷ parts_from away (suc n) states

abbrev pub parts_of : (ℕ → Bool) → List Local → List (Option Local)
parts_of away states = parts_from away 0 states

-- the atom with a number is present: it is not away
abbrev pub is_present : List (Option Local) → ℕ → Bool
is_present parts n = not (option_map_or is_none (slice_get parts n) false)

-- an atom that is away shows no marked place; so it offers nothing
abbrev pub nothing_shown : Local
nothing_shown = record { marking = 0; values = [] }

abbrev pub shown : Option Local → Local
shown (Some state) = state
shown None = nothing_shown

-- the states that parts show
abbrev pub shown_in : List (Option Local) → List Local
shown_in parts = map shown parts

-- the place is marked, or it may be: its atom is away
abbrev pub may_be_marked_in : List (Option Local) → At → Bool
may_be_marked_in parts at =
    option_map_or (λ part. option_map_or (λ s. has s.marking at.place) part true) (slice_get parts at.atom) false

-- the rules that count, and those that may: their condition asks for an atom that is away
abbrev pub may_count_in : PlantDefinition → List (Option Local) → List Rule
may_count_in plant parts = active (may_be_marked_in parts) plant.rules
