-- Which places are never marked.
use Rattle.std.specs.Prelude.{ℕ, Bool, not, ◌&&◌}
use Rattle.std.specs.List.{list_any}
use Rattle.petri_atom.specs.Definition.{AtomDefinition}
use Rattle.petri_atom.specs.Local.{is_in}
use Rattle.petri_atom.specs.declared.parts.Place.{Place}

-- some transition of the atom has the place with a number as a target
abbrev pub is_target : AtomDefinition → ℕ → Bool
is_target a place = list_any (λ t. is_in t.targets place) a.transitions

-- the place with a number is neither marked at first nor a target of a transition
abbrev pub is_never_marked : AtomDefinition → ℕ → Place → Bool
is_never_marked a number place = not place.marked && not (is_target a number)
