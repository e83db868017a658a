use Rattle.std.specs.Prelude.{ℕ, zero, suc, Bool, false, List, [], ◌∷◌, ◌++◌, length, map, slice_get, ◌==◌}
use Rattle.std.specs.Option.{option_map_or}
use Rattle.petri_atom.specs.Local.{set_below}
use Rattle.petri_atom.specs.Definition.{PortDefinition, TransitionDefinition, AtomDefinition}
use Rattle.petri_atom.specs.Transition.{transition_of}
use Rattle.petri_atom.specs.declared.parts.Place.{Place}
use Rattle.petri_atom.specs.declared.parts.Variable.{Variable}
use Rattle.petri_atom.specs.declared.parts.Port.{Port}
use Rattle.petri_atom.specs.declared.transition.Transition.{Transition}

-- a port as it was written
abbrev pub port_of : Port → PortDefinition
port_of p = record { name = p.name; exports = p.exports.items }

-- the atom that is made of these parts
abbrev pub definition_by : List ℕ → List Place → List Variable → List Port → List Transition → AtomDefinition
definition_by name places variables ports transitions = record {
  name = name;
  places = places;
  variables = variables;
  ports = map port_of ports;
  transitions = map transition_of transitions;
}

-- what belongs to each number below n, in order
abbrev pub table_below : {X : Type 0} → (ℕ → X) → ℕ → List X
table_below of zero = []
table_below of (suc n) = table_below of n ++ of n ∷ []

-- the transition with a number is of the port
abbrev pub is_of_port : ℕ → List TransitionDefinition → ℕ → Bool
is_of_port port ts n = option_map_or (λ t. t.port == port) (slice_get ts n) false

-- the set of the transitions of a port
abbrev pub set_of_port : ℕ → List TransitionDefinition → ℕ
set_of_port port ts = set_below (length ts) (is_of_port port ts)

-- for each port below n, the set of its transitions
abbrev pub sets_below : ℕ → List TransitionDefinition → List ℕ
sets_below n ts = table_below (λ port. set_of_port port ts) n
