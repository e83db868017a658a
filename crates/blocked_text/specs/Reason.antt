-- Why an interaction is not allowed in a state.
use Rattle.std.specs.Prelude.{ℕ, Bool, not, ◌&&◌, List, find, length, map, slice_get, Option, None, option_map}
use Rattle.std.specs.List.{position_from, range_with_len}
use Rattle.std.specs.Option.{option_map_or, option_or}
use Rattle.petri_atom.specs.Definition.{AtomDefinition}
use Rattle.petri_atom.specs.Expression.{Tree, is_true, value_of}
use Rattle.petri_atom.specs.Local.{Local}
use Rattle.connector_tree.specs.Tree.{leaves}
use Rattle.connector_tree.specs.declared.tree.Port.{Port}
use Rattle.priority_filter.specs.Decided.{is_below}
use Rattle.plant_model.specs.Choice.{Interaction, active_in, is_offered_port, is_possible_at, named, plant_interactions}
use Rattle.plant_model.specs.Exports.{clause_applies, value_at}
use Rattle.plant_model.specs.Plant.{PlantDefinition, WireDefinition}
use Rattle.plant_model.specs.declared.wire.Export.{Export}
use Rattle.blocked_text.specs.declared.reason.Reason.{Reason}
use Rattle.blocked_text.specs.declared.reason.Reason.TheVariants.{NotOffered, GuardIsZero, GivesWay}

-- the first of the ports that is not offered
abbrev pub first_idle : List AtomDefinition → List Local → List Port → Option Port
first_idle atoms states ports = find (λ p. not (is_offered_port atoms states p)) ports

-- a guard clause applies, and is 0
abbrev pub is_zero_clause : List AtomDefinition → List Local → List Port → ℕ → Tree Export → Bool
is_zero_clause atoms states ports mask clause =
    clause_applies mask clause && not (is_true (value_of (value_at atoms states ports) clause))

-- the number of the first of the clauses that applies and is 0
abbrev pub first_zero : List AtomDefinition → List Local → List Port → ℕ → List (Tree Export) → Option ℕ
first_zero atoms states ports mask clauses = position_from (is_zero_clause atoms states ports mask) 0 clauses

-- the same of the guard clauses of an interaction's connector
abbrev pub zero_of : List AtomDefinition → List WireDefinition → List Local → Interaction → Option ℕ
zero_of atoms wires states i =
    option_map_or (λ w. first_zero atoms states (leaves w.connector) i.mask w.guards) (slice_get wires i.connector) None

-- the interaction with number m is possible, and above the one with number n by the rules that count
abbrev pub is_over : PlantDefinition → List Local → List Interaction → ℕ → ℕ → Bool
is_over plant states interactions n m =
    is_possible_at plant.atoms plant.wires states interactions m && is_below (active_in plant states) (map named interactions) n m

-- the first possible interaction that is above the one with number n
abbrev pub first_over : PlantDefinition → List Local → List Interaction → ℕ → Option ℕ
first_over plant states interactions n = find (is_over plant states interactions n) (range_with_len 0 (length interactions))

-- the first that holds of these: a port is not offered, a guard clause that applies is 0, a possible interaction is above
abbrev pub reason_by : PlantDefinition → List Local → List Interaction → ℕ → Interaction → Option Reason
reason_by plant states interactions n i =
    option_or (option_map NotOffered (first_idle plant.atoms states i.ports))
    (option_or (option_map GuardIsZero (zero_of plant.atoms plant.wires states i)) (option_map GivesWay (first_over plant states interactions n)))

-- the reason of the interaction with a number in a list of interactions; none of one that is not there
abbrev pub reason_among : PlantDefinition → List Local → List Interaction → ℕ → Option Reason
reason_among plant states interactions n =
    option_map_or (reason_by plant states interactions n) (slice_get interactions n) None

-- why the interaction of a plant with a number is not allowed in a state
abbrev pub reason_of : PlantDefinition → List Local → ℕ → Option Reason
reason_of plant states n = reason_among plant states (plant_interactions plant) n
