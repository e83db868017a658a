use Rattle.std.specs.Prelude.{◌≡◌, ◌≤◌, ℕ, suc, ℤ, pos, Bool, true, false, not, ◌&&◌, if◌then◌else◌, List, [], ◌∷◌, length, filter, find, map, slice_get, slice_set, Option, Some, None, ◌==◌, nat_lt, nat_le, nat_eq}
use Rattle.std.specs.List.{list_all, list_any}
use Rattle.std.specs.Option.{option_map_or}
use Rattle.petri_atom.specs.Expression.{Tree, value_of, is_true, word_count, has_variables_below}
use Rattle.petri_atom.specs.Local.{Local, has, set_below, all_marked, is_blocked, moved, value_in, Row, delivered_value}
use Rattle.petri_atom.specs.Name.{is_same_text}
use Rattle.petri_atom.specs.declared.fault.AtomFault.{AtomFault}
use Rattle.petri_atom.specs.declared.fault.AtomFault.TheVariants.{Limit, Twice, Unknown, NoPlace, Memory}
use Rattle.petri_atom.specs.declared.parts.Place.{Place}
use Rattle.petri_atom.specs.declared.parts.Variable.{Variable}
use Rattle.petri_atom.specs.declared.state.TheConstants.{MAX_PLACES, MAX_VARIABLES, MAX_EXPORTS}
use Rattle.petri_atom.specs.declared.parts.TheConstants.{MAX_PORTS, MAX_TRANSITIONS, MAX_UPDATES, MAX_WORDS}

-- ---- what an atom is

-- a port: its name, and the numbers of the variables that it exports
pub record PortDefinition : Type 0 where
  pub name : List ℕ
  pub exports : List ℕ

-- an update: the variable gets the value of the expression
pub record UpdateDefinition : Type 0 where
  pub variable : ℕ
  pub value : Tree ℕ

-- a transition: its port, the numbers of its source and target places, its guard and its updates in order
pub record TransitionDefinition : Type 0 where
  pub port : ℕ
  pub sources : List ℕ
  pub targets : List ℕ
  pub guard : Tree ℕ
  pub updates : List UpdateDefinition

-- an atom as it was written; each part has the number of its place in its list
pub record AtomDefinition : Type 0 where
  pub name : List ℕ
  pub places : List Place
  pub variables : List Variable
  pub ports : List PortDefinition
  pub transitions : List TransitionDefinition

-- the name of the variable with a number; empty if it is not there
abbrev pub variable_name : AtomDefinition → ℕ → List ℕ
variable_name a variable = option_map_or (λ v. v.name) (slice_get a.variables variable) []

-- the name of the port with a number; empty if it is not there
abbrev pub port_name : AtomDefinition → ℕ → List ℕ
port_name a port = option_map_or (λ p. p.name) (slice_get a.ports port) []

-- ---- offered

-- a marking lets a transition move: all its sources are marked, and no target that is no source is
abbrev pub can_move : ℕ → TransitionDefinition → Bool
can_move marking t = all_marked marking t.sources && not (is_blocked marking t.targets t.sources)

-- a local state offers a transition: its marking lets it move, and its guard is not 0
abbrev pub offers : Local → TransitionDefinition → Bool
offers state t = can_move state.marking t && is_true (value_of (value_in state.values) t.guard)

-- the same of the transition with a number; one that is not there is not offered
abbrev pub offers_number : AtomDefinition → Local → ℕ → Bool
offers_number a state n = option_map_or (offers state) (slice_get a.transitions n) false

-- the set of the transitions that a local state offers
abbrev pub offered_set : AtomDefinition → Local → ℕ
offered_set a state = set_below (length a.transitions) (offers_number a state)

-- the numbers, counted from n, of the transitions of a port
abbrev pub numbers_from : ℕ → ℕ → List TransitionDefinition → List ℕ
numbers_from n port [] = []
numbers_from n port (t ∷ ts) =
    if t.port == port then n ∷ numbers_from (suc n) port ts else numbers_from (suc n) port ts

-- the numbers of the transitions of a port, rising
abbrev pub numbers_of : ℕ → List TransitionDefinition → List ℕ
numbers_of port ts = numbers_from 0 port ts

-- the numbers of a port's transitions that a local state offers, rising
abbrev pub enabled : AtomDefinition → Local → ℕ → List ℕ
enabled a state port = filter (offers_number a state) (numbers_of port a.transitions)

-- whether a local state offers some transition of the port
abbrev pub offers_port : AtomDefinition → Local → ℕ → Bool
offers_port a state port = list_any (offers_number a state) (numbers_of port a.transitions)

-- the least number in a rising list that is not below a bound
abbrev pub first_from : ℕ → List ℕ → Option ℕ
first_from low numbers = find (λ n. nat_le low n) numbers

-- ---- firing

-- the values after the delivered ones were assigned to the exported variables, the first of which is number j of its port
abbrev pub delivered_to : Row → ℕ → List ℕ → List ℤ → List ℤ
delivered_to d j [] values = values
delivered_to d j (v ∷ vs) values =
    delivered_to d (suc j) vs (option_map_or (slice_set values v) (delivered_value d j) values)

-- the values after the updates were run in order
abbrev pub updated : List UpdateDefinition → List ℤ → List ℤ
updated [] values = values
updated (u ∷ us) values = updated us (slice_set values u.variable (value_of (value_in values) u.value))

-- the variables that a port exports
abbrev pub exports_of : AtomDefinition → ℕ → List ℕ
exports_of a port = option_map_or (λ p. p.exports) (slice_get a.ports port) []

-- the value of a variable that a port exports; 0 if it exports no such one
abbrev pub exported_value : AtomDefinition → Local → ℕ → ℕ → ℤ
exported_value a state port export =
    option_map_or (value_in state.values) (slice_get (exports_of a port) export) (pos 0)

-- the local state after a transition: the delivered values are assigned, then the updates run in order, and the marking loses the sources and gains the targets
abbrev pub fired_by : TransitionDefinition → List ℕ → Row → Local → Local
fired_by t exports d state = record {
  marking = moved state.marking t.sources t.targets;
  values = updated t.updates (delivered_to d 0 exports state.values);
}

-- the same of the transition with a number
abbrev pub fired : AtomDefinition → ℕ → Row → Local → Local
fired a n d state =
    option_map_or (λ t. fired_by t (exports_of a t.port) d state) (slice_get a.transitions n) state

-- ---- the first state

-- whether the place with a number is marked at first
abbrev pub is_marked_first : List Place → ℕ → Bool
is_marked_first places k = option_map_or (λ p. p.marked) (slice_get places k) false

-- the first state: the places that are marked at first, and the variables' first values
abbrev pub initial : AtomDefinition → Local
initial a = record {
  marking = set_below (length a.places) (is_marked_first a.places);
  values = map (λ v. v.first) a.variables;
}

-- ---- the rules

-- no two elements of the list are the same
abbrev pub is_each_once : {X : Type 0} → (X → X → Bool) → List X → Bool
is_each_once same [] = true
is_each_once same (x ∷ xs) = not (list_any (λ y. same y x) xs) && is_each_once same xs

-- the numbers are below a bound
abbrev pub are_below : ℕ → List ℕ → Bool
are_below bound ks = list_all (λ k. nat_lt k bound) ks

-- the expression of an update is within the limit of words
abbrev pub is_small_value : UpdateDefinition → Bool
is_small_value u = nat_le (word_count u.value) MAX_WORDS

-- the limits of a transition: its updates, and the words of its expressions
abbrev pub is_small_transition : TransitionDefinition → Bool
is_small_transition t =
    nat_le (length t.updates) MAX_UPDATES && nat_le (word_count t.guard) MAX_WORDS && list_all is_small_value t.updates

-- a port exports at most as many variables as one may
abbrev pub exports_few : PortDefinition → Bool
exports_few p = nat_le (length p.exports) MAX_EXPORTS

-- a port exports no variable twice
abbrev pub exports_once : PortDefinition → Bool
exports_once p = is_each_once nat_eq p.exports

-- a port exports variables that are there alone
abbrev pub exports_known : ℕ → PortDefinition → Bool
exports_known variables p = are_below variables p.exports

-- the atom keeps each limit
abbrev pub is_within_limits : AtomDefinition → Bool
is_within_limits a =
    nat_le (length a.places) MAX_PLACES && nat_le (length a.variables) MAX_VARIABLES &&
    nat_le (length a.ports) MAX_PORTS && nat_le (length a.transitions) MAX_TRANSITIONS &&
    list_all exports_few a.ports && list_all is_small_transition a.transitions

-- no place stands twice among the sources of a transition, and none among its targets
abbrev pub has_each_place_once : TransitionDefinition → Bool
has_each_place_once t = is_each_once nat_eq t.sources && is_each_once nat_eq t.targets

-- places, variables and ports have names of their own; no port exports a variable twice, and no transition has a place twice in one list
abbrev pub has_each_once : AtomDefinition → Bool
has_each_once a =
    is_each_once (λ x y. is_same_text x.name y.name) a.places &&
    is_each_once (λ x y. is_same_text x.name y.name) a.variables &&
    is_each_once (λ x y. is_same_text x.name y.name) a.ports && list_all exports_once a.ports &&
    list_all has_each_place_once a.transitions

-- the variables of an update are there
abbrev pub has_known_variables : ℕ → UpdateDefinition → Bool
has_known_variables variables u = nat_lt u.variable variables && has_variables_below variables u.value

-- the numbers in a transition are of ports, places and variables that are there
abbrev pub has_known_numbers_in : ℕ → ℕ → ℕ → TransitionDefinition → Bool
has_known_numbers_in ports places variables t =
    nat_lt t.port ports && are_below places t.sources && are_below places t.targets &&
    has_variables_below variables t.guard && list_all (has_known_variables variables) t.updates

-- each number in the atom is of a part that is there
abbrev pub has_known_numbers : AtomDefinition → Bool
has_known_numbers a =
    list_all (exports_known (length a.variables)) a.ports &&
    list_all (has_known_numbers_in (length a.ports) (length a.places) (length a.variables)) a.transitions

-- a transition has a source and a target
abbrev pub has_source_and_target : TransitionDefinition → Bool
has_source_and_target t = nat_lt 0 (length t.sources) && nat_lt 0 (length t.targets)

-- each transition does
abbrev pub has_sources_and_targets : AtomDefinition → Bool
has_sources_and_targets a = list_all has_source_and_target a.transitions

-- the first kind of rule that the atom breaks
abbrev pub fault_of : AtomDefinition → Option AtomFault
fault_of a =
    if not (is_within_limits a) then Some Limit else
    if not (has_each_once a) then Some Twice else
    if not (has_known_numbers a) then Some Unknown else
    if not (has_sources_and_targets a) then Some NoPlace else None

-- the atom breaks no rule
abbrev pub is_well_formed : AtomDefinition → Bool
is_well_formed a = is_within_limits a && has_each_once a && has_known_numbers a && has_sources_and_targets a

-- why parts made no atom: the rule that they break first, or, if they break none, want of memory
abbrev pub IsFaultOf : AtomFault → Option AtomFault → Type 0
IsFaultOf fault (Some broken) = fault ≡ broken
IsFaultOf fault None = fault ≡ Memory

-- a state fits an atom: it has a value for each variable, and marks no place that the atom hasn't
pub record Fits (a : AtomDefinition) (state : Local) : Type 0 where
  pub variables : length state.values ≡ length a.variables
  pub places : (k : ℕ) → length a.places ≤ k → has state.marking k ≡ false
