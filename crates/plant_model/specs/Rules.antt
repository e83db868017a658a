-- What atoms and wires have to keep to make a plant.
use Rattle.std.specs.Prelude.{◌≡◌, ℕ, suc, ◌++◌, ◌==◌, ◌&&◌, not, Bool, true, false, if◌then◌else◌, List, [], ◌∷◌, map, take, length, slice_get, Option, Some, None, option_map, nat_lt, nat_le, int_le}
use Rattle.std.specs.List.{list_all, list_any}
use Rattle.std.specs.Option.{option_map_or}
use Rattle.petri_atom.specs.Expression.{Tree, word_count, all_variables}
use Rattle.petri_atom.specs.Name.{is_same_text}
use Rattle.petri_atom.specs.Definition.{AtomDefinition, exports_of, is_each_once}
use Rattle.petri_atom.specs.declared.parts.TheConstants.{MAX_WORDS}
use Rattle.connector_tree.specs.Faults as tree
use Rattle.connector_tree.specs.Tree.{leaves}
use Rattle.connector_tree.specs.declared.tree.Port.{Port}
use Rattle.plant_model.specs.Plant.{TransferDefinition, WireDefinition, PlantDefinition}
use Rattle.priority_filter.specs.Decided.{order_fault}
use Rattle.priority_filter.specs.declared.rule.Rule.{Rule}
use Rattle.priority_filter.specs.declared.rule.Rule.TheVariants.{Under, UnderAt, Maximal}
use Rattle.priority_filter.specs.declared.seen.At.{At}
use Rattle.plant_model.specs.Choice.{named, plant_interactions}
use Rattle.plant_model.specs.declared.limits.TheConstants.{MAX_ATOMS, MAX_WIRES, MAX_RULES, MAX_GUARDS, MAX_TRANSFERS, MAX_INPUTS, MAX_INTERACTIONS}
use Rattle.plant_model.specs.declared.wire.Export.{Export}
use Rattle.plant_model.specs.declared.wire.Input.{Input}
use Rattle.plant_model.specs.declared.fault.SystemFault.{SystemFault}
use Rattle.plant_model.specs.declared.fault.SystemFault.TheVariants.{Limit, BadAtom, BadConnector, BadWire, Order, Memory}
use Rattle.plant_model.specs.declared.fault.WireFault.{WireFault}
use Rattle.plant_model.specs.declared.fault.WireFault.TheVariants.{NameTwice, UnknownPort, UnknownVariable, TargetTwice, EmptyRange}

-- the first of two, if it is there, and else the second
abbrev pub first_of : {F : Type 0} → Option F → Option F → Option F
first_of (Some fault) later = Some fault
first_of None later = later

-- what the first element tells that tells something; the elements are numbered from n
abbrev pub first_fault_in : {X F : Type 0} → (ℕ → X → Option F) → ℕ → List X → Option F
first_fault_in tell n [] = None
first_fault_in tell n (x ∷ xs) = first_of (tell n x) (first_fault_in tell (suc n) xs)

-- there are no more transfers than a wire may make, and the expression of each has no more words than one may have
abbrev pub are_small_transfers : List TransferDefinition → Bool
are_small_transfers transfers =
    nat_le (length transfers) MAX_TRANSFERS && list_all (λ t. nat_le (word_count t.value) MAX_WORDS) transfers

-- there are no more guard clauses than a wire may have, each with no more words than an expression may have
abbrev pub are_small_guards : List (Tree Export) → Bool
are_small_guards clauses =
    nat_le (length clauses) MAX_GUARDS && list_all (λ clause. nat_le (word_count clause) MAX_WORDS) clauses

-- a wire is within the limits
abbrev pub is_small_wire : WireDefinition → Bool
is_small_wire w = are_small_guards w.guards && are_small_transfers w.transfers && nat_le (length w.inputs) MAX_INPUTS

-- the atom is there, and has the place
abbrev pub is_known_place : List AtomDefinition → At → Bool
is_known_place atoms at = option_map_or (λ a. nat_lt at.place (length a.places)) (slice_get atoms at.atom) false

-- a rule has no condition, or one that names an atom and a place of it
abbrev pub is_known_condition : List AtomDefinition → Rule → Bool
is_known_condition atoms (Under left right) = true
is_known_condition atoms (UnderAt left right at) = is_known_place atoms at
is_known_condition atoms (Maximal connector) = true

-- there are no more rules than a plant may have, and each condition names an atom and a place of it
abbrev pub are_rules_over : List AtomDefinition → List Rule → Bool
are_rules_over atoms rules = nat_le (length rules) MAX_RULES && list_all (is_known_condition atoms) rules

-- There is an atom, and there are no more atoms, wires and rules than a plant may have, each wire within its limits. A condition that
-- asks for an atom or a place that is not there is past a limit too.
abbrev pub is_within_limits : PlantDefinition → Bool
is_within_limits plant =
    nat_lt 0 (length plant.atoms) && nat_le (length plant.atoms) MAX_ATOMS && nat_le (length plant.wires) MAX_WIRES &&
    are_rules_over plant.atoms plant.rules && list_all is_small_wire plant.wires

-- the atom with number n has the name of an earlier one
abbrev pub atom_fault : List AtomDefinition → ℕ → AtomDefinition → Option SystemFault
atom_fault atoms n a =
    if list_any (λ b. is_same_text b.name a.name) (take n atoms) then Some (BadAtom n) else None

-- the connector with number k breaks a rule of trees
abbrev pub tree_fault : ℕ → WireDefinition → Option SystemFault
tree_fault k w = option_map (BadConnector k) (tree.fault_of w.connector)

-- the atom and the port of a leaf are there
abbrev pub is_known_port : List AtomDefinition → Port → Bool
is_known_port atoms p = option_map_or (λ a. nat_lt p.port (length a.ports)) (slice_get atoms p.atom) false

-- the port of a leaf exports a variable with the number
abbrev pub is_exported : List AtomDefinition → Port → ℕ → Bool
is_exported atoms p export =
    option_map_or (λ a. nat_lt export (length (exports_of a p.port))) (slice_get atoms p.atom) false

-- the leaf is there, and its port exports such a variable
abbrev pub is_known_export : List AtomDefinition → List Port → Export → Bool
is_known_export atoms ports e = option_map_or (λ p. is_exported atoms p e.export) (slice_get ports e.leaf) false

-- each exported variable that a transfer names is there
abbrev pub names_known : List AtomDefinition → List Port → TransferDefinition → Bool
names_known atoms ports t =
    is_known_export atoms ports t.target && all_variables (is_known_export atoms ports) t.value

-- the exported variable of an input is there
abbrev pub is_known_input : List AtomDefinition → List Port → Input → Bool
is_known_input atoms ports i = is_known_export atoms ports i.target

-- some value lies in the range of an input
abbrev pub has_value : Input → Bool
has_value i = int_le i.low i.high

-- two exported variables are the same
abbrev pub is_same_export : Export → Export → Bool
is_same_export d e = d.leaf == e.leaf && d.export == e.export

-- the first rule that is broken: a name of its own, ports that are there, variables that are there, each target once, a value for each input
abbrev pub first_broken : Bool → Bool → Bool → Bool → Bool → Option WireFault
first_broken has_name has_ports has_variables has_targets_once has_values =
    if has_name then Some NameTwice else
    if not has_ports then Some UnknownPort else
    if not has_variables then Some UnknownVariable else
    if not has_targets_once then Some TargetTwice else
    if not has_values then Some EmptyRange else None

-- the first rule that a wire breaks, of those that are not about its tree alone; `earlier` are the wires before it
abbrev pub fault_of_wire : List AtomDefinition → List WireDefinition → WireDefinition → Option WireFault
fault_of_wire atoms earlier w =
    first_broken (list_any (λ v. is_same_text v.name w.name) earlier)
    (list_all (is_known_port atoms) (leaves w.connector))
    (list_all (all_variables (is_known_export atoms (leaves w.connector))) w.guards && list_all (names_known atoms (leaves w.connector)) w.transfers && list_all (is_known_input atoms (leaves w.connector)) w.inputs)
    (is_each_once is_same_export (map (λ t. t.target) w.transfers ++ map (λ i. i.target) w.inputs))
    (list_all has_value w.inputs)

-- the same of the wire with number k, told with that number
abbrev pub wire_fault : List AtomDefinition → List WireDefinition → ℕ → WireDefinition → Option SystemFault
wire_fault atoms wires k w = option_map (BadWire k) (fault_of_wire atoms (take k wires) w)

-- the first rule that is broken of those about limits, names of atoms and trees
abbrev pub early_fault : PlantDefinition → Option SystemFault
early_fault plant =
    if not (is_within_limits plant) then Some Limit else
    first_of (first_fault_in (atom_fault plant.atoms) 0 plant.atoms) (first_fault_in tree_fault 0 plant.wires)

-- there are no more interactions than a plant may have
abbrev pub fault_of_count : ℕ → Option SystemFault
fault_of_count interactions = if nat_lt MAX_INTERACTIONS interactions then Some Limit else None

-- the same of those about wires
abbrev pub fault_of_wires : PlantDefinition → Option SystemFault
fault_of_wires plant = first_fault_in (wire_fault plant.atoms plant.wires) 0 plant.wires

-- the same of those about wires, and about how many interactions there are
abbrev pub late_fault : PlantDefinition → Option SystemFault
late_fault plant = first_of (fault_of_wires plant) (fault_of_count (length (plant_interactions plant)))

-- why the priority rules put no order on the interactions, if they put none
abbrev pub fault_of_order : PlantDefinition → Option SystemFault
fault_of_order plant = option_map Order (order_fault plant.rules (map named (plant_interactions plant)))

-- the first rule that a plant breaks
abbrev pub fault_of : PlantDefinition → Option SystemFault
fault_of plant = first_of (early_fault plant) (first_of (late_fault plant) (fault_of_order plant))

-- the first rule that is broken of those that are judged without memory: all but the number of interactions and their order
abbrev pub first_fault : PlantDefinition → Option SystemFault
first_fault plant = first_of (early_fault plant) (fault_of_wires plant)

-- why atoms and wires made no plant: the rule that they break first, or want of memory, which is told only where no rule is broken that is judged without memory
abbrev pub IsFaultOf : SystemFault → PlantDefinition → Type 0
IsFaultOf Memory plant = first_fault plant ≡ None
IsFaultOf fault plant = fault_of plant ≡ Some fault
