-- Worked examples of the definitions, as computed facts.
use Rattle.std.proofs.Common.{◌≡◌, ◌&&◌, ℕ, ℤ, pos, true, false, refl, List, [], ◌∷◌, ◌++◌, map, replicate, codes, Option, Some, None}
use Rattle.std.specs.List.{list_all}
use Rattle.petri_atom.specs.Expression.{Tree, number, variable, operation, all_variables}
use Rattle.petri_atom.specs.Local.{Local}
use Rattle.petri_atom.specs.Definition.{AtomDefinition, TransitionDefinition, is_each_once}
use Rattle.petri_atom.specs.declared.expression.Operator.TheVariants.{Less}
use Rattle.connector_tree.specs.Faults as tree
use Rattle.connector_tree.specs.Tree as connectors
use Rattle.connector_tree.specs.declared.faults.TreeFault.{TreeFault}
use Rattle.connector_tree.specs.declared.tree.Port.{Port}
use Rattle.priority_filter.specs.declared.rule.Rule.TheVariants.{UnderAt, Maximal}
use Rattle.priority_filter.specs.declared.rule.Side.TheVariants.{Whole}
use Rattle.plant_model.specs.Choice.{Interaction, ChoiceDefinition, interaction_by, is_possible, combinations, choices_of}
use Rattle.plant_model.specs.Plant.{TransferDefinition, WireDefinition}
use Rattle.plant_model.specs.Rules.{early_fault, fault_of_count, fault_of_wire, first_broken, is_known_export, is_known_port, is_same_export, names_known}
use Rattle.plant_model.specs.declared.choice.Move.{Move}
use Rattle.plant_model.specs.declared.fault.SystemFault.{SystemFault}
use Rattle.plant_model.specs.declared.fault.SystemFault.TheVariants.{Limit, BadAtom, BadConnector}
use Rattle.plant_model.specs.declared.fault.WireFault.{WireFault}
use Rattle.plant_model.specs.declared.fault.WireFault.TheVariants.{NameTwice, UnknownPort, UnknownVariable, TargetTwice}
use Rattle.plant_model.specs.declared.wire.Export.{Export}

-- port 0 of an atom, and a move of an atom
abbrev port_of_atom : ℕ → Port
port_of_atom atom = record { atom = atom; port = 0 }

abbrev move : ℕ → ℕ → Move
move atom transition = record { atom = atom; transition = transition }

-- the last of two lists varies fastest
pairs : combinations {X = ℕ} ((1 ∷ 2 ∷ []) ∷ (3 ∷ 4 ∷ 5 ∷ []) ∷ []) ≡ (1 ∷ 3 ∷ []) ∷ (1 ∷ 4 ∷ []) ∷ (1 ∷ 5 ∷ []) ∷ (2 ∷ 3 ∷ []) ∷ (2 ∷ 4 ∷ []) ∷ (2 ∷ 5 ∷ []) ∷ []
pairs = refl

-- nothing is to be chosen where one list is empty, and there is one row of no lists
no_pairs : combinations {X = ℕ} ((1 ∷ 2 ∷ []) ∷ [] ∷ []) ≡ []
no_pairs = refl

one_row_of_nothing : combinations {X = ℕ} [] ≡ [] ∷ []
one_row_of_nothing = refl

-- the ports of leaves 0 and 2, of atoms 5 and 1: in rising order of their atoms
ports_rise_by_atom : interaction_by 6 3 (port_of_atom 5 ∷ port_of_atom 4 ∷ port_of_atom 1 ∷ []) 5 ≡ record { connector = 3; mask = 5; ports = port_of_atom 1 ∷ port_of_atom 5 ∷ [] }
ports_rise_by_atom = refl

-- a trigger of atom 4 with a synchron of atom 2: alone, and with it
ports_of_a_trigger : map (interaction_by 6 1 (port_of_atom 4 ∷ port_of_atom 2 ∷ [])) (1 ∷ 3 ∷ []) ≡ record { connector = 1; mask = 1; ports = port_of_atom 4 ∷ [] } ∷ record { connector = 1; mask = 3; ports = port_of_atom 2 ∷ port_of_atom 4 ∷ [] } ∷ []
ports_of_a_trigger = refl

-- `trans t from s to s`, with a guard that n is below a bound
abbrev loop_below : ℤ → TransitionDefinition
loop_below bound = record {
  port = 0;
  sources = 0 ∷ [];
  targets = 0 ∷ [];
  guard = operation Less (variable 0) (number bound);
  updates = [];
}

-- an atom with one place, one variable and these transitions
abbrev atom_of : List TransitionDefinition → AtomDefinition
atom_of transitions = record {
  name = [];
  places = [];
  variables = [];
  ports = [];
  transitions = transitions;
}

-- a plant of two atoms: the first has one transition, the second has three, of which the middle one is offered below 5 alone
two : List AtomDefinition
two = atom_of (loop_below (pos 9) ∷ []) ∷ atom_of (loop_below (pos 9) ∷ loop_below (pos 5) ∷ loop_below (pos 9) ∷ []) ∷ []

-- the state of both: place 0 is marked, and the variable has this value
abbrev both_at : ℤ → List Local
both_at n = record { marking = 1; values = n ∷ [] } ∷ record { marking = 1; values = n ∷ [] } ∷ []

-- the two together
abbrev together : Interaction
together = record { connector = 0; mask = 3; ports = port_of_atom 0 ∷ port_of_atom 1 ∷ [] }

abbrev choice : List Move → ChoiceDefinition
choice moves = record { connector = 0; mask = 3; moves = moves }

all_three : choices_of two (both_at (pos 4)) together ≡ choice (move 0 0 ∷ move 1 0 ∷ []) ∷ choice (move 0 0 ∷ move 1 1 ∷ []) ∷ choice (move 0 0 ∷ move 1 2 ∷ []) ∷ []
unfolding two
all_three = refl

without_the_middle_one : choices_of two (both_at (pos 5)) together ≡ choice (move 0 0 ∷ move 1 0 ∷ []) ∷ choice (move 0 0 ∷ move 1 2 ∷ []) ∷ []
unfolding two
without_the_middle_one = refl

possible_below_nine : is_possible two [] (both_at (pos 8)) together ≡ true
unfolding two
possible_below_nine = refl

not_possible_at_nine : is_possible two [] (both_at (pos 9)) together ≡ false
unfolding two
not_possible_at_nine = refl

-- ---- what is no plant

-- an atom with this name, the variable n, and a port that exports it
abbrev named : List ℕ → AtomDefinition
named name = record {
  name = name;
  places = [];
  variables = record { name = codes "n"; first = pos 0 } ∷ [];
  ports = record { name = codes "t"; exports = 0 ∷ [] } ∷ [];
  transitions = [];
}

abbrev a_and_b : List AtomDefinition
a_and_b = named (codes "A") ∷ named (codes "B") ∷ []

-- the variable that a leaf exports, and the transfer from one leaf to another
abbrev export : ℕ → Export
export leaf = record { leaf = leaf; export = 0 }

abbrev transfer : ℕ → ℕ → TransferDefinition
transfer target source = record { target = export target; value = variable (export source) }

-- a connector called c with these clauses and transfers
abbrev wire : connectors.Tree → List (Tree Export) → List TransferDefinition → WireDefinition
wire connector guards transfers = record { name = codes "c"; connector = connector; guards = guards; transfers = transfers; inputs = [] }

no_atom_is_a_limit : early_fault (record { atoms = []; wires = []; rules = [] }) ≡ Some Limit
no_atom_is_a_limit = refl

-- one clause, transfer, connector and rule more than there may be
clause_too_many : (c : connectors.Tree) → early_fault (record { atoms = a_and_b; wires = wire c (replicate 9 (number (pos 1))) [] ∷ []; rules = [] }) ≡ Some Limit
clause_too_many c = refl

transfer_too_many : (c : connectors.Tree) → early_fault (record { atoms = a_and_b; wires = wire c [] (replicate 33 (transfer 1 0)) ∷ []; rules = [] }) ≡ Some Limit
transfer_too_many c = refl

connector_too_many : (c : connectors.Tree) → early_fault (record { atoms = a_and_b; wires = replicate 65 (wire c [] []); rules = [] }) ≡ Some Limit
connector_too_many c = refl

rules_up_to_the_limit : (early_fault (record { atoms = a_and_b; wires = []; rules = replicate 1024 (Maximal 0) }) ≡ None) × (early_fault (record { atoms = a_and_b; wires = []; rules = replicate 1025 (Maximal 0) }) ≡ Some Limit)
rules_up_to_the_limit = (refl, refl)

-- the fault of a plant of A and B, of which B has one place, with a rule that asks for a place of an atom
abbrev asked : ℕ → ℕ → Option SystemFault
asked atom place =
    early_fault (record {
      atoms = named (codes "A") ∷ record (named (codes "B")) { places = record { name = codes "s"; marked = true } ∷ [] } ∷ [];
      wires = [];
      rules = UnderAt (Whole 0) (Whole 1) (record { atom = atom; place = place }) ∷ [];
    })

condition_of_a_place : (asked 1 0 ≡ None) × (asked 1 1 ≡ Some Limit) × (asked 0 0 ≡ Some Limit) × (asked 2 0 ≡ Some Limit)
condition_of_a_place = (refl, refl, refl, refl)

interactions_up_to_the_limit : (fault_of_count 1024 ≡ None) × (fault_of_count 1025 ≡ Some Limit)
interactions_up_to_the_limit = (refl, refl)

-- the second of two atoms of one name is told, before any connector
atom_twice : (c : connectors.Tree) → early_fault (record { atoms = named (codes "B") ∷ a_and_b; wires = wire c [] [] ∷ []; rules = [] }) ≡ Some (BadAtom 2)
atom_twice c = refl

-- a tree is told by its own fault
tree_with_a_fault : (c : connectors.Tree) (fault : TreeFault) → tree.fault_of c ≡ Some fault → early_fault (record { atoms = a_and_b; wires = wire c [] [] ∷ []; rules = [] }) ≡ Some (BadConnector 0 fault)
tree_with_a_fault c fault told = simp told

-- the second of two connectors of one name
connector_twice : (c d : connectors.Tree) → fault_of_wire a_and_b (wire c [] [] ∷ []) (wire d [] []) ≡ Some NameTwice
connector_twice c d = refl

-- what a connector with these leaves breaks, where no earlier one has its name
abbrev broken : List (Tree Export) → List TransferDefinition → List Port → Option WireFault
broken guards transfers ports =
    first_broken false
    (list_all (is_known_port a_and_b) ports)
    (list_all (all_variables (is_known_export a_and_b ports)) guards && list_all (names_known a_and_b ports) transfers && true)
    (is_each_once is_same_export (map (λ t. t.target) transfers ++ []))
    true

-- that is what the rules of a plant tell of it
broken_is_told : (c : connectors.Tree) (guards : List (Tree Export)) (transfers : List TransferDefinition) → fault_of_wire a_and_b [] (wire c guards transfers) ≡ broken guards transfers (connectors.leaves c)
broken_is_told c guards transfers = refl

abbrev both : List Port
both = port_of_atom 0 ∷ port_of_atom 1 ∷ []

-- an atom and a port that are not there
unknown_ports : (broken [] [] (port_of_atom 0 ∷ port_of_atom 2 ∷ []) ≡ Some UnknownPort) × (broken [] [] (port_of_atom 0 ∷ record { atom = 1; port = 1 } ∷ []) ≡ Some UnknownPort) × (broken [] [] both ≡ None)
unknown_ports = (refl, refl, refl)

-- a leaf that is not there, as a target, in what is transferred and in a clause
unknown_variables : (broken [] (transfer 2 0 ∷ []) both ≡ Some UnknownVariable) × (broken [] (transfer 1 2 ∷ []) both ≡ Some UnknownVariable) × (broken [] (transfer 1 0 ∷ []) both ≡ None)
unknown_variables = (refl, refl, refl)

variables_of_clauses : map (λ leaf. broken (variable (export leaf) ∷ []) [] both) (0 ∷ 1 ∷ 2 ∷ []) ≡ None ∷ None ∷ Some UnknownVariable ∷ []
variables_of_clauses = refl

target_twice : broken [] (transfer 1 0 ∷ record { target = export 1; value = number (pos 4) } ∷ []) both ≡ Some TargetTwice
target_twice = refl
