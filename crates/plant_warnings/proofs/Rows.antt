-- Worked examples of the definitions, as computed facts.
use Rattle.std.proofs.Common.{◌≡◌, refl, ℕ, pos, true, false, List, [], ◌∷◌, ◌++◌, codes}
use Rattle.std.specs.Fmt.{digits}
use Rattle.petri_atom.specs.Definition.{AtomDefinition}
use Rattle.petri_atom.specs.Expression.{number, variable, operation}
use Rattle.petri_atom.specs.declared.expression.Operator.TheVariants.{Add, Less}
use Rattle.connector_tree.specs.Tree.{Tree, no_child, child, leaf}
use Rattle.priority_filter.specs.declared.rule.Side.TheVariants.{Whole, One}
use Rattle.priority_filter.specs.declared.rule.Rule.TheVariants.{Under, Maximal}
use Rattle.plant_model.specs.Plant.{PlantDefinition, WireDefinition}
use Rattle.plant_model.specs.declared.wire.Export.{Export}
use Rattle.part_lines.specs.Table.{part_lines}
use Rattle.plant_warnings.specs.Lines.{line_of}
use Rattle.plant_warnings.specs.Names.{name_of_port}
use Rattle.plant_warnings.specs.Reads.{is_never_read, is_read_in, is_read_inside}
use Rattle.plant_warnings.specs.Warnings.{warnings_of, warnings_text}
use Rattle.plant_warnings.specs.declared.warning.Warning.TheVariants.{NoMarkedPlace, PortInNoConnector, PortWithoutTransition, PlaceNeverMarked, VariableNeverRead, ZeroGuard, NothingWithin, DeadSide}

-- a connector of one port
abbrev alone : ℕ → ℕ → Tree
alone atom port = child false (leaf atom port) no_child

-- an exported variable of a leaf
abbrev export_of : ℕ → ℕ → Export
export_of place export = record { leaf = place; export = export }

-- ---- a plant with each kind of warning

-- this is the plant of the text
abbrev text : List ℕ
text =
    codes "atom A\nplace q\nplace r\nvar n 0\nport t\nport u n\n" ++ codes "trans t from q to r\nconnector c A.u\nguard 0\n" ++
    codes "connector d A.u\nmaximal c\nprio d < c\n"

faulty : PlantDefinition
faulty = record {
  atoms = record {
    name = codes "A";
    places = record { name = codes "q"; marked = false } ∷ record { name = codes "r"; marked = false } ∷ [];
    variables = record { name = codes "n"; first = pos 0 } ∷ [];
    ports = record { name = codes "t"; exports = [] } ∷ record { name = codes "u"; exports = 0 ∷ [] } ∷ [];
    transitions = record { port = 0; sources = 0 ∷ []; targets = 1 ∷ []; guard = number (pos 1); updates = [] } ∷ [];
  } ∷ [];
  wires =
      record { name = codes "c"; connector = alone 0 1; guards = number (pos 0) ∷ []; transfers = []; inputs = [] } ∷
      record { name = codes "d"; connector = alone 0 1; guards = []; transfers = []; inputs = [] } ∷ [];
  rules = Maximal 0 ∷ Under (Whole 1) (Whole 0) ∷ [];
}

each_warning : warnings_of faulty
    ≡ NoMarkedPlace 0 ∷ PortInNoConnector 0 0 ∷ PortWithoutTransition 0 1 ∷ PlaceNeverMarked 0 0 ∷ VariableNeverRead 0 0 ∷ ZeroGuard 0 0 ∷ NothingWithin 0 0 ∷ DeadSide 1 0 ∷ []
unfolding faulty
each_warning = refl

each_line : warnings_text faulty (part_lines text) (codes "p")
    ≡ codes "p:1: warning: atom A has no place that is marked at first, so it never moves\n" ++
    codes "p:5: warning: port A.t is in no connector\n" ++
    codes "p:6: warning: port A.u has no transition\n" ++
    codes "p:2: warning: place A.q is never marked\n" ++
    codes "p:4: warning: variable A.n is never read\n" ++
    codes "p:9: warning: connector c can't be fired: a guard is 0\n" ++
    codes "p:11: warning: rule orders nothing: connector c has no interaction within another\n" ++
    codes "p:12: warning: rule orders nothing: connector c can't be fired\n"
unfolding faulty digits
each_line = refl

-- a part that stands on no line
no_line : line_of [] (NoMarkedPlace 0) ≡ 0
no_line = refl

-- a part that is not there has no name
no_name : name_of_port faulty 1 0 ≡ []
unfolding faulty
no_name = refl

-- ---- a plant without warnings

-- A counts in n, which it shows at t
counter : AtomDefinition
counter = record {
  name = codes "A";
  places = record { name = codes "s"; marked = true } ∷ [];
  variables = record { name = codes "n"; first = pos 0 } ∷ [];
  ports = record { name = codes "t"; exports = 0 ∷ [] } ∷ [];
  transitions = record {
    port = 0;
    sources = 0 ∷ [];
    targets = 0 ∷ [];
    guard = number (pos 1);
    updates = record { variable = 0; value = operation Add (variable 0) (number (pos 1)) } ∷ [];
  } ∷ [];
}

-- B takes what is delivered to its second variable, which it shows first at u
taker : AtomDefinition
taker = record {
  name = codes "B";
  places = record { name = codes "s"; marked = true } ∷ [];
  variables = record { name = codes "k"; first = pos 0 } ∷ record { name = codes "m"; first = pos 0 } ∷ [];
  ports = record { name = codes "u"; exports = 1 ∷ 0 ∷ [] } ∷ [];
  transitions = record {
    port = 0;
    sources = 0 ∷ [];
    targets = 0 ∷ [];
    guard = operation Less (variable 0) (number (pos 9));
    updates = [];
  } ∷ [];
}

-- `connector send A.t' B.u`, `guard < B.m 5`, `move B.m := A.n`
abbrev send : WireDefinition
send = record {
  name = codes "send";
  connector = child true (leaf 0 0) (child false (leaf 1 0) no_child);
  guards = operation Less (variable (export_of 1 0)) (number (pos 5)) ∷ [];
  transfers = record { target = export_of 1 0; value = variable (export_of 0 0) } ∷ [];
  inputs = [];
}

abbrev tick : WireDefinition
tick = record { name = codes "tick"; connector = alone 0 0; guards = []; transfers = []; inputs = [] }

sound : PlantDefinition
sound = record {
  atoms = counter ∷ taker ∷ [];
  wires = tick ∷ send ∷ [];
  rules = Maximal 1 ∷ Under (Whole 0) (One 1 3) ∷ [];
}

no_warning : warnings_of sound ≡ []
unfolding sound counter taker
no_warning = refl

-- ---- what reads a variable

an_update_alone : is_never_read (record { atoms = counter ∷ []; wires = []; rules = [] }) 0 counter 0 ≡ false
unfolding counter
an_update_alone = refl

a_guard_alone : is_read_inside taker 0 ≡ true
unfolding taker
a_guard_alone = refl

no_transition : is_read_inside taker 1 ≡ false
unfolding taker
no_transition = refl

a_guard_clause : is_read_in 1 taker 1 send ≡ true
unfolding taker
a_guard_clause = refl

-- the target of a transfer is not read, and nor is another variable of the port
another_export : is_read_in 1 taker 0 send ≡ false
unfolding taker
another_export = refl

a_value_of_a_transfer : is_read_in 0 counter 0 send ≡ true
unfolding counter
a_value_of_a_transfer = refl

a_target : is_read_in 1 taker 1 (record send { guards = [] }) ≡ false
unfolding taker
a_target = refl
