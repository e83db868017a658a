-- Worked texts, computed from the definitions.
use Rattle.std.proofs.Common.{◌≡◌, ℕ, ℤ, pos, negsuc, refl, Bool, true, false, List, [], ◌∷◌, codes}
use Rattle.std.specs.Prelude.{Some, None}
use Rattle.std.specs.Fmt.{digits}
use Rattle.std.specs.Int.{int_wrap}
use Rattle.petri_atom.specs.Definition.{AtomDefinition, PortDefinition, TransitionDefinition}
use Rattle.petri_atom.specs.Expression.{Tree, number, variable, operation}
use Rattle.petri_atom.specs.Local.{Local}
use Rattle.petri_atom.specs.declared.expression.Operator.TheVariants.{Add, Less, Equal}
use Rattle.petri_atom.specs.declared.parts.Place.{Place}
use Rattle.petri_atom.specs.declared.parts.Variable.{Variable}
use Rattle.connector_tree.specs.Tree as connectors
use Rattle.connector_tree.specs.Tree.{no_child, child, leaf}
use Rattle.priority_filter.specs.Decided.{is_below, is_overruled}
use Rattle.priority_filter.specs.declared.rule.Rule.{Rule}
use Rattle.priority_filter.specs.declared.rule.Rule.TheVariants.{Under, UnderAt}
use Rattle.priority_filter.specs.declared.rule.Side.TheVariants.{Whole, One}
use Rattle.plant_model.specs.Plant.{PlantDefinition, WireDefinition}
use Rattle.plant_model.specs.declared.wire.Export.{Export}
use Rattle.blocked_text.specs.Blocked.{blocked_text, connector_text}
use Rattle.blocked_text.specs.Reason.{reason_of}
use Rattle.blocked_text.specs.declared.reason.Reason.TheVariants.{NotOffered, GuardIsZero, GivesWay}

-- ---- parts

abbrev place : List ℕ → Place
place name = record { name = name; marked = true }

abbrev counter : List ℕ → Variable
counter name = record { name = name; first = pos 0 }

-- a port that exports these variables
abbrev port : List ℕ → List ℕ → PortDefinition
port name exports = record { name = name; exports = exports }

-- a transition of a port from one place to another, with a guard
abbrev step : ℕ → ℕ → ℕ → Tree ℕ → TransitionDefinition
step port from to guard = record { port = port; sources = from ∷ []; targets = to ∷ []; guard = guard; updates = [] }

-- a connector without transfers
abbrev wire : List ℕ → connectors.Tree → List (Tree Export) → WireDefinition
wire name connector guards = record { name = name; connector = connector; guards = guards; transfers = []; inputs = [] }

-- the ports with these numbers of two atoms, as triggers or not
abbrev one : ℕ → ℕ → connectors.Tree
one atom port = child false (leaf atom port) no_child

abbrev two : Bool → ℕ → Bool → ℕ → connectors.Tree
two first atom second other = child first (leaf atom 0) (child second (leaf other 0) no_child)

abbrev state : ℕ → List ℤ → Local
state marking values = record { marking = marking; values = values }

abbrev always : {V : Type 0} → Tree V
always = number (pos 1)

abbrev read : ℕ → Tree Export
read from = variable (record { leaf = from; export = 0 })

-- an atom with one place, and a port that moves from it to it
abbrev mover : List ℕ → List Variable → List ℕ → AtomDefinition
mover name variables exports = record {
  name = name;
  places = place (codes "s") ∷ [];
  variables = variables;
  ports = port (codes "t") exports ∷ [];
  transitions = step 0 0 0 always ∷ [];
}

-- ---- ports

-- places p and q are marked, and r is not
tank : PlantDefinition
tank = record {
  atoms = record {
    name = codes "C";
    places = place (codes "p") ∷ place (codes "q") ∷ place (codes "r") ∷ [];
    variables = counter (codes "n") ∷ counter (codes "m") ∷ [];
    ports = port (codes "a") [] ∷ port (codes "b") [] ∷ port (codes "c") [] ∷ port (codes "d") [] ∷ [];
    transitions = step 0 0 1 always ∷ step 0 0 0 (operation Less (variable 0) (variable 1)) ∷ step 0 2 0 always ∷ step 1 0 0 (number (pos 0)) ∷ step 3 2 0 always ∷ [];
  } ∷ [];
  wires = wire (codes "a") (one 0 0) [] ∷ wire (codes "b") (one 0 1) [] ∷ wire (codes "c") (one 0 2) [] ∷ wire (codes "d") (one 0 3) [] ∷ [];
  rules = [];
}

abbrev in_tank : List Local
in_tank = state 3 (pos 3 ∷ negsuc 0 ∷ []) ∷ []

-- a port with three transitions tells each by its number, one with a single transition that alone, and one without any says so
idle_ports : blocked_text tank in_tank [] ≡ codes "a: C.a offers nothing: /0 place q is marked already; /1 guard '< n m' is 0 (n=3, m=-1); /2 place r is not marked\nb: C.b offers nothing: guard '0' is 0\nc: C.c has no transition\nd: C.d offers nothing: place r is not marked\n"
unfolding tank digits is_below is_overruled
idle_ports = refl

idle_port : reason_of tank in_tank 2 ≡ Some (NotOffered (record { atom = 0; port = 2 }))
unfolding tank is_below is_overruled
idle_port = refl

-- with r marked too the last port's transition is blocked by its target
blocked_by_a_target : connector_text tank (state 7 (pos 3 ∷ negsuc 0 ∷ []) ∷ []) [] 3 ≡ codes "d: C.d offers nothing: place p is marked already\n"
unfolding tank digits is_below is_overruled
blocked_by_a_target = refl

-- where q is not marked the first port's first transition is offered
one_transition_is_enough : connector_text tank (state 1 (pos 3 ∷ negsuc 0 ∷ []) ∷ []) [] 0 ≡ codes "a: can be fired\n"
unfolding tank digits is_below is_overruled
one_transition_is_enough = refl

-- ---- guards

-- A and B each show a variable; send has A, or both, with two clauses: the first reads A's variable once and B's twice, and the second A's alone
senders : PlantDefinition
senders = record {
  atoms = mover (codes "A") (counter (codes "n") ∷ []) (0 ∷ []) ∷ mover (codes "B") (counter (codes "m") ∷ []) (0 ∷ []) ∷ [];
  wires = wire (codes "send") (two true 0 false 1) (operation Less (operation Add (read 0) (read 1)) (read 1) ∷ operation Equal (read 0) (number (pos 1)) ∷ []) ∷ [];
  rules = [];
}

abbrev sending : ℤ → ℤ → List Local
sending n m = state 1 (n ∷ []) ∷ state 1 (m ∷ []) ∷ []

-- A alone is named by the second clause, since the first does not apply to it; both are named by the first
zero_clauses : blocked_text senders (sending (pos 2) (pos 9)) [] ≡ codes "send: guard '== A.n 1' is 0 (A.n=2)\nsend: guard '< + A.n B.m B.m' is 0 (A.n=2, B.m=9)\n"
unfolding senders digits int_wrap is_below is_overruled
zero_clauses = refl

zero_clause : reason_of senders (sending (pos 2) (pos 9)) 1 ≡ Some (GuardIsZero 0)
unfolding senders int_wrap is_below is_overruled
zero_clause = refl

-- where one interaction is allowed the connector can be fired
nothing_printed : blocked_text senders (sending (pos 1) (pos 9)) [] ≡ []
unfolding senders int_wrap is_below is_overruled
nothing_printed = refl

-- ---- the order

-- low has L, mid has M, and high has H, or H and M
ordered : List Rule → PlantDefinition
ordered rules = record {
  atoms = mover (codes "L") [] [] ∷ mover (codes "M") [] [] ∷ mover (codes "H") [] [] ∷ [];
  wires = wire (codes "low") (one 0 0) [] ∷ wire (codes "mid") (one 1 0) [] ∷ wire (codes "high") (two true 2 false 1) [] ∷ [];
  rules = rules;
}

-- L and H can move, and M can if its place is marked
abbrev moving : ℕ → List Local
moving m = state 1 [] ∷ state m [] ∷ state 1 [] ∷ []

abbrev low_mid_high : List Rule
low_mid_high = Under (Whole 0) (Whole 1) ∷ Under (Whole 1) (One 2 1) ∷ []

-- mid is not possible: a chain by way of it puts low below high all the same
by_a_chain : blocked_text (ordered low_mid_high) (moving 0) (7 ∷ 9 ∷ []) ≡ codes "low: possible, gives way to high:1 (by a chain of rules)\nmid: M.t offers nothing: place s is not marked\n"
unfolding ordered digits is_below is_overruled
by_a_chain = refl

-- mid is possible, and is the first above low, though it gives way itself
by_a_rule : blocked_text (ordered low_mid_high) (moving 1) (7 ∷ []) ≡ codes "low: possible, gives way to mid (line 7: prio low < mid)\nmid: possible, gives way to high:1 (prio mid < high:1)\n"
unfolding ordered digits is_below is_overruled
by_a_rule = refl

above : reason_of (ordered low_mid_high) (moving 1) 1 ≡ Some (GivesWay 2)
unfolding ordered is_below is_overruled
above = refl

top : reason_of (ordered low_mid_high) (moving 1) 2 ≡ None
unfolding ordered is_below is_overruled
top = refl

-- the same two sides twice: while the place of M is marked, and always
abbrev low_high_twice : List Rule
low_high_twice = UnderAt (Whole 0) (One 2 1) (record { atom = 1; place = 0 }) ∷ Under (Whole 0) (One 2 1) ∷ []

-- the first rule that counts is printed
while_marked : blocked_text (ordered low_high_twice) (moving 1) (7 ∷ 9 ∷ []) ≡ codes "low: possible, gives way to high:1 (line 7: prio low < high:1 when M at s)\n"
unfolding ordered digits is_below is_overruled
while_marked = refl

while_not_marked : blocked_text (ordered low_high_twice) (moving 0) (7 ∷ 9 ∷ []) ≡ codes "low: possible, gives way to high:1 (line 9: prio low < high:1)\nmid: M.t offers nothing: place s is not marked\n"
unfolding ordered digits is_below is_overruled
while_not_marked = refl

-- where none counts nothing gives way
no_rule_counts : reason_of (ordered (UnderAt (Whole 0) (One 2 1) (record { atom = 1; place = 0 }) ∷ [])) (moving 0) 0 ≡ None
unfolding ordered is_below is_overruled
no_rule_counts = refl

-- ---- each reason once

-- three interactions: A alone, B alone, and both, which has the reason of A
printed_once : blocked_text (record { atoms = mover (codes "A") [] [] ∷ mover (codes "B") [] [] ∷ []; wires = wire (codes "any") (two true 0 true 1) [] ∷ []; rules = [] }) (state 0 [] ∷ state 0 [] ∷ []) []
    ≡ codes "any: A.t offers nothing: place s is not marked\nany: B.t offers nothing: place s is not marked\n"
unfolding digits is_below is_overruled
printed_once = refl
