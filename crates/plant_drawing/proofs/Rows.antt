-- Worked lines of a drawing, as computed facts of the definitions.
use Rattle.std.proofs.Common.{◌≡◌, ◌∷◌, [], ℕ, zero, suc, List, pos, negsuc, true, false, refl, codes}
use Rattle.std.specs.Fmt.{digits}
use Rattle.petri_atom.specs.Local.{Local}
use Rattle.petri_atom.specs.Expression.{Tree, number, variable, negation, operation}
use Rattle.petri_atom.specs.Definition.{AtomDefinition, TransitionDefinition}
use Rattle.petri_atom.specs.declared.expression.Operator.TheVariants.{Add, LessOrEqual, And}
use Rattle.petri_atom.specs.declared.parts.Variable.{Variable}
use Rattle.connector_tree.specs.Tree as connectors
use Rattle.connector_tree.specs.declared.tree.Port.{Port}
use Rattle.priority_filter.specs.declared.rule.Side.TheVariants.{Whole, One}
use Rattle.priority_filter.specs.declared.rule.Rule.TheVariants.{Under, UnderAt, Maximal}
use Rattle.plant_model.specs.Plant.{PlantDefinition, WireDefinition}
use Rattle.plant_model.specs.Choice.{ChoiceDefinition}
use Rattle.plant_drawing.specs.declared.filling.Filling.TheVariants.{Alike}
use Rattle.plant_drawing.specs.Drawn.{has_choice}
use Rattle.plant_drawing.specs.Wrapped.{wrapped}
use Rattle.plant_drawing.specs.declared.interior.Interior.TheVariants.{Parts, Machine}
use Rattle.plant_drawing.specs.Atom.{atom_lines, guard_text, machine_lines, place_line, port_line, transition_lines}
use Rattle.plant_drawing.specs.Connector.{connector_lines, drawn_connector, guard_line, transfer_line}
use Rattle.plant_drawing.specs.Rule.{drawn_rule, rule_line}
use Rattle.plant_drawing.specs.declared.rule.RuleLabel.TheVariants.{Written, Absent}
use Rattle.plant_drawing.specs.Drawing.{drawing_of, machines_of}
use Rattle.plant_drawing.specs.Outline.{connector_outline, drawn_outline, outline_of}

-- place 3 where places 0 and 3 are marked, and place 0 if place 1 alone is
marked_place : place_line 9 0 3 (record { name = codes "p"; marked = false }) ≡ codes "    place_0_3 [shape=circle, margin=0.03, style=filled, label=\"p\"];\n"
unfolding digits
marked_place = refl

unmarked_place : place_line 2 63 0 (record { name = codes "q"; marked = true }) ≡ codes "    place_63_0 [shape=circle, margin=0.03, label=\"q\"];\n"
unfolding digits
unmarked_place = refl

-- variables n and m
abbrev variables : List Variable
variables = record { name = codes "n"; first = pos 0 } ∷ record { name = codes "m"; first = negsuc 1 } ∷ []

-- an atom with these variables and a port
sample : AtomDefinition
sample = record {
  name = codes "A";
  places = [];
  variables = variables;
  ports = record { name = codes "t"; exports = [] } ∷ [];
  transitions = [];
}

-- a state in which n is 4 and m is -2
abbrev later : Local
later = record { marking = 0; values = pos 4 ∷ negsuc 1 ∷ [] }

-- ports
port_of_both : port_line 1 sample 2 (record { name = codes "t"; exports = 1 ∷ 0 ∷ [] }) ≡ codes "    port_1_2 [shape=ellipse, label=\"t m n\"];\n"
unfolding sample digits
port_of_both = refl

port_of_none : port_line 1 sample 0 (record { name = codes "t"; exports = [] }) ≡ codes "    port_1_0 [shape=ellipse, label=\"t\"];\n"
unfolding digits
port_of_none = refl

-- a guard
abbrev test : Tree ℕ
test = operation And (operation LessOrEqual (variable 0) (number (negsuc 2))) (negation (variable 1))

-- a transition of the atom from place 0 to places 0 and 1
guarded : transition_lines 0 sample 4 (record { port = 0; sources = 0 ∷ []; targets = 0 ∷ 1 ∷ []; guard = test; updates = record { variable = 1; value = operation Add (variable 1) (number (pos 1)) } ∷ [] })
    ≡ codes "    transition_0_4 [shape=box, label=\"t/4\\nwhen && <= n -3 ! m\\nm := + m 1\"];\n    port_0_0 -> transition_0_4 [style=dotted, arrowhead=none];\n    place_0_0 -> transition_0_4;\n    transition_0_4 -> place_0_0;\n    transition_0_4 -> place_0_1;\n"
unfolding sample digits
guarded = refl

-- a guard that is 1 is not printed
unguarded : transition_lines 0 sample 0 (record { port = 0; sources = 1 ∷ []; targets = 0 ∷ []; guard = number (pos 1); updates = [] })
    ≡ codes "    transition_0_0 [shape=box, label=\"t/0\"];\n    port_0_0 -> transition_0_0 [style=dotted, arrowhead=none];\n    place_0_1 -> transition_0_0;\n    transition_0_0 -> place_0_0;\n"
unfolding sample digits
unguarded = refl

-- as a machine, a transition from place 0 to place 1 is an arrow, and one from place 0 to both is a box
between : machine_lines 0 sample 4 (record { port = 0; sources = 0 ∷ []; targets = 1 ∷ []; guard = test; updates = record { variable = 1; value = operation Add (variable 1) (number (pos 1)) } ∷ [] })
    ≡ codes "    place_0_0 -> place_0_1 [label=\"t/4\\nwhen && <= n -3 ! m\\nm := + m 1\"];\n"
unfolding sample digits
between = refl

forked : machine_lines 0 sample 4 (record { port = 0; sources = 0 ∷ []; targets = 0 ∷ 1 ∷ []; guard = number (pos 1); updates = [] })
    ≡ codes "    transition_0_4 [shape=box, label=\"t/4\"];\n    place_0_0 -> transition_0_4;\n    transition_0_4 -> place_0_0;\n    transition_0_4 -> place_0_1;\n"
unfolding sample digits
forked = refl

-- a transition from a place to itself
abbrev loop_at : ℕ → TransitionDefinition
loop_at place = record { port = 0; sources = place ∷ []; targets = place ∷ []; guard = number (pos 1); updates = [] }

-- the sample with the loops 0 and 2 of place 0, and the loop 1 of place 1
looping : AtomDefinition
looping = record sample { transitions = loop_at 0 ∷ loop_at 1 ∷ loop_at 0 ∷ [] }

-- as a machine, the first loop of a place has the labels of all
first_loop : machine_lines 0 looping 0 (loop_at 0) ≡ codes "    place_0_0 -> place_0_0 [label=\"t/0\\nt/2\"];\n"
unfolding looping sample digits
first_loop = refl

later_loop : machine_lines 0 looping 2 (loop_at 0) ≡ []
unfolding looping sample
later_loop = refl

only_loop : machine_lines 0 looping 1 (loop_at 1) ≡ codes "    place_0_1 -> place_0_1 [label=\"t/1\"];\n"
unfolding looping sample digits
only_loop = refl

cluster : atom_lines Parts 2 sample later ≡ codes "  subgraph cluster_2 {\n    label=\"A\\nn = 4\\nm = -2\";\n    port_2_0 [shape=ellipse, label=\"t\"];\n  }\n"
unfolding sample digits
cluster = refl

-- a machine has no ports
machine : atom_lines Machine 2 sample later ≡ codes "  subgraph cluster_2 {\n    label=\"A\\nn = 4\\nm = -2\";\n  }\n"
unfolding sample digits
machine = refl

-- the connector c of the tree `A.t' [ A.t ]'`
abbrev tree : connectors.Tree
tree = connectors.child true (connectors.leaf 0 0) (connectors.child true (connectors.bracket (connectors.child false (connectors.leaf 0 0) connectors.no_child)) connectors.no_child)

abbrev wire : WireDefinition
wire = record { name = codes "c"; connector = tree; guards = []; transfers = []; inputs = [] }

connector_with_a_bracket : connector_lines (sample ∷ []) 1 false 1 wire
    ≡ codes "  connector_1 [shape=box, style=\"rounded,filled\", fillcolor=lightyellow, label=\"c\\n A.t' [ A.t ]' \"];\n  connector_1 -> port_0_0 [arrowhead=normal];\n  connector_1 -> port_0_0 [arrowhead=dot];\n"
unfolding sample digits
connector_with_a_bracket = refl

-- the same in an outline
outlined_connector : connector_outline 1 1 wire
    ≡ codes "  connector_1 [shape=ellipse, style=filled, fillcolor=lightyellow, fontsize=10, margin=0.02, height=0.25, label=\"c\"];\n  connector_1 -> atom_0 [arrowhead=normal];\n  connector_1 -> atom_0 [arrowhead=dot];\n"
unfolding digits
outlined_connector = refl

-- an atom B whose port u exports m and then n
exporter : AtomDefinition
exporter = record {
  name = codes "B";
  places = [];
  variables = variables;
  ports = record { name = codes "u"; exports = 1 ∷ 0 ∷ [] } ∷ [];
  transitions = [];
}

-- the connector `A.t B.u`, where atom 1 alone is drawn, and it has a choice
abbrev pair : WireDefinition
pair = record { name = codes "d"; connector = connectors.child false (connectors.leaf 0 0) (connectors.child false (connectors.leaf 1 0) connectors.no_child); guards = []; transfers = []; inputs = [] }

in_part : drawn_connector (sample ∷ exporter ∷ []) 2 (λ number. true) 0 pair
    ≡ codes "  connector_0 [shape=box, style=\"rounded,filled\", fillcolor=palegreen, label=\"d\\n A.t B.u \"];\n  connector_0 -> port_1_0 [arrowhead=dot];\n"
unfolding sample exporter digits
in_part = refl

-- the same in an outline
outlined_in_part : drawn_outline 2 0 pair
    ≡ codes "  connector_0 [shape=ellipse, style=filled, fillcolor=lightyellow, fontsize=10, margin=0.02, height=0.25, label=\"d\"];\n  connector_0 -> atom_1 [arrowhead=dot];\n"
unfolding digits
outlined_in_part = refl

-- where atom 1 alone is drawn, the connector of atom 0 is not
not_drawn : drawn_connector (sample ∷ exporter ∷ []) 2 (λ number. true) 0 wire ≡ []
not_drawn = refl

not_outlined : drawn_outline 2 0 wire ≡ []
not_outlined = refl

-- the connectors of choices
abbrev of_connector : ℕ → ChoiceDefinition
of_connector k = record { connector = k; mask = 1; moves = [] }

has_one : has_choice (of_connector 0 ∷ of_connector 2 ∷ of_connector 2 ∷ []) 2 ≡ true
has_one = refl

has_none : has_choice (of_connector 0 ∷ of_connector 2 ∷ of_connector 2 ∷ []) 1 ≡ false
has_none = refl

-- leaf 0 is a port of A, and leaf 1 is B.u
abbrev leaf_ports : List Port
leaf_ports = record { atom = 0; port = 0 } ∷ record { atom = 1; port = 0 } ∷ []

-- a guard clause and a transfer
clause : guard_line (sample ∷ exporter ∷ []) leaf_ports (operation LessOrEqual (variable (record { leaf = 1; export = 1 })) (number (pos 2))) ≡ codes "\\nguard <= B.n 2"
unfolding sample exporter digits
clause = refl

transfer : transfer_line (sample ∷ exporter ∷ []) leaf_ports (record { target = record { leaf = 1; export = 0 }; value = operation Add (variable (record { leaf = 1; export = 1 })) (number (negsuc 0)) }) ≡ codes "\\nB.m := + B.n -1"
unfolding sample exporter digits
transfer = refl

-- ten columns are left: a word of nine goes there, and a further line begins before one of ten
fits_just : wrapped 10 (codes "123456789" ∷ codes "n" ∷ []) ≡ codes " 123456789\\n    n"
fits_just = refl

passes : wrapped 10 (codes "1234567890" ∷ codes "n" ∷ []) ≡ codes "\\n    1234567890 n"
passes = refl

-- if nothing stands on a line yet, a word of 48 goes there
alone : wrapped 48 (codes "123456789012345678901234567890123456789012345678" ∷ codes "n" ∷ []) ≡ codes " 123456789012345678901234567890123456789012345678\\n    n"
alone = refl

-- after `when` 44 columns are left, and ` && n && n ..` takes them in fives
abbrev long : ℕ → Tree ℕ
long zero = variable 0
long (suc k) = operation And (variable 0) (long k)

long_guard : guard_text sample (long 10) ≡ codes "\\nwhen && n && n && n && n && n && n && n && n &&\\n    n && n n"
unfolding sample
long_guard = refl

-- rules between the connectors low, of atom 0, and high, of atom 1
abbrev plant : PlantDefinition
plant = record {
  atoms = [];
  wires = record { name = codes "low"; connector = connectors.child false (connectors.leaf 0 0) connectors.no_child; guards = []; transfers = []; inputs = [] }
      ∷ record { name = codes "high"; connector = connectors.child false (connectors.leaf 1 0) connectors.no_child; guards = []; transfers = []; inputs = [] } ∷ [];
  rules = [];
}

whole_sides : rule_line Written plant (Under (Whole 0) (Whole 1)) ≡ codes "  connector_0 -> connector_1 [style=dashed, color=firebrick, fontcolor=firebrick, label=\" low < high \"];\n"
unfolding digits
whole_sides = refl

sides_by_masks : rule_line Written plant (Under (One 1 3) (One 1 255)) ≡ codes "  connector_1 -> connector_1 [style=dashed, color=firebrick, fontcolor=firebrick, label=\" high:3 < high:255 \"];\n"
unfolding digits
sides_by_masks = refl

-- while place 0 of atom 0 is marked
while_marked : rule_line Written (record plant { atoms = record { name = codes "S"; places = record { name = codes "on"; marked = true } ∷ []; variables = []; ports = []; transitions = [] } ∷ [] }) (UnderAt (Whole 0) (Whole 1) (record { atom = 0; place = 0 }))
    ≡ codes "  connector_0 -> connector_1 [style=dashed, color=firebrick, fontcolor=firebrick, label=\" low < high when S at on \"];\n"
unfolding digits
while_marked = refl

maximal : rule_line Written plant (Maximal 1) ≡ codes "  connector_1 -> connector_1 [style=dashed, color=firebrick, fontcolor=firebrick, label=\" maximal \"];\n"
unfolding digits
maximal = refl

-- without its words
bare : rule_line Absent plant (Under (One 1 3) (One 0 255)) ≡ codes "  connector_1 -> connector_0 [style=dashed, color=firebrick];\n"
unfolding digits
bare = refl

-- a rule is drawn if both of its connectors are
rule_of_one_drawn : drawn_rule Written 2 plant (Under (Whole 0) (Whole 1)) ≡ []
rule_of_one_drawn = refl

rule_of_both_drawn : drawn_rule Written 3 plant (Under (Whole 0) (Whole 1)) ≡ rule_line Written plant (Under (Whole 0) (Whole 1))
rule_of_both_drawn = refl

-- a plant of the atom alone
without_connectors : drawing_of (record { atoms = sample ∷ []; wires = []; rules = [] }) (later ∷ []) 1 Alike
    ≡ codes "digraph plant {\n  fontname=\"Helvetica\";\n  labelloc=b;\n  nodesep=0.4;\n  ranksep=0.6;\n  node [fontname=\"Helvetica\"];\n  edge [fontname=\"Helvetica\", fontsize=11];\n  subgraph cluster_0 {\n    label=\"A\\nn = 4\\nm = -2\";\n    port_0_0 [shape=ellipse, label=\"t\"];\n  }\n}\n"
unfolding sample digits
without_connectors = refl

-- a plant of it as a machine
machines : machines_of (record { atoms = sample ∷ []; wires = wire ∷ []; rules = [] }) (later ∷ []) 1
    ≡ codes "digraph plant {\n  fontname=\"Helvetica\";\n  labelloc=b;\n  nodesep=0.4;\n  ranksep=0.6;\n  node [fontname=\"Helvetica\"];\n  edge [fontname=\"Helvetica\", fontsize=11];\n  subgraph cluster_0 {\n    label=\"A\\nn = 4\\nm = -2\";\n  }\n}\n"
unfolding sample digits
machines = refl

outline : outline_of (record { atoms = sample ∷ []; wires = []; rules = [] }) 1
    ≡ codes "digraph plant {\n  fontname=\"Helvetica\";\n  labelloc=b;\n  nodesep=0.4;\n  ranksep=0.6;\n  node [fontname=\"Helvetica\"];\n  edge [fontname=\"Helvetica\", fontsize=11];\n  splines=line;\n  mclimit=0.1;\n  nslimit=1;\n  nslimit1=1;\n  atom_0 [shape=box, label=\"A\"];\n}\n"
unfolding sample digits
outline = refl
