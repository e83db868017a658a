-- Worked words of a plant's parts, as computed facts of the definitions.
use Rattle.std.proofs.Common.{◌≡◌, ◌∷◌, [], ℕ, List, pos, negsuc, true, false, refl, codes}
use Rattle.std.specs.Prelude.{flat_map}
use Rattle.std.specs.Fmt.{digits}
use Rattle.petri_atom.specs.Expression.{Tree, number, variable, negation, operation}
use Rattle.petri_atom.specs.Definition.{AtomDefinition, variable_name}
use Rattle.petri_atom.specs.declared.expression.Operator.TheVariants.{LessOrEqual, And}
use Rattle.petri_atom.specs.declared.parts.Variable.{Variable}
use Rattle.connector_tree.specs.Tree as connectors
use Rattle.connector_tree.specs.Tokens.{tokens_of}
use Rattle.connector_tree.specs.declared.tree.Port.{Port}
use Rattle.priority_filter.specs.declared.rule.Side.TheVariants.{Whole, One}
use Rattle.priority_filter.specs.declared.rule.Rule.TheVariants.{Under, UnderAt, Maximal}
use Rattle.plant_model.specs.Plant.{PlantDefinition}
use Rattle.part_text.specs.Expression.{expression_text, is_one}
use Rattle.part_text.specs.Export.{export_name}
use Rattle.part_text.specs.Words.{leaf_word, spaced_word}
use Rattle.part_text.specs.Rule.{condition_text, rule_text, sides_text}

-- variables n and m
abbrev variables : List Variable
variables = record { name = codes "n"; first = pos 0 } ∷ record { name = codes "m"; first = negsuc 1 } ∷ []

-- an atom A with these variables and a port
sample : AtomDefinition
sample = record {
  name = codes "A";
  places = [];
  variables = variables;
  ports = record { name = codes "t"; exports = [] } ∷ [];
  transitions = [];
}

-- an expression in prefix form
abbrev test : Tree ℕ
test = operation And (operation LessOrEqual (variable 0) (number (negsuc 2))) (negation (variable 1))

prefix_form : expression_text (variable_name sample) test ≡ codes "&& <= n -3 ! m"
unfolding sample digits
prefix_form = refl

-- the guard where none is written, and one that is written
one : is_one {V = ℕ} (number (pos 1)) ≡ true
one = refl

not_one : is_one test ≡ false
not_one = refl

-- an atom B whose port u exports m and then n
exporter : AtomDefinition
exporter = record {
  name = codes "B";
  places = [];
  variables = variables;
  ports = record { name = codes "u"; exports = 1 ∷ 0 ∷ [] } ∷ [];
  transitions = [];
}

-- leaf 0 is a port of A, and leaf 1 is B.u
abbrev leaf_ports : List Port
leaf_ports = record { atom = 0; port = 0 } ∷ record { atom = 1; port = 0 } ∷ []

first_export : export_name (sample ∷ exporter ∷ []) leaf_ports (record { leaf = 1; export = 0 }) ≡ codes "B.m"
unfolding sample exporter
first_export = refl

second_export : export_name (sample ∷ exporter ∷ []) leaf_ports (record { leaf = 1; export = 1 }) ≡ codes "B.n"
unfolding sample exporter
second_export = refl

-- ports by their names; nothing of one whose atom is not there
port_by_names : leaf_word (sample ∷ exporter ∷ []) (record { atom = 1; port = 0 }) ≡ codes "B.u"
unfolding sample exporter
port_by_names = refl

port_of_no_atom : leaf_word (sample ∷ exporter ∷ []) (record { atom = 2; port = 0 }) ≡ []
port_of_no_atom = refl

-- the tree `A.t' [ B.u A.t ]'`
abbrev tree : connectors.Tree
tree =
    connectors.child true (connectors.leaf 0 0)
    (connectors.child true (connectors.bracket (connectors.child false (connectors.leaf 1 0) (connectors.child false (connectors.leaf 0 0) connectors.no_child)))
    connectors.no_child)

tree_with_a_bracket : flat_map (spaced_word (sample ∷ exporter ∷ [])) (tokens_of tree) ≡ codes " A.t' [ B.u A.t ]'"
unfolding sample exporter
tree_with_a_bracket = refl

-- an atom with two places
abbrev switch : AtomDefinition
switch = record {
  name = codes "S";
  places = record { name = codes "on"; marked = true } ∷ record { name = codes "off"; marked = false } ∷ [];
  variables = [];
  ports = [];
  transitions = [];
}

-- rules between the connectors low and high
module _ (connector : connectors.Tree) where
  abbrev plant : PlantDefinition
  plant = record {
    atoms = switch ∷ [];
    wires = record { name = codes "low"; connector = connector; guards = []; transfers = []; inputs = [] } ∷ record { name = codes "high"; connector = connector; guards = []; transfers = []; inputs = [] } ∷ [];
    rules = [];
  }

  sides : sides_text plant (Whole 0) (One 1 255) ≡ codes "low < high:255"
  unfolding digits
  sides = refl

  priority : rule_text plant (Under (One 1 3) (Whole 0)) ≡ codes "prio high:3 < low"
  unfolding digits
  priority = refl

  -- while place 1 of atom 0 is marked; what is not there has no name
  conditional : rule_text plant (UnderAt (One 1 3) (Whole 0) (record { atom = 0; place = 1 })) ≡ codes "prio high:3 < low when S at off"
  unfolding digits
  conditional = refl

  condition_of_nothing : condition_text plant (record { atom = 1; place = 0 }) ≡ codes " when  at "
  condition_of_nothing = refl

  maximal : rule_text plant (Maximal 1) ≡ codes "maximal high"
  maximal = refl
