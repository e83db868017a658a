-- Worked parts of a plant, written and read back, as computed facts of the definitions.
use Rattle.std.proofs.Common.{◌≡◌, refl, true, false, [], ◌∷◌, ◌++◌, List, ℕ, pos, negsuc, codes, flat_map, Ok}
use Rattle.std.specs.Fmt.{digits}
use Rattle.petri_atom.specs.Definition.{AtomDefinition, variable_name}
use Rattle.petri_atom.specs.Expression.{Tree, number, variable, negation, operation}
use Rattle.petri_atom.specs.declared.expression.Operator.TheVariants.{LessOrEqual, And}
use Rattle.connector_tree.specs.Tokens.{tokens_of}
use Rattle.connector_tree.specs.Tree as connectors
use Rattle.priority_filter.specs.declared.rule.Rule.{Rule}
use Rattle.priority_filter.specs.declared.rule.Rule.TheVariants.{Under, UnderAt}
use Rattle.priority_filter.specs.declared.rule.Side.TheVariants.{Whole, One}
use Rattle.plant_model.specs.Plant.{PlantDefinition}
use Rattle.plant_words.specs.Expressions.{expression_in}
use Rattle.plant_words.specs.Words.{words_of}
use Rattle.atom_lines.specs.Lookup.{variable_number}
use Rattle.part_text.specs.Expression.{expression_text}
use Rattle.part_text.specs.Rule.{rule_text}
use Rattle.part_text.specs.Words.{spaced_word}
use Rattle.read_back.specs.Expressions.{is_in_range, is_over_atom}
use Rattle.read_back.specs.Names.{are_named, are_named_atoms}
use Rattle.read_back.specs.Rules.{has_named_condition, is_rule_of}

-- numbers of 64 bits
greatest : is_in_range (pos 9223372036854775807) ≡ true
greatest = refl

past_the_greatest : is_in_range (pos 9223372036854775808) ≡ false
past_the_greatest = refl

least : is_in_range (negsuc 9223372036854775807) ≡ true
least = refl

before_the_least : is_in_range (negsuc 9223372036854775808) ≡ false
before_the_least = refl

-- an atom A with variables n and m and ports t and u
sample : AtomDefinition
sample = record {
  name = codes "A";
  places = [];
  variables = record { name = codes "n"; first = pos 0 } ∷ record { name = codes "m"; first = pos 0 } ∷ [];
  ports = record { name = codes "t"; exports = [] } ∷ record { name = codes "u"; exports = [] } ∷ [];
  transitions = [];
}

named_apart : are_named_atoms (sample ∷ []) ≡ true
unfolding sample
named_apart = refl

-- two atoms of one name
named_alike : are_named_atoms (sample ∷ sample ∷ []) ≡ false
unfolding sample
named_alike = refl

-- a name that is reserved, and one that is none
reserved : are_named (λ name. name) (codes "n" ∷ codes "do" ∷ []) ≡ false
reserved = refl

no_name : are_named (λ name. name) (codes "n" ∷ codes "2" ∷ []) ≡ false
no_name = refl

-- `&& <= n -3 ! m`, before two words
abbrev test : Tree ℕ
test = operation And (operation LessOrEqual (variable 0) (number (negsuc 2))) (negation (variable 1))

over_the_atom : is_over_atom sample test ≡ true
unfolding sample
over_the_atom = refl

variable_past_the_atom : is_over_atom sample (variable 2) ≡ false
unfolding sample
variable_past_the_atom = refl

test_read : expression_in (variable_number sample) (words_of (expression_text (variable_name sample) test ++ codes " do n")) ≡ Ok (test, codes "do" ∷ codes "n" ∷ [])
unfolding sample digits
test_read = refl

-- the tree `A.t' [ A.u ]`, which has an atom twice, as its words alone
abbrev tree : connectors.Tree
tree = connectors.child true (connectors.leaf 0 0) (connectors.child false (connectors.bracket (connectors.child false (connectors.leaf 0 1) connectors.no_child)) connectors.no_child)

words_of_the_tree : words_of (flat_map (spaced_word (sample ∷ [])) (tokens_of tree)) ≡ codes "A.t'" ∷ codes "[" ∷ codes "A.u" ∷ codes "]" ∷ []
unfolding sample
words_of_the_tree = refl

-- a plant with one connector, `A.t`, whose one interaction has the mask 1
abbrev plant : List AtomDefinition → PlantDefinition
plant atoms = record {
  atoms = atoms;
  wires = record { name = codes "link"; connector = connectors.child false (connectors.leaf 0 0) connectors.no_child; guards = []; transfers = []; inputs = [] } ∷ [];
  rules = [];
}

own_rule : is_rule_of (plant []) (Under (Whole 0) (One 0 1)) ≡ true
own_rule = refl

rule_over_no_interaction : is_rule_of (plant []) (Under (Whole 0) (One 0 2)) ≡ false
rule_over_no_interaction = refl

rule_over_no_connector : is_rule_of (plant []) (Under (Whole 1) (One 0 1)) ≡ false
rule_over_no_connector = refl

-- an atom with the places off and on
abbrev switch : AtomDefinition
switch = record {
  name = codes "S";
  places = record { name = codes "off"; marked = true } ∷ record { name = codes "on"; marked = false } ∷ [];
  variables = [];
  ports = [];
  transitions = [];
}

-- the rule with a condition
abbrev while_at : ℕ → ℕ → Rule
while_at atom place = UnderAt (Whole 0) (One 0 1) (record { atom = atom; place = place })

rule_with_a_condition : rule_text (plant (switch ∷ [])) (while_at 0 1) ≡ codes "prio link < link:1 when S at on"
unfolding digits
rule_with_a_condition = refl

rule_over_a_place : (is_rule_of (plant (switch ∷ [])) (while_at 0 1) ≡ true) × (is_rule_of (plant (switch ∷ [])) (while_at 0 2) ≡ false) × (is_rule_of (plant (switch ∷ [])) (while_at 1 0) ≡ false)
rule_over_a_place = (refl, refl, refl)

condition_of_two_atoms_of_one_name : has_named_condition (plant (switch ∷ switch ∷ [])) (while_at 0 1) ≡ false
condition_of_two_atoms_of_one_name = refl
