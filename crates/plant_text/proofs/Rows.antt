-- Worked texts and lines, as computed facts.
use Rattle.std.proofs.Common.{◌≡◌, refl, ℕ, pos, List, [], ◌∷◌, ◌++◌, codes, replicate, true, false, Some, None, Ok, Err}
use Rattle.std.specs.Fmt.{digits}
use Rattle.petri_atom.specs.Definition.{AtomDefinition}
use Rattle.petri_atom.specs.Expression.{number, variable}
use Rattle.connector_tree.specs.declared.faults.TreeFault.TheVariants.{SameAtom}
use Rattle.priority_filter.specs.Decided.{order_fault, is_below}
use Rattle.priority_filter.specs.declared.fault.OrderFault.TheVariants.{Cycle}
use Rattle.priority_filter.specs.declared.rule.Rule.TheVariants.{Under, UnderAt, Maximal}
use Rattle.priority_filter.specs.declared.rule.Side.TheVariants.{Whole, One}
use Rattle.connector_tree.specs.declared.token.Token.TheVariants.{Leaf}
use Rattle.plant_text.specs.Text.{WireText, PlantText}
use Rattle.plant_text.specs.Names.{port_named, export_named}
use Rattle.plant_text.specs.Fault.{of_no_line, placed_message_of}
use Rattle.plant_text.specs.Rows.{line_row}
use Rattle.plant_text.specs.Interactions.{interactions_of}
use Rattle.plant_text.specs.Meaning.{nothing, lines_row, with_an_order, meaning}
use Rattle.plant_text.specs.declared.fault.Fault.{Fault}
use Rattle.plant_text.specs.declared.fault.Fault.TheVariants.{NotAscii, TooLong, UnknownWord, Misplaced, BadName, Twice, UnknownName, BadExpression, Shape, Tree, Order, Limit, NoAtom}
use Rattle.plant_text.specs.declared.fault.PlantFault.{PlantFault}

-- an atom with a place s, a variable, and a port that exports it
abbrev atom_with : List ℕ → List ℕ → List ℕ → AtomDefinition
atom_with name port value = record {
  name = name;
  places = record { name = codes "s"; marked = true } ∷ [];
  variables = record { name = value; first = pos 0 } ∷ [];
  ports = record { name = port; exports = 0 ∷ [] } ∷ [];
  transitions = [];
}

-- atom B, with port u and variable m
abbrev atom_b : AtomDefinition
atom_b = atom_with (codes "B") (codes "u") (codes "m")

-- a connector over port t of A and port u of B
abbrev wire_named : List ℕ → WireText
wire_named name = record {
  name = name;
  tree = Leaf (record { atom = 0; port = 0 }) true ∷ Leaf (record { atom = 1; port = 0 }) false ∷ [];
  guards = [];
  transfers = [];
  inputs = [];
}

-- atoms A and B, and two connectors
abbrev sample : PlantText
sample = record {
  atoms = atom_with (codes "A") (codes "t") (codes "n") ∷ atom_b ∷ [];
  wires = wire_named (codes "one") ∷ wire_named (codes "two") ∷ [];
  rules = [];
}

-- the fault of a line
abbrev at : ℕ → Fault → PlantFault
at line fault = record { line = line; fault = fault }

-- ---- names

ports_are_those_of_the_atom : port_named sample.atoms (codes "B") (codes "u") ≡ Some (record { atom = 1; port = 0 })
ports_are_those_of_the_atom = refl

a_port_of_another_atom : port_named sample.atoms (codes "A") (codes "u") ≡ None
a_port_of_another_atom = refl

exports_are_those_of_the_port : export_named sample.atoms (record { atom = 1; port = 0 }) (codes "m") ≡ Some 0
exports_are_those_of_the_port = refl

an_export_of_another_port : export_named sample.atoms (record { atom = 0; port = 0 }) (codes "m") ≡ None
an_export_of_another_port = refl

-- ---- lines

a_comment : line_row (codes " # foo") sample ≡ Ok sample
a_comment = refl

a_place_of_the_latest_atom : line_row (codes "place p") sample ≡ Ok (record sample {
  atoms = atom_with (codes "A") (codes "t") (codes "n") ∷ record atom_b { places = record { name = codes "s"; marked = true } ∷ record { name = codes "p"; marked = false } ∷ [] } ∷ [];
})
a_place_of_the_latest_atom = refl

a_guard_of_the_latest_connector : line_row (codes "guard B.m") sample ≡ Ok (record sample {
  wires = wire_named (codes "one") ∷ record (wire_named (codes "two")) { guards = variable (record { leaf = 1; export = 0 }) ∷ [] } ∷ [];
})
a_guard_of_the_latest_connector = refl

a_transfer_of_the_latest_connector : line_row (codes "move A.n := 7") sample ≡ Ok (record sample {
  wires = wire_named (codes "one") ∷ record (wire_named (codes "two")) { transfers = record { target = record { leaf = 0; export = 0 }; value = number (pos 7) } ∷ [] } ∷ [];
})
a_transfer_of_the_latest_connector = refl

another_atom : line_row (codes "atom C") nothing ≡ Ok (record nothing { atoms = record { name = codes "C"; places = []; variables = []; ports = []; transitions = [] } ∷ [] })
another_atom = refl

another_connector : line_row (codes "connector two A.t' B.u") (record sample { wires = wire_named (codes "one") ∷ [] }) ≡ Ok sample
another_connector = refl

-- 228 is a byte that may not stand in a text
an_illegal_byte_after_a_word_of_no_line : line_row (codes "plaice " ++ 228 ∷ []) sample ≡ Err UnknownWord
an_illegal_byte_after_a_word_of_no_line = refl

an_illegal_byte_in_the_first_word : line_row (codes "pl" ++ 228 ∷ codes "ce p") sample ≡ Err NotAscii
an_illegal_byte_in_the_first_word = refl

an_illegal_byte_in_a_comment : line_row (codes "# foo " ++ 228 ∷ []) sample ≡ Err NotAscii
an_illegal_byte_in_a_comment = refl

an_illegal_byte_alone : line_row (32 ∷ 13 ∷ []) sample ≡ Err NotAscii
an_illegal_byte_alone = refl

an_illegal_byte_in_a_name : line_row (codes "atom C" ++ 228 ∷ codes " x") sample ≡ Err NotAscii
an_illegal_byte_in_a_name = refl

an_illegal_byte_left_over : line_row (codes "atom C " ++ 228 ∷ []) sample ≡ Err NotAscii
an_illegal_byte_left_over = refl

an_illegal_byte_after_a_place_twice : line_row (codes "place s " ++ 228 ∷ []) sample ≡ Err Twice
an_illegal_byte_after_a_place_twice = refl

an_illegal_byte_in_a_place_of_no_atom : line_row (codes "place " ++ 228 ∷ []) nothing ≡ Err Misplaced
an_illegal_byte_in_a_place_of_no_atom = refl

an_illegal_byte_after_a_connector_too_many : line_row (codes "connector " ++ 228 ∷ []) (record sample { wires = replicate 64 (wire_named (codes "one")) }) ≡ Err Limit
an_illegal_byte_after_a_connector_too_many = refl

an_illegal_byte_after_an_atom_twice_in_a_tree : line_row (codes "connector c A.t A.t " ++ 228 ∷ []) sample ≡ Err NotAscii
an_illegal_byte_after_an_atom_twice_in_a_tree = refl

a_word_of_no_line : line_row (codes "priority one < two") sample ≡ Err UnknownWord
a_word_of_no_line = refl

a_place_of_no_atom : line_row (codes "place 3") nothing ≡ Err Misplaced
a_place_of_no_atom = refl

a_guard_of_no_connector : line_row (codes "guard 1") (record sample { wires = [] }) ≡ Err Misplaced
a_guard_of_no_connector = refl

a_reserved_name : line_row (codes "atom to more") sample ≡ Err BadName
a_reserved_name = refl

an_atom_twice : line_row (codes "atom A more") sample ≡ Err Twice
an_atom_twice = refl

a_word_left_over : line_row (codes "atom C more") sample ≡ Err Shape
a_word_left_over = refl

an_atom_too_many : line_row (codes "atom to") (record nothing { atoms = replicate 64 atom_b }) ≡ Err Limit
an_atom_too_many = refl

a_connector_twice : line_row (codes "connector one x") sample ≡ Err Twice
a_connector_twice = refl

a_connector_without_a_tree : line_row (codes "connector c") sample ≡ Err Shape
a_connector_without_a_tree = refl

a_connector_over_an_unknown_port : line_row (codes "connector c A.t C.t") sample ≡ Err UnknownName
a_connector_over_an_unknown_port = refl

an_atom_twice_in_a_tree : line_row (codes "connector c A.t A.t") sample ≡ Err (Tree SameAtom)
an_atom_twice_in_a_tree = refl

a_connector_too_many : line_row (codes "connector") (record sample { wires = replicate 64 (wire_named (codes "one")) }) ≡ Err Limit
a_connector_too_many = refl

a_priority : line_row (codes "prio one < two:3") sample ≡ Ok (record sample { rules = Under (Whole 0) (One 1 3) ∷ [] })
a_priority = refl

a_maximal_connector : line_row (codes "maximal two") (record sample { rules = Maximal 0 ∷ [] }) ≡ Ok (record sample { rules = Maximal 0 ∷ Maximal 1 ∷ [] })
a_maximal_connector = refl

a_priority_with_a_condition : line_row (codes "prio one < two:3 when B at s") sample ≡ Ok (record sample { rules = UnderAt (Whole 0) (One 1 3) (record { atom = 1; place = 0 }) ∷ [] })
a_priority_with_a_condition = refl

a_condition_of_an_unknown_atom : line_row (codes "prio one < two when C at s") sample ≡ Err UnknownName
a_condition_of_an_unknown_atom = refl

-- B has the place p, and A has not
a_condition_of_a_place_of_another_atom : lines_row 1 (codes "place p" ∷ codes "prio one < two when A at p" ∷ []) sample ≡ Err (at 2 UnknownName)
a_condition_of_a_place_of_another_atom = refl

a_place_before_its_condition : lines_row 1 (codes "prio one < two when B at p" ∷ codes "place p" ∷ []) sample ≡ Err (at 1 UnknownName)
a_place_before_its_condition = refl

a_priority_of_no_interaction : line_row (codes "prio one:2 < two") sample ≡ Err UnknownName
a_priority_of_no_interaction = refl

a_priority_before_all_connectors : line_row (codes "maximal one") nothing ≡ Err UnknownName
a_priority_before_all_connectors = refl

a_rule_too_many : line_row (codes "prio") (record sample { rules = replicate 1024 (Maximal 0) }) ≡ Err Limit
a_rule_too_many = refl

-- ---- texts

interactions_are_numbered_by_connector_and_mask : interactions_of sample.wires ≡ (0, 1) ∷ (0, 3) ∷ (1, 1) ∷ (1, 3) ∷ []
interactions_are_numbered_by_connector_and_mask = refl

rules_with_an_order : with_an_order (record sample { rules = Under (Whole 0) (Whole 1) ∷ Maximal 0 ∷ [] }) ≡ Ok (record sample { rules = Under (Whole 0) (Whole 1) ∷ Maximal 0 ∷ [] })
unfolding order_fault is_below
rules_with_an_order = refl

rules_with_a_cycle : with_an_order (record sample { rules = Under (Whole 1) (One 1 3) ∷ [] }) ≡ Err (of_no_line (Order (Cycle 3)))
unfolding order_fault is_below
rules_with_a_cycle = refl

-- though the two never count together
conditional_rules_with_a_cycle : with_an_order (record sample {
  rules = UnderAt (Whole 0) (Whole 1) (record { atom = 0; place = 0 }) ∷ UnderAt (Whole 1) (Whole 0) (record { atom = 1; place = 0 }) ∷ [];
}) ≡ Err (of_no_line (Order (Cycle 0)))
unfolding order_fault is_below
conditional_rules_with_a_cycle = refl

an_empty_text : meaning [] ≡ Err (of_no_line NoAtom)
an_empty_text = refl

lines_end_at_line_feeds : meaning (codes "atom A" ++ 13 ∷ 10 ∷ codes "atom A") ≡ Err (at 2 Twice)
lines_end_at_line_feeds = refl

lines_that_say_nothing_count : lines_row 1 (codes "# two atoms" ∷ [] ∷ codes "atom A" ∷ codes "atom A" ∷ []) nothing ≡ Err (at 4 Twice)
lines_that_say_nothing_count = refl

the_first_fault_is_found : lines_row 1 (codes "foo" ∷ codes "place p" ∷ []) nothing ≡ Err (at 1 UnknownWord)
the_first_fault_is_found = refl

-- ---- what faults say

a_fault_of_a_line_is_shown_with_its_line : placed_message_of (at 14 BadExpression) ≡ codes "line 14: an expression is malformed"
unfolding digits
a_fault_of_a_line_is_shown_with_its_line = refl

a_fault_of_no_line_is_shown_alone : placed_message_of (of_no_line NoAtom) ≡ codes "there is no atom"
a_fault_of_no_line_is_shown_alone = refl

a_text_that_is_too_long : placed_message_of (of_no_line TooLong) ≡ codes "the text has more than 1048576 bytes"
unfolding digits
a_text_that_is_too_long = refl

a_fault_of_a_tree : placed_message_of (at 3 (Tree SameAtom)) ≡ codes "line 3: an atom may stand only once in a connector"
unfolding digits
a_fault_of_a_tree = refl

a_cycle : placed_message_of (of_no_line (Order (Cycle 5))) ≡ codes "the rules put interaction 5 below itself"
unfolding digits
a_cycle = refl
