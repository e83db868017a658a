-- Worked lines of the connector `link A.t B.u`, as computed facts. The words are those after the line's first one.
use Rattle.std.proofs.Common.{◌≡◌, ℕ, false, [], ◌∷◌, ◌++◌, List, codes, replicate, if◌then◌else◌, ◌&&◌, ◌==◌, refl, pos, Option, Some, None, Ok, Err}
use Rattle.petri_atom.specs.Name.{is_same_text}
use Rattle.petri_atom.specs.Expression.{Tree, number, variable, operation}
use Rattle.petri_atom.specs.declared.expression.Operator.TheVariants.{Add, Less}
use Rattle.connector_tree.specs.Tree as connectors
use Rattle.connector_tree.specs.declared.tree.Port.{Port}
use Rattle.plant_model.specs.Plant.{TransferDefinition, WireDefinition}
use Rattle.plant_model.specs.declared.wire.Export.{Export}
use Rattle.plant_words.specs.Words.{words_of}
use Rattle.plant_words.specs.declared.line_fault.LineFault.TheVariants.{NotAscii, Twice, UnknownName, BadExpression, BadNumber, Shape, Limit}
use Rattle.connector_lines.specs.Exports.{variable_in}
use Rattle.connector_lines.specs.Rows.{guard_row, transfer_row}

-- atoms A, B and C
atom_named : List ℕ → Option ℕ
atom_named name =
    if is_same_text name (codes "A") then Some 0 else
    if is_same_text name (codes "B") then Some 1 else
    if is_same_text name (codes "C") then Some 2 else None

-- port 0 of A exports n and k, port 0 of B exports m
export_named : Port → List ℕ → Option ℕ
export_named port name =
    if port.atom == 0 && is_same_text name (codes "n") then Some 0 else
    if port.atom == 0 && is_same_text name (codes "k") then Some 1 else
    if port.atom == 1 && is_same_text name (codes "m") then Some 0 else None

-- the tree of `link`
abbrev link_tree : connectors.Tree
link_tree = connectors.child false (connectors.leaf 0 0) (connectors.child false (connectors.leaf 1 0) connectors.no_child)

-- the variable of a leaf
abbrev of_leaf : ℕ → ℕ → Export
of_leaf leaf export = record { leaf = leaf; export = export }

-- the connector so far
abbrev link : List (Tree Export) → List TransferDefinition → WireDefinition
link guards transfers = record { name = codes "link"; connector = link_tree; guards = guards; transfers = transfers; inputs = [] }

a_variable_of_the_second_leaf : variable_in atom_named export_named (connectors.leaves link_tree) (codes "B.m") ≡ Some (of_leaf 1 0)
unfolding atom_named export_named
a_variable_of_the_second_leaf = refl

-- port 7 exports k as its variable 95
late_export : Port → List ℕ → Option ℕ
late_export port name = if port.port == 7 && is_same_text name (codes "k") then Some 95 else None

a_variable_is_its_leaf_and_its_place_in_the_port : variable_in atom_named late_export (record { atom = 2; port = 2 } ∷ record { atom = 0; port = 7 } ∷ []) (codes "A.k") ≡ Some (of_leaf 1 95)
unfolding atom_named late_export
a_variable_is_its_leaf_and_its_place_in_the_port = refl

-- `A.n := 1`
abbrev to_n : TransferDefinition
to_n = record { target = of_leaf 0 0; value = number (pos 1) }

-- ---- guard clauses

a_guard_after_another : guard_row atom_named export_named (words_of (codes "< A.k 3")) (link (number (pos 1) ∷ []) []) ≡ Ok (link (number (pos 1) ∷ operation Less (variable (of_leaf 0 1)) (number (pos 3)) ∷ []) [])
unfolding atom_named export_named
a_guard_after_another = refl

a_guard_that_names_no_port : guard_row atom_named export_named (words_of (codes "1")) (link [] []) ≡ Ok (link (number (pos 1) ∷ []) [])
unfolding atom_named export_named
a_guard_that_names_no_port = refl

a_variable_of_an_atom_without_a_leaf : guard_row atom_named export_named (words_of (codes "+ 1 C.n")) (link [] []) ≡ Err UnknownName
unfolding atom_named export_named
a_variable_of_an_atom_without_a_leaf = refl

a_variable_of_the_other_port : guard_row atom_named export_named (words_of (codes "< A.m x")) (link [] []) ≡ Err UnknownName
unfolding atom_named export_named
a_variable_of_the_other_port = refl

a_variable_without_its_atom : guard_row atom_named export_named (words_of (codes "n")) (link [] []) ≡ Err UnknownName
unfolding atom_named export_named
a_variable_without_its_atom = refl

a_missing_operand : guard_row atom_named export_named (words_of (codes "< A.n")) (link [] []) ≡ Err BadExpression
unfolding atom_named export_named
a_missing_operand = refl

no_guard : guard_row atom_named export_named (words_of (codes "")) (link [] []) ≡ Err BadExpression
unfolding atom_named export_named
no_guard = refl

a_number_past_the_largest : guard_row atom_named export_named (words_of (codes "9223372036854775808")) (link [] []) ≡ Err BadNumber
unfolding atom_named export_named
a_number_past_the_largest = refl

a_word_after_a_guard : guard_row atom_named export_named (words_of (codes "A.n B.m")) (link [] []) ≡ Err Shape
unfolding atom_named export_named
a_word_after_a_guard = refl

-- 228 is a byte that may not stand in a text
an_illegal_byte_in_a_variable : guard_row atom_named export_named (words_of (codes "< A.n" ++ 228 ∷ codes " x")) (link [] []) ≡ Err NotAscii
unfolding atom_named export_named
an_illegal_byte_in_a_variable = refl

an_illegal_byte_after_a_guard : guard_row atom_named export_named (words_of (codes "A.n " ++ 228 ∷ [])) (link [] []) ≡ Err NotAscii
unfolding atom_named export_named
an_illegal_byte_after_a_guard = refl

a_ninth_guard_with_an_illegal_byte : guard_row atom_named export_named ((228 ∷ []) ∷ []) (link (replicate 8 (number (pos 1))) []) ≡ Err Limit
a_ninth_guard_with_an_illegal_byte = refl

a_ninth_guard : guard_row atom_named export_named [] (link (replicate 8 (number (pos 1))) []) ≡ Err Limit
a_ninth_guard = refl

the_eighth_guard : guard_row atom_named export_named (words_of (codes "1")) (link (replicate 7 (number (pos 1))) []) ≡ Ok (link (replicate 8 (number (pos 1))) [])
unfolding atom_named export_named
the_eighth_guard = refl

-- ---- transfers

a_transfer_to_the_second_leaf : transfer_row atom_named export_named (words_of (codes "B.m := A.n")) (link [] []) ≡ Ok (link [] (record { target = of_leaf 1 0; value = variable (of_leaf 0 0) } ∷ []))
unfolding atom_named export_named
a_transfer_to_the_second_leaf = refl

a_transfer_after_another : transfer_row atom_named export_named (words_of (codes "A.k := + B.m 1")) (link [] (to_n ∷ [])) ≡ Ok (link [] (to_n ∷ record { target = of_leaf 0 1; value = operation Add (variable (of_leaf 1 0)) (number (pos 1)) } ∷ []))
unfolding atom_named export_named
a_transfer_after_another = refl

no_target : transfer_row atom_named export_named (words_of (codes "")) (link [] []) ≡ Err Shape
unfolding atom_named export_named
no_target = refl

a_target_that_is_no_export : transfer_row atom_named export_named (words_of (codes "n := 1")) (link [] []) ≡ Err UnknownName
unfolding atom_named export_named
a_target_that_is_no_export = refl

a_target_with_two_dots : transfer_row atom_named export_named (words_of (codes "A.n.n := 1")) (link [] []) ≡ Err UnknownName
unfolding atom_named export_named
a_target_with_two_dots = refl

a_target_of_an_atom_without_a_leaf : transfer_row atom_named export_named (words_of (codes "C.n = 1")) (link [] []) ≡ Err UnknownName
unfolding atom_named export_named
a_target_of_an_atom_without_a_leaf = refl

a_target_twice : transfer_row atom_named export_named (words_of (codes "A.n = 1")) (link [] (to_n ∷ [])) ≡ Err Twice
unfolding atom_named export_named
a_target_twice = refl

no_assignment : transfer_row atom_named export_named (words_of (codes "B.m = A.n")) (link [] []) ≡ Err Shape
unfolding atom_named export_named
no_assignment = refl

an_illegal_byte_in_the_assignment : transfer_row atom_named export_named (words_of (codes "B.m :=" ++ 228 ∷ codes " n")) (link [] []) ≡ Err NotAscii
unfolding atom_named export_named
an_illegal_byte_in_the_assignment = refl

an_illegal_byte_after_a_target_twice : transfer_row atom_named export_named (words_of (codes "A.n " ++ 228 ∷ [])) (link [] (to_n ∷ [])) ≡ Err Twice
unfolding atom_named export_named
an_illegal_byte_after_a_target_twice = refl

no_word_after_the_target : transfer_row atom_named export_named (words_of (codes "B.m")) (link [] []) ≡ Err Shape
unfolding atom_named export_named
no_word_after_the_target = refl

no_value : transfer_row atom_named export_named (words_of (codes "B.m :=")) (link [] []) ≡ Err BadExpression
unfolding atom_named export_named
no_value = refl

a_word_after_the_value : transfer_row atom_named export_named (words_of (codes "B.m := 1 ; A.n := 1")) (link [] []) ≡ Err Shape
unfolding atom_named export_named
a_word_after_the_value = refl

a_transfer_too_many : transfer_row atom_named export_named [] (link [] (replicate 32 to_n)) ≡ Err Limit
a_transfer_too_many = refl

-- a transfer to the one variable of the second leaf
abbrev to_m : TransferDefinition
to_m = record { target = of_leaf 1 0; value = number (pos 1) }

the_thirty_second_transfer : transfer_row atom_named export_named (words_of (codes "B.m := 1")) (link [] (replicate 31 to_n)) ≡ Ok (link [] (replicate 31 to_n ++ to_m ∷ []))
unfolding atom_named export_named
the_thirty_second_transfer = refl
