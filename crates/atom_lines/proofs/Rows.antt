-- Worked lines, as computed facts. The words are those after the line's first one.
use Rattle.std.proofs.Common.{◌≡◌, [], ◌∷◌, ◌++◌, codes, replicate, refl, true, false, pos, negsuc, Some, None, Ok, Err}
use Rattle.petri_atom.specs.Definition.{AtomDefinition}
use Rattle.petri_atom.specs.Expression.{number, variable, operation}
use Rattle.petri_atom.specs.declared.expression.Operator.TheVariants.{Add, Less}
use Rattle.plant_words.specs.Words.{words_of}
use Rattle.plant_words.specs.declared.line_fault.LineFault.TheVariants.{NotAscii, BadName, Twice, UnknownName, BadExpression, BadNumber, Shape, Limit}
use Rattle.atom_lines.specs.Lookup.{place_number, variable_number, export_number}
use Rattle.atom_lines.specs.Rows.{place_row, variable_row, port_row, with_place, with_variable, with_port}
use Rattle.atom_lines.specs.Transitions.{transition_row, with_transition, updates_from}

-- place p, variables n and m, port t
sample : AtomDefinition
sample = record {
  name = codes "A";
  places = record { name = codes "p"; marked = true } ∷ [];
  variables = record { name = codes "n"; first = pos 1 } ∷ record { name = codes "m"; first = pos 0 } ∷ [];
  ports = record { name = codes "t"; exports = [] } ∷ [];
  transitions = [];
}

-- as many places as an atom may have
full : AtomDefinition
unfolding sample
full = record sample { places = replicate 64 (record { name = codes "p"; marked = false }) }

numbers_count_from_zero : variable_number sample (codes "m") ≡ Some 1
unfolding sample
numbers_count_from_zero = refl

a_name_of_another_part_is_unknown : place_number sample (codes "n") ≡ None
unfolding sample
a_name_of_another_part_is_unknown = refl

-- ---- places

an_unmarked_place : place_row (words_of (codes "q")) sample ≡ Ok (with_place sample (record { name = codes "q"; marked = false }))
unfolding sample
an_unmarked_place = refl

a_marked_place : place_row (words_of (codes "q init")) sample ≡ Ok (with_place sample (record { name = codes "q"; marked = true }))
unfolding sample
a_marked_place = refl

a_place_may_be_named_as_a_variable : place_row (words_of (codes "n")) sample ≡ Ok (with_place sample (record { name = codes "n"; marked = false }))
unfolding sample
a_place_may_be_named_as_a_variable = refl

no_name_of_a_place : place_row [] sample ≡ Err Shape
unfolding sample
no_name_of_a_place = refl

a_reserved_word_is_no_name : place_row (words_of (codes "to init")) sample ≡ Err BadName
unfolding sample
a_reserved_word_is_no_name = refl

a_place_twice : place_row (words_of (codes "p inti")) sample ≡ Err Twice
unfolding sample
a_place_twice = refl

init_misspelt : place_row (words_of (codes "q inti")) sample ≡ Err Shape
unfolding sample
init_misspelt = refl

a_word_after_init : place_row (words_of (codes "q init x")) sample ≡ Err Shape
unfolding sample
a_word_after_init = refl

a_place_too_many : place_row (words_of (codes "to")) full ≡ Err Limit
unfolding sample full
a_place_too_many = refl

-- 228 is a byte that may not stand in a text
an_illegal_byte_after_a_place_twice : place_row (words_of (codes "p " ++ 228 ∷ [])) sample ≡ Err Twice
unfolding sample
an_illegal_byte_after_a_place_twice = refl

an_illegal_byte_in_place_of_init : place_row (words_of (codes "q in" ++ 228 ∷ codes "t x")) sample ≡ Err NotAscii
unfolding sample
an_illegal_byte_in_place_of_init = refl

an_illegal_byte_after_init : place_row (words_of (codes "q init " ++ 228 ∷ [])) sample ≡ Err NotAscii
unfolding sample
an_illegal_byte_after_init = refl

an_illegal_byte_after_init_misspelt : place_row (words_of (codes "q inti " ++ 228 ∷ [])) sample ≡ Err Shape
unfolding sample
an_illegal_byte_after_init_misspelt = refl

-- ---- variables

a_value_with_an_illegal_byte : variable_row (words_of (codes "k 7" ++ 228 ∷ codes " y")) sample ≡ Err NotAscii
unfolding sample
a_value_with_an_illegal_byte = refl

a_negative_first_value : variable_row (words_of (codes "k -7")) sample ≡ Ok (with_variable sample (record { name = codes "k"; first = negsuc 6 }))
unfolding sample
a_negative_first_value = refl

a_value_that_is_no_number : variable_row (words_of (codes "k 7x y")) sample ≡ Err BadNumber
unfolding sample
a_value_that_is_no_number = refl

no_value : variable_row (words_of (codes "k")) sample ≡ Err Shape
unfolding sample
no_value = refl

a_word_after_the_value : variable_row (words_of (codes "k 7 8")) sample ≡ Err Shape
unfolding sample
a_word_after_the_value = refl

-- ---- ports

exports_by_number_in_written_order : port_row (words_of (codes "u m n")) sample ≡ Ok (with_port sample (record { name = codes "u"; exports = 1 ∷ 0 ∷ [] }))
unfolding sample
exports_by_number_in_written_order = refl

a_port_without_exports : port_row (words_of (codes "u")) sample ≡ Ok (with_port sample (record { name = codes "u"; exports = [] }))
unfolding sample
a_port_without_exports = refl

an_export_that_is_no_variable : port_row (words_of (codes "u n p n")) sample ≡ Err UnknownName
unfolding sample
an_export_that_is_no_variable = refl

an_export_twice : port_row (words_of (codes "u n n p")) sample ≡ Err Twice
unfolding sample
an_export_twice = refl

four_exports : AtomDefinition
unfolding sample
four_exports = record sample { variables = record { name = codes "a"; first = pos 0 } ∷ record { name = codes "b"; first = pos 0 } ∷ record { name = codes "c"; first = pos 0 } ∷ record { name = codes "d"; first = pos 0 } ∷ [] }

a_fifth_export : port_row (words_of (codes "u a b c d a")) four_exports ≡ Err Limit
unfolding sample four_exports
a_fifth_export = refl

a_fifth_export_with_an_illegal_byte : port_row (words_of (codes "u a b c d a" ++ 228 ∷ [])) four_exports ≡ Err Limit
unfolding sample four_exports
a_fifth_export_with_an_illegal_byte = refl

an_export_with_an_illegal_byte : port_row (words_of (codes "u n m" ++ 228 ∷ codes " n")) sample ≡ Err NotAscii
unfolding sample
an_export_with_an_illegal_byte = refl

-- port u exports m and n
exporting : AtomDefinition
unfolding sample
exporting = with_port sample (record { name = codes "u"; exports = 1 ∷ 0 ∷ [] })

an_export_by_its_place_in_the_port : export_number exporting 1 (codes "n") ≡ Some 1
unfolding sample exporting
an_export_by_its_place_in_the_port = refl

a_variable_that_another_port_exports : export_number exporting 0 (codes "n") ≡ None
unfolding sample exporting
a_variable_that_another_port_exports = refl

a_port_that_is_not_there : export_number exporting 2 (codes "n") ≡ None
unfolding sample exporting
a_port_that_is_not_there = refl

-- ---- transitions

-- places p and q
moving : AtomDefinition
unfolding sample
moving = record sample { places = record { name = codes "p"; marked = true } ∷ record { name = codes "q"; marked = false } ∷ [] }

a_place_by_its_number : place_number moving (codes "q") ≡ Some 1
unfolding sample moving
a_place_by_its_number = refl

places_by_number_and_the_guard_1 : transition_row (words_of (codes "t from q p to q")) moving ≡ Ok (with_transition moving (record { port = 0; sources = 1 ∷ 0 ∷ []; targets = 1 ∷ []; guard = number (pos 1); updates = [] }))
unfolding sample moving updates_from
places_by_number_and_the_guard_1 = refl

a_guard_of_its_own : transition_row (words_of (codes "t from p to q when < n 3")) moving ≡ Ok (with_transition moving (record { port = 0; sources = 0 ∷ []; targets = 1 ∷ []; guard = operation Less (variable 0) (number (pos 3)); updates = [] }))
unfolding sample moving updates_from
a_guard_of_its_own = refl

updates_in_written_order : transition_row (words_of (codes "t from p to q do m := + n 1 ; n := 0")) moving ≡ Ok (with_transition moving (record { port = 0; sources = 0 ∷ []; targets = 1 ∷ []; guard = number (pos 1); updates = record { variable = 1; value = operation Add (variable 0) (number (pos 1)) } ∷ record { variable = 0; value = number (pos 0) } ∷ [] }))
unfolding sample moving updates_from
updates_in_written_order = refl

a_guard_and_an_update : transition_row (words_of (codes "t from p to q when n do n := m")) moving ≡ Ok (with_transition moving (record { port = 0; sources = 0 ∷ []; targets = 1 ∷ []; guard = variable 0; updates = record { variable = 0; value = variable 1 } ∷ [] }))
unfolding sample moving updates_from
a_guard_and_an_update = refl

a_port_that_is_unknown : transition_row (words_of (codes "u to")) moving ≡ Err UnknownName
unfolding sample moving updates_from
a_port_that_is_unknown = refl

no_source : transition_row (words_of (codes "t from to q")) moving ≡ Err Shape
unfolding sample moving updates_from
no_source = refl

no_target : transition_row (words_of (codes "t from p to")) moving ≡ Err Shape
unfolding sample moving updates_from
no_target = refl

a_source_that_is_unknown : transition_row (words_of (codes "t from p n p")) moving ≡ Err UnknownName
unfolding sample moving updates_from
a_source_that_is_unknown = refl

a_source_twice : transition_row (words_of (codes "t from p p")) moving ≡ Err Twice
unfolding sample moving updates_from
a_source_twice = refl

no_guard_after_when : transition_row (words_of (codes "t from p to q when")) moving ≡ Err BadExpression
unfolding sample moving updates_from
no_guard_after_when = refl

an_update_before_the_guard : transition_row (words_of (codes "t from p to q do n := 1 when 1")) moving ≡ Err Shape
unfolding sample moving updates_from
an_update_before_the_guard = refl

no_update_after_do : transition_row (words_of (codes "t from p to q do")) moving ≡ Err Shape
unfolding sample moving updates_from
no_update_after_do = refl

no_update_after_a_semicolon : transition_row (words_of (codes "t from p to q do n := 1 ;")) moving ≡ Err Shape
unfolding sample moving updates_from
no_update_after_a_semicolon = refl

an_update_of_no_variable : transition_row (words_of (codes "t from p to q do p := 1")) moving ≡ Err UnknownName
unfolding sample moving updates_from
an_update_of_no_variable = refl

a_word_left_over : transition_row (words_of (codes "t from p to q when 1 1")) moving ≡ Err Shape
unfolding sample moving updates_from
a_word_left_over = refl

an_illegal_byte_in_a_list_of_places : transition_row (words_of (codes "t from p" ++ 228 ∷ codes " to x")) moving ≡ Err NotAscii
unfolding sample moving updates_from
an_illegal_byte_in_a_list_of_places = refl

an_illegal_byte_in_place_of_from : transition_row (words_of (codes "t " ++ 228 ∷ codes " p")) moving ≡ Err NotAscii
unfolding sample moving updates_from
an_illegal_byte_in_place_of_from = refl

an_illegal_byte_after_no_source : transition_row (words_of (codes "t from to " ++ 228 ∷ [])) moving ≡ Err Shape
unfolding sample moving updates_from
an_illegal_byte_after_no_source = refl

an_illegal_byte_in_a_guard : transition_row (words_of (codes "t from p to q when < n " ++ 228 ∷ [])) moving ≡ Err NotAscii
unfolding sample moving updates_from
an_illegal_byte_in_a_guard = refl

an_illegal_byte_after_a_guard : transition_row (words_of (codes "t from p to q when 1 " ++ 228 ∷ [])) moving ≡ Err NotAscii
unfolding sample moving updates_from
an_illegal_byte_after_a_guard = refl

an_illegal_byte_in_an_update : transition_row (words_of (codes "t from p to q do n :=" ++ 228 ∷ codes " 1")) moving ≡ Err NotAscii
unfolding sample moving updates_from
an_illegal_byte_in_an_update = refl

an_illegal_byte_after_an_update_of_no_variable : transition_row (words_of (codes "t from p to q do p " ++ 228 ∷ [])) moving ≡ Err UnknownName
unfolding sample moving updates_from
an_illegal_byte_after_an_update_of_no_variable = refl
