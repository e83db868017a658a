-- Worked examples of the definitions, as computed facts.
use Rattle.std.proofs.Common.{◌≡◌, true, false, refl, [], ◌∷◌, codes, ◌++◌, map, Some, None, pos, negsuc, Ok, Err}
use Rattle.std.specs.Prelude.{position}
use Rattle.petri_atom.specs.Name.{is_same_text}
use Rattle.plant_words.specs.Lines.{lines_of, is_legal_line}
use Rattle.plant_words.specs.LineKinds.{keyword_of, kind_in}
use Rattle.plant_words.specs.Words.{words_of, is_passed_over}
use Rattle.plant_words.specs.Numbers.{is_numeric, int_in, pick_in}
use Rattle.plant_words.specs.Names.{name_in}
use Rattle.plant_words.specs.Splits.{port_parts, export_parts, named_mask_in}
use Rattle.plant_words.specs.Reading.{first_word, first_name, first_keyword, at_end}
use Rattle.plant_words.specs.declared.line_fault.LineFault.TheVariants.{NotAscii, BadName, Shape}
use Rattle.plant_words.specs.declared.line_kind.TheConstants.{LINE_KINDS}
use Rattle.plant_words.specs.declared.numbers.TheConstants.{MAX_DIGITS}

-- ---- lines

no_line_in_the_empty_text : lines_of [] ≡ []
no_line_in_the_empty_text = refl

the_last_line_may_lack_its_line_feed : lines_of (codes "ab\nc") ≡ codes "ab" ∷ codes "c" ∷ []
the_last_line_may_lack_its_line_feed = refl

no_line_after_the_last_line_feed : lines_of (codes "ab\nc\n") ≡ codes "ab" ∷ codes "c" ∷ []
no_line_after_the_last_line_feed = refl

empty_lines_count : lines_of (codes "\n\na\n") ≡ [] ∷ [] ∷ codes "a" ∷ []
empty_lines_count = refl

a_return_before_a_line_feed_is_passed_over : lines_of (codes "a" ++ 13 ∷ 10 ∷ 13 ∷ 10 ∷ []) ≡ codes "a" ∷ [] ∷ []
a_return_before_a_line_feed_is_passed_over = refl

one_return_alone_is_passed_over : lines_of (13 ∷ 13 ∷ 10 ∷ []) ≡ (13 ∷ []) ∷ []
one_return_alone_is_passed_over = refl

a_return_without_a_line_feed_stays : lines_of (97 ∷ 13 ∷ 98 ∷ 13 ∷ []) ≡ (97 ∷ 13 ∷ 98 ∷ 13 ∷ []) ∷ []
a_return_without_a_line_feed_stays = refl

a_text_of_five_lines : lines_of (codes "a b\n\nc" ++ 13 ∷ 10 ∷ 13 ∷ 13 ∷ 10 ∷ 100 ∷ 13 ∷ []) ≡ codes "a b" ∷ [] ∷ codes "c" ∷ (13 ∷ []) ∷ (100 ∷ 13 ∷ []) ∷ []
a_text_of_five_lines = refl

one_return_is_passed_over_at_the_end_too : lines_of (codes "c" ++ 10 ∷ 13 ∷ 13 ∷ 10 ∷ 100 ∷ 13 ∷ 13 ∷ 10 ∷ []) ≡ codes "c" ∷ (13 ∷ []) ∷ (100 ∷ 13 ∷ []) ∷ []
one_return_is_passed_over_at_the_end_too = refl

spaces_and_tabs_are_legal : is_legal_line (32 ∷ 9 ∷ 126 ∷ []) ≡ true
spaces_and_tabs_are_legal = refl

returns_are_not_legal : is_legal_line (codes "# a" ++ 13 ∷ []) ≡ false
returns_are_not_legal = refl

bytes_past_the_printed_ones_are_not_legal : is_legal_line (127 ∷ []) ≡ false
bytes_past_the_printed_ones_are_not_legal = refl

bytes_before_the_printed_ones_are_not_legal : is_legal_line (31 ∷ []) ≡ false
bytes_before_the_printed_ones_are_not_legal = refl

-- ---- words

words_stand_between_blanks : words_of (9 ∷ 32 ∷ codes "place  a" ++ 9 ∷ codes "init ") ≡ codes "place" ∷ codes "a" ∷ codes "init" ∷ []
words_stand_between_blanks = refl

no_words_in_blanks : words_of (32 ∷ 9 ∷ 32 ∷ []) ≡ []
no_words_in_blanks = refl

lines_without_words_are_passed_over : is_passed_over (32 ∷ 9 ∷ []) ≡ true
lines_without_words_are_passed_over = refl

comments_are_passed_over : is_passed_over (codes "  #a b") ≡ true
comments_are_passed_over = refl

a_hash_in_a_later_word_makes_no_comment : is_passed_over (codes "a #b") ≡ false
a_hash_in_a_later_word_makes_no_comment = refl

-- ---- numbers

a_number : int_in (codes "42") ≡ Some (pos 42)
a_number = refl

a_negative_number : int_in (codes "-7") ≡ Some (negsuc 6)
a_negative_number = refl

minus_zero_is_zero : int_in (codes "-0") ≡ Some (pos 0)
minus_zero_is_zero = refl

nineteen_digits_at_most : MAX_DIGITS ≡ 19
nineteen_digits_at_most = refl

zeros_may_stand_first : int_in (codes "0000000000000000042") ≡ Some (pos 42)
zeros_may_stand_first = refl

twenty_digits_are_no_number : int_in (codes "00000000000000000042") ≡ None
twenty_digits_are_no_number = refl

the_least_number : int_in (codes "-9223372036854775808") ≡ Some (negsuc 9223372036854775807)
the_least_number = refl

below_the_least_number : int_in (codes "-9223372036854775809") ≡ None
below_the_least_number = refl

the_greatest_number : int_in (codes "9223372036854775807") ≡ Some (pos 9223372036854775807)
the_greatest_number = refl

past_the_greatest_number : int_in (codes "9223372036854775808") ≡ None
past_the_greatest_number = refl

a_sign_alone_is_no_number : int_in (codes "-") ≡ None
a_sign_alone_is_no_number = refl

twenty_digits_are_numeric : is_numeric (codes "-00000000000000000042") ≡ true
twenty_digits_are_numeric = refl

a_sign_alone_is_not_numeric : is_numeric (codes "-") ≡ false
a_sign_alone_is_not_numeric = refl

a_plus_is_no_sign : int_in (codes "+1") ≡ None
a_plus_is_no_sign = refl

two_signs_are_no_number : int_in (codes "--1") ≡ None
two_signs_are_no_number = refl

no_number_in_the_empty_word : int_in [] ≡ None
no_number_in_the_empty_word = refl

the_empty_word_is_not_numeric : is_numeric [] ≡ false
the_empty_word_is_not_numeric = refl

a_pick_of_twenty_three_digits : pick_in (codes "00018446744073709551615") ≡ Some 18446744073709551615
a_pick_of_twenty_three_digits = refl

past_the_greatest_pick : pick_in (codes "18446744073709551616") ≡ None
past_the_greatest_pick = refl

no_pick_in_the_empty_word : pick_in [] ≡ None
no_pick_in_the_empty_word = refl

a_pick_has_no_sign : pick_in (codes "-1") ≡ None
a_pick_has_no_sign = refl

a_byte_past_the_digits : pick_in (49 ∷ 255 ∷ []) ≡ None
a_byte_past_the_digits = refl

-- ---- names and words of several parts

a_name : name_in (codes "place_2") ≡ Some (codes "place_2")
a_name = refl

no_name_begins_with_a_digit : name_in (codes "2a") ≡ None
no_name_begins_with_a_digit = refl

reserved_words_are_no_names : name_in (codes "when") ≡ None
reserved_words_are_no_names = refl

a_port : port_parts (codes "A.p") ≡ Some (record { atom = codes "A"; port = codes "p"; quoted = false })
a_port = refl

a_quoted_port : port_parts (codes "A.p'") ≡ Some (record { atom = codes "A"; port = codes "p"; quoted = true })
a_quoted_port = refl

one_quote_alone_is_taken : port_parts (codes "A.p''") ≡ Some (record { atom = codes "A"; port = codes "p'"; quoted = true })
one_quote_alone_is_taken = refl

two_dots_make_no_port : port_parts (codes "A.b.c") ≡ None
two_dots_make_no_port = refl

no_port_without_a_dot : port_parts (codes "Ap'") ≡ None
no_port_without_a_dot = refl

no_port_without_a_name : port_parts (codes "A.'") ≡ None
no_port_without_a_name = refl

no_port_without_an_atom : port_parts (codes ".p") ≡ None
no_port_without_an_atom = refl

no_port_in_the_empty_word : port_parts [] ≡ None
no_port_in_the_empty_word = refl

no_port_in_a_bracket : port_parts (codes "[") ≡ None
no_port_in_a_bracket = refl

no_port_in_the_end_of_a_bracket : port_parts (codes "]'") ≡ None
no_port_in_the_end_of_a_bracket = refl

an_export : export_parts (codes "A.n") ≡ Some (codes "A", codes "n")
an_export = refl

a_quote_is_part_of_an_export : export_parts (codes "A.n'") ≡ Some (codes "A", codes "n'")
a_quote_is_part_of_an_export = refl

no_export_in_the_empty_word : export_parts [] ≡ None
no_export_in_the_empty_word = refl

a_named_mask : named_mask_in (codes "link:3") ≡ Some (codes "link", codes "3")
a_named_mask = refl

two_colons_make_no_named_mask : named_mask_in (codes "link:3:") ≡ None
two_colons_make_no_named_mask = refl

no_named_mask_in_the_empty_word : named_mask_in [] ≡ None
no_named_mask_in_the_empty_word = refl

no_named_mask_without_a_colon : named_mask_in (codes "A.n") ≡ None
no_named_mask_without_a_colon = refl

-- ---- words that are taken; 228 and 128 are illegal bytes

an_illegal_byte_in_a_word : first_word (words_of (codes "a" ++ 228 ∷ codes "b c")) ≡ Err NotAscii
an_illegal_byte_in_a_word = refl

an_illegal_byte_after_a_word : first_word (words_of (codes "a " ++ 228 ∷ [])) ≡ Ok (codes "a")
an_illegal_byte_after_a_word = refl

a_name_with_an_illegal_byte : first_name (words_of (codes "to" ++ 128 ∷ [])) ≡ Err NotAscii
a_name_with_an_illegal_byte = refl

a_reserved_word_before_an_illegal_byte : first_name (words_of (codes "to " ++ 128 ∷ [])) ≡ Err BadName
a_reserved_word_before_an_illegal_byte = refl

an_illegal_byte_in_place_of_a_keyword : first_keyword (codes "to") (words_of (128 ∷ codes " to")) ≡ Err NotAscii
an_illegal_byte_in_place_of_a_keyword = refl

another_word_in_place_of_a_keyword : first_keyword (codes "to") (words_of (codes "t " ++ 128 ∷ [])) ≡ Err Shape
another_word_in_place_of_a_keyword = refl

an_illegal_byte_left_over : at_end (words_of (128 ∷ codes " x")) ≡ Err NotAscii
an_illegal_byte_left_over = refl

a_word_left_over_before_an_illegal_byte : at_end (words_of (codes "x " ++ 128 ∷ [])) ≡ Err Shape
a_word_left_over_before_an_illegal_byte = refl

-- ---- names by their place, of q2 and q

a_name_by_its_place : position (λ known. is_same_text known (codes "q")) (codes "q2" ∷ codes "q" ∷ []) ≡ Some 1
a_name_by_its_place = refl

the_empty_name_has_no_place : position (λ known. is_same_text known []) (codes "q2" ∷ codes "q" ∷ []) ≡ None
the_empty_name_has_no_place = refl

-- ---- kinds of lines

each_kind_is_known_by_its_keyword : map (λ kind. kind_in (keyword_of kind)) LINE_KINDS ≡ map Some LINE_KINDS
each_kind_is_known_by_its_keyword = refl

a_longer_word_begins_no_line : kind_in (codes "places") ≡ None
a_longer_word_begins_no_line = refl
