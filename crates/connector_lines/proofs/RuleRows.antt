-- Worked lines, as computed facts. The words are those after the line's first one.
use Rattle.std.proofs.Common.{◌≡◌, ℕ, Bool, true, List, [], ◌∷◌, ◌++◌, codes, if◌then◌else◌, ◌&&◌, ◌||◌, ◌==◌, refl, Option, Some, None, Ok, Err}
use Rattle.petri_atom.specs.Name.{is_same_text}
use Rattle.plant_words.specs.Words.{words_of}
use Rattle.priority_filter.specs.declared.rule.Side.TheVariants.{Whole, One}
use Rattle.priority_filter.specs.declared.rule.Rule.TheVariants.{Under, UnderAt, Maximal}
use Rattle.priority_filter.specs.declared.seen.At.{At}
use Rattle.plant_words.specs.declared.line_fault.LineFault.TheVariants.{NotAscii, UnknownName, BadNumber, Shape}
use Rattle.connector_lines.specs.Rules.{priority_in, maximal_in}
use Rattle.connector_lines.specs.declared.side.TheConstants.{MAX_MASK}

-- the connectors tick, send and bc
connector_named : List ℕ → Option ℕ
connector_named name =
    if is_same_text name (codes "tick") then Some 0 else
    if is_same_text name (codes "send") then Some 1 else
    if is_same_text name (codes "bc") then Some 2 else None

-- tick has the interaction 1, send 3, and bc 1 and 3
has_interaction : ℕ → ℕ → Bool
has_interaction connector mask =
    (connector == 0 && mask == 1) || (connector == 1 && mask == 3) || (connector == 2 && (mask == 1 || mask == 3))

-- the atoms A, with the places off and on, and B, with the place s
atom_named : List ℕ → Option ℕ
atom_named name =
    if is_same_text name (codes "A") then Some 0 else
    if is_same_text name (codes "B") then Some 1 else None

place_named : ℕ → List ℕ → Option ℕ
place_named atom name =
    if atom == 0 && is_same_text name (codes "off") then Some 0 else
    if atom == 0 && is_same_text name (codes "on") then Some 1 else
    if atom == 1 && is_same_text name (codes "s") then Some 0 else None

-- ---- priorities

a_connector_below_another : priority_in connector_named has_interaction atom_named place_named (words_of (codes "tick < send")) ≡ Ok (Under (Whole 0) (Whole 1))
unfolding connector_named has_interaction
a_connector_below_another = refl

an_interaction_below_another_of_its_connector : priority_in connector_named has_interaction atom_named place_named (words_of (codes "bc:1 < bc:3")) ≡ Ok (Under (One 2 1) (One 2 3))
unfolding connector_named has_interaction
an_interaction_below_another_of_its_connector = refl

an_interaction_below_a_connector : priority_in connector_named has_interaction atom_named place_named (words_of (codes "bc:03 < tick")) ≡ Ok (Under (One 2 3) (Whole 0))
unfolding connector_named has_interaction
an_interaction_below_a_connector = refl

a_connector_below_an_interaction : priority_in connector_named has_interaction atom_named place_named (words_of (codes "send < tick:1")) ≡ Ok (Under (Whole 1) (One 0 1))
unfolding connector_named has_interaction
a_connector_below_an_interaction = refl

a_connector_below_itself : priority_in connector_named has_interaction atom_named place_named (words_of (codes "bc < bc")) ≡ Ok (Under (Whole 2) (Whole 2))
unfolding connector_named has_interaction
a_connector_below_itself = refl

-- ---- sides that are none

an_unknown_left_side : priority_in connector_named has_interaction atom_named place_named (words_of (codes "no < send")) ≡ Err UnknownName
unfolding connector_named has_interaction
an_unknown_left_side = refl

an_unknown_right_side : priority_in connector_named has_interaction atom_named place_named (words_of (codes "tick < no")) ≡ Err UnknownName
unfolding connector_named has_interaction
an_unknown_right_side = refl

an_unknown_side_before_words_left_over : priority_in connector_named has_interaction atom_named place_named (words_of (codes "tick < no x")) ≡ Err UnknownName
unfolding connector_named has_interaction
an_unknown_side_before_words_left_over = refl

a_mask_that_is_no_interaction : priority_in connector_named has_interaction atom_named place_named (words_of (codes "bc:2 < tick")) ≡ Err UnknownName
unfolding connector_named has_interaction
a_mask_that_is_no_interaction = refl

a_mask_of_another_connector : priority_in connector_named has_interaction atom_named place_named (words_of (codes "tick < send:1")) ≡ Err UnknownName
unfolding connector_named has_interaction
a_mask_of_another_connector = refl

a_mask_that_is_no_number : priority_in connector_named has_interaction atom_named place_named (words_of (codes "bc:x < tick")) ≡ Err BadNumber
unfolding connector_named has_interaction
a_mask_that_is_no_number = refl

a_mask_with_a_sign : priority_in connector_named has_interaction atom_named place_named (words_of (codes "bc:-1 < tick")) ≡ Err BadNumber
unfolding connector_named has_interaction
a_mask_with_a_sign = refl

a_mask_past_the_largest : priority_in connector_named has_interaction atom_named place_named (words_of (codes "bc:70000 < tick")) ≡ Err UnknownName
unfolding connector_named has_interaction
a_mask_past_the_largest = refl

the_greatest_mask_of_64_bits : priority_in connector_named has_interaction atom_named place_named (words_of (codes "bc:18446744073709551615 < tick")) ≡ Err UnknownName
unfolding connector_named has_interaction
the_greatest_mask_of_64_bits = refl

-- every mask is an interaction
any_mask : ℕ → ℕ → Bool
any_mask connector mask = true

the_greatest_mask_and_the_next : (priority_in connector_named any_mask atom_named place_named (words_of (codes "bc:65535 < tick")) ≡ Ok (Under (One 2 65535) (Whole 0))) × (priority_in connector_named any_mask atom_named place_named (words_of (codes "bc:65536 < tick")) ≡ Err UnknownName)
unfolding connector_named any_mask
the_greatest_mask_and_the_next = (refl, refl)

a_mask_past_64_bits : priority_in connector_named has_interaction atom_named place_named (words_of (codes "bc:18446744073709551616 < tick")) ≡ Err BadNumber
unfolding connector_named has_interaction
a_mask_past_64_bits = refl

an_unknown_name_before_its_mask : priority_in connector_named has_interaction atom_named place_named (words_of (codes "no:x < tick")) ≡ Err UnknownName
unfolding connector_named has_interaction
an_unknown_name_before_its_mask = refl

a_colon_without_a_mask : priority_in connector_named has_interaction atom_named place_named (words_of (codes "bc: < tick")) ≡ Err UnknownName
unfolding connector_named has_interaction
a_colon_without_a_mask = refl

a_colon_without_a_name : priority_in connector_named has_interaction atom_named place_named (words_of (codes ":1 < tick")) ≡ Err UnknownName
unfolding connector_named has_interaction
a_colon_without_a_name = refl

two_colons : priority_in connector_named has_interaction atom_named place_named (words_of (codes "bc:1:3 < tick")) ≡ Err UnknownName
unfolding connector_named has_interaction
two_colons = refl

-- ---- words that are missing, stand where another must, or are left over

no_sides : priority_in connector_named has_interaction atom_named place_named (words_of (codes "")) ≡ Err Shape
unfolding connector_named has_interaction
no_sides = refl

the_left_side_alone : priority_in connector_named has_interaction atom_named place_named (words_of (codes "tick")) ≡ Err Shape
unfolding connector_named has_interaction
the_left_side_alone = refl

no_right_side : priority_in connector_named has_interaction atom_named place_named (words_of (codes "tick <")) ≡ Err Shape
unfolding connector_named has_interaction
no_right_side = refl

nothing_between_the_sides : priority_in connector_named has_interaction atom_named place_named (words_of (codes "tick send")) ≡ Err Shape
unfolding connector_named has_interaction
nothing_between_the_sides = refl

another_word_between_the_sides : priority_in connector_named has_interaction atom_named place_named (words_of (codes "tick <= send")) ≡ Err Shape
unfolding connector_named has_interaction
another_word_between_the_sides = refl

another_word_before_an_unknown_side : priority_in connector_named has_interaction atom_named place_named (words_of (codes "tick > no")) ≡ Err Shape
unfolding connector_named has_interaction
another_word_before_an_unknown_side = refl

a_word_left_over : priority_in connector_named has_interaction atom_named place_named (words_of (codes "tick < send x")) ≡ Err Shape
unfolding connector_named has_interaction
a_word_left_over = refl

-- 228 is a byte that may not stand in a text
an_illegal_byte_in_a_side : priority_in connector_named has_interaction atom_named place_named (words_of (codes "bc:" ++ 228 ∷ codes " tick")) ≡ Err NotAscii
unfolding connector_named has_interaction
an_illegal_byte_in_a_side = refl

an_illegal_byte_in_place_of_below : priority_in connector_named has_interaction atom_named place_named (words_of (codes "tick <" ++ 228 ∷ codes " no")) ≡ Err NotAscii
unfolding connector_named has_interaction
an_illegal_byte_in_place_of_below = refl

an_illegal_byte_after_an_unknown_side : priority_in connector_named has_interaction atom_named place_named (words_of (codes "no " ++ 228 ∷ [])) ≡ Err UnknownName
unfolding connector_named has_interaction
an_illegal_byte_after_an_unknown_side = refl

an_illegal_byte_left_over : priority_in connector_named has_interaction atom_named place_named (words_of (codes "tick < send x" ++ 228 ∷ [])) ≡ Err NotAscii
unfolding connector_named has_interaction
an_illegal_byte_left_over = refl

-- ---- conditions

-- a place of an atom
abbrev at : ℕ → ℕ → At
at atom place = record { atom = atom; place = place }

a_rule_with_a_condition : priority_in connector_named has_interaction atom_named place_named (words_of (codes "tick < send when A at on")) ≡ Ok (UnderAt (Whole 0) (Whole 1) (at 0 1))
unfolding connector_named has_interaction atom_named place_named
a_rule_with_a_condition = refl

a_rule_of_interactions_with_a_condition : priority_in connector_named has_interaction atom_named place_named (words_of (codes "bc:1 < bc:3 when B at s")) ≡ Ok (UnderAt (One 2 1) (One 2 3) (at 1 0))
unfolding connector_named has_interaction atom_named place_named
a_rule_of_interactions_with_a_condition = refl

an_unknown_atom_of_a_condition : priority_in connector_named has_interaction atom_named place_named (words_of (codes "tick < send when C at on")) ≡ Err UnknownName
unfolding connector_named has_interaction atom_named place_named
an_unknown_atom_of_a_condition = refl

an_unknown_place_of_a_condition : priority_in connector_named has_interaction atom_named place_named (words_of (codes "tick < send when A at no")) ≡ Err UnknownName
unfolding connector_named has_interaction atom_named place_named
an_unknown_place_of_a_condition = refl

a_place_of_another_atom : priority_in connector_named has_interaction atom_named place_named (words_of (codes "tick < send when A at s")) ≡ Err UnknownName
unfolding connector_named has_interaction atom_named place_named
a_place_of_another_atom = refl

an_atom_before_a_word_that_is_not_at : priority_in connector_named has_interaction atom_named place_named (words_of (codes "tick < send when C in on")) ≡ Err UnknownName
unfolding connector_named has_interaction atom_named place_named
an_atom_before_a_word_that_is_not_at = refl

another_word_in_place_of_when : priority_in connector_named has_interaction atom_named place_named (words_of (codes "tick < send if A at on")) ≡ Err Shape
unfolding connector_named has_interaction atom_named place_named
another_word_in_place_of_when = refl

another_word_in_place_of_at : priority_in connector_named has_interaction atom_named place_named (words_of (codes "tick < send when A in no")) ≡ Err Shape
unfolding connector_named has_interaction atom_named place_named
another_word_in_place_of_at = refl

an_unknown_side_before_its_condition : priority_in connector_named has_interaction atom_named place_named (words_of (codes "tick < no if A at on")) ≡ Err UnknownName
unfolding connector_named has_interaction atom_named place_named
an_unknown_side_before_its_condition = refl

no_atom_after_when : priority_in connector_named has_interaction atom_named place_named (words_of (codes "tick < send when")) ≡ Err Shape
unfolding connector_named has_interaction atom_named place_named
no_atom_after_when = refl

nothing_after_the_atom : priority_in connector_named has_interaction atom_named place_named (words_of (codes "tick < send when A")) ≡ Err Shape
unfolding connector_named has_interaction atom_named place_named
nothing_after_the_atom = refl

no_place_after_at : priority_in connector_named has_interaction atom_named place_named (words_of (codes "tick < send when A at")) ≡ Err Shape
unfolding connector_named has_interaction atom_named place_named
no_place_after_at = refl

a_word_after_a_condition : priority_in connector_named has_interaction atom_named place_named (words_of (codes "tick < send when A at on x")) ≡ Err Shape
unfolding connector_named has_interaction atom_named place_named
a_word_after_a_condition = refl

an_unknown_place_before_a_word_left_over : priority_in connector_named has_interaction atom_named place_named (words_of (codes "tick < send when A at no x")) ≡ Err UnknownName
unfolding connector_named has_interaction atom_named place_named
an_unknown_place_before_a_word_left_over = refl

two_conditions : priority_in connector_named has_interaction atom_named place_named (words_of (codes "tick < send when A at on when A at off")) ≡ Err Shape
unfolding connector_named has_interaction atom_named place_named
two_conditions = refl

an_illegal_byte_in_place_of_when : priority_in connector_named has_interaction atom_named place_named (words_of (codes "tick < send when" ++ 228 ∷ codes " C at on")) ≡ Err NotAscii
unfolding connector_named has_interaction atom_named place_named
an_illegal_byte_in_place_of_when = refl

an_illegal_byte_in_a_place : priority_in connector_named has_interaction atom_named place_named (words_of (codes "tick < send when A at on" ++ 228 ∷ [])) ≡ Err NotAscii
unfolding connector_named has_interaction atom_named place_named
an_illegal_byte_in_a_place = refl

an_illegal_byte_after_an_unknown_atom : priority_in connector_named has_interaction atom_named place_named (words_of (codes "tick < send when C " ++ 228 ∷ [])) ≡ Err UnknownName
unfolding connector_named has_interaction atom_named place_named
an_illegal_byte_after_an_unknown_atom = refl

a_maximal_connector_has_no_condition : maximal_in connector_named (words_of (codes "bc when A at on")) ≡ Err Shape
unfolding connector_named
a_maximal_connector_has_no_condition = refl

-- ---- maximal connectors

a_maximal_connector : maximal_in connector_named (words_of (codes "bc")) ≡ Ok (Maximal 2)
unfolding connector_named
a_maximal_connector = refl

no_maximal_connector : maximal_in connector_named (words_of (codes "")) ≡ Err Shape
unfolding connector_named
no_maximal_connector = refl

an_unknown_maximal_connector : maximal_in connector_named (words_of (codes "no")) ≡ Err UnknownName
unfolding connector_named
an_unknown_maximal_connector = refl

one_interaction_alone_is_not_maximal : maximal_in connector_named (words_of (codes "bc:1")) ≡ Err UnknownName
unfolding connector_named
one_interaction_alone_is_not_maximal = refl

a_word_after_a_maximal_connector : maximal_in connector_named (words_of (codes "bc x")) ≡ Err Shape
unfolding connector_named
a_word_after_a_maximal_connector = refl

-- ---- limits

a_mask_has_sixteen_bits : MAX_MASK ≡ 65535
a_mask_has_sixteen_bits = refl
