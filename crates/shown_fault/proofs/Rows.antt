-- Worked examples of the definitions, as computed facts.
use Rattle.std.proofs.Common.{◌≡◌, ℕ, List, true, false, refl, [], ◌∷◌, codes, ◌++◌, Some, None, replicate}
use Rattle.std.specs.Prelude.{slice_get, unwrap_or}
use Rattle.std.specs.Fmt.{digits}
use Rattle.plant_words.specs.Words.{words_of}
use Rattle.shown_fault.specs.Shown.{shown, cut_to}
use Rattle.shown_fault.specs.Window.{location_line, cut_before, marked, window_lines}
use Rattle.shown_fault.specs.Names.{names_in, latest_in, part_names_in, last_line}
use Rattle.shown_fault.specs.Missing.{names_listed}
use Rattle.shown_fault.specs.Operands.{operands_of, lacks, lacking_in}
use Rattle.shown_fault.specs.Spelling.{stuck_text, word_text, name_text}
use Rattle.shown_fault.specs.Wanted.{places_of, wanted_in}
use Rattle.shown_fault.specs.declared.condition.TheConstants.{ATOM_OF_CONDITION}
use Rattle.shown_fault.specs.declared.wanted.Wanted.TheVariants.{First, NewName, Mark, From, Place, Source, Target, Guard, Variable, Assign, Value, Tree, Leaf, Clause, Side, Below, When, ConditionAtom, ConditionAt, ConditionPlace, End}
use Rattle.shown_fault.specs.Order.{guard_text}
use Rattle.shown_fault.specs.RuleSign.{turned_line, turned_advice, sign_advice}
use Rattle.shown_fault.specs.Circle.{reached, takes_part, has_conditions}

-- ---- bytes

a_tab_and_a_bell : shown (97 ∷ 9 ∷ 7 ∷ []) ≡ codes "a \\x07"
a_tab_and_a_bell = refl

six_do_not_fit : cut_to 5 (codes "abcdef") ≡ codes "ab..."
six_do_not_fit = refl

five_fit : cut_to 5 (codes "abcde") ≡ codes "abcde"
five_fit = refl

-- ---- where a fault stands

a_column : location_line (codes "conveyor.plant") 4 19 ≡ codes "  conveyor.plant:4:19\n"
unfolding digits
a_column = refl

a_hundred_are_not_cut : cut_before 100 90 ≡ 0
a_hundred_are_not_cut = refl

twenty_stay_before_the_part : cut_before 200 90 ≡ 70
twenty_stay_before_the_part = refl

the_window_is_filled : cut_before 120 110 ≡ 23
the_window_is_filled = refl

three_are_not_worth_their_dots : cut_before 200 23 ≡ 0
three_are_not_worth_their_dots = refl

four_are : cut_before 200 24 ≡ 4
four_are = refl

a_word_at_the_end : window_lines (codes "trans p from s to q") 18 1 ≡ codes "  trans p from s to q\n                    ^ "
a_word_at_the_end = refl

no_word_at_the_end : window_lines (codes "atom") 4 0 ≡ codes "  atom\n      ^ "
no_word_at_the_end = refl

-- 24 before the part, so that 4 are cut off, and 80 after it
cut_at_both_ends : marked (replicate 24 120 ++ codes "q" ++ replicate 80 121) 24 1 ≡
    codes "  ..." ++ replicate 20 120 ++ codes "q" ++ replicate 73 121 ++ codes "...\n  " ++ replicate 23 32 ++ codes "^ "
cut_at_both_ends = refl

-- ---- what has to stand there

abbrev lines : List (List ℕ)
lines =
    codes "atom A" ∷ codes "place s init" ∷ codes "var n 0" ∷ codes "port t n" ∷ codes "atom B" ∷ codes "place r" ∷ codes "connector c A.t" ∷
    codes "place s" ∷ []

no_word : wanted_in (words_of (codes " ")) ≡ First
unfolding wanted_in places_of
no_word = refl

a_name : wanted_in (words_of (codes "place")) ≡ NewName
unfolding wanted_in places_of
a_name = refl

a_mark : wanted_in (words_of (codes "place s ")) ≡ Mark
unfolding wanted_in places_of
a_mark = refl

from_there : wanted_in (words_of (codes "trans t")) ≡ From
unfolding wanted_in places_of
from_there = refl

a_first_source : wanted_in (words_of (codes "trans t from")) ≡ Place
unfolding wanted_in places_of
a_first_source = refl

a_second_source : wanted_in (words_of (codes "trans t from s")) ≡ Source
unfolding wanted_in places_of
a_second_source = refl

a_second_target : wanted_in (words_of (codes "trans t from s to r")) ≡ Target
unfolding wanted_in places_of
a_second_target = refl

a_guard : wanted_in (words_of (codes "trans t from s to r when < n")) ≡ Guard
unfolding wanted_in places_of
a_guard = refl

an_update : wanted_in (words_of (codes "trans t from s to r do n := 1 ;")) ≡ Variable
unfolding wanted_in places_of
an_update = refl

a_sign : wanted_in (words_of (codes "trans t from s to r do n := 1 ; m")) ≡ Assign
unfolding wanted_in places_of
a_sign = refl

a_value : wanted_in (words_of (codes "trans t from s to r do n :=")) ≡ Value
unfolding wanted_in places_of
a_value = refl

a_tree : wanted_in (words_of (codes "connector c")) ≡ Tree
unfolding wanted_in places_of
a_tree = refl

a_leaf : wanted_in (words_of (codes "connector c [")) ≡ Leaf
unfolding wanted_in places_of
a_leaf = refl

a_clause : wanted_in (words_of (codes "move A.n :=")) ≡ Clause
unfolding wanted_in places_of
a_clause = refl

a_left_side : wanted_in (words_of (codes "prio")) ≡ Side
unfolding wanted_in places_of
a_left_side = refl

below : wanted_in (words_of (codes "prio c")) ≡ Below
unfolding wanted_in places_of
below = refl

a_right_side : wanted_in (words_of (codes "prio c <")) ≡ Side
unfolding wanted_in places_of
a_right_side = refl

a_condition : wanted_in (words_of (codes "prio c < d")) ≡ When
unfolding wanted_in places_of
a_condition = refl

an_atom_of_a_condition : wanted_in (words_of (codes "prio c < d when")) ≡ ConditionAtom
unfolding wanted_in places_of
an_atom_of_a_condition = refl

at_there : wanted_in (words_of (codes "prio c < d when A")) ≡ ConditionAt
unfolding wanted_in places_of
at_there = refl

a_place_of_a_condition : wanted_in (words_of (codes "prio c < d when A at")) ≡ ConditionPlace
unfolding wanted_in places_of
a_place_of_a_condition = refl

nothing_more : wanted_in (words_of (codes "prio c < d when A at s")) ≡ End
unfolding wanted_in places_of
nothing_more = refl

-- ---- words

a_comment : word_text (codes "#x") ≡ codes "nothing more may follow; a comment needs a line of its own"
unfolding word_text stuck_text
a_comment = refl

a_sign_that_is_stuck : word_text (codes "n:=") ≡ codes "put spaces round ':='"
unfolding word_text stuck_text
a_sign_that_is_stuck = refl

a_sign_alone : word_text (codes "<=") ≡ []
unfolding word_text stuck_text
a_sign_alone = refl

a_name_of_a_digit : name_text (codes "1A") ≡ codes "a name begins with a letter"
unfolding name_text
a_name_of_a_digit = refl

a_reserved_name : name_text (codes "at") ≡ codes "the word is reserved, one of: from, to, when, do, init, at, min, max"
unfolding name_text
a_reserved_name = refl

a_guard_behind : guard_text (words_of (codes "trans t from s to s do n := 1")) (codes "when") ≡ codes "'when' comes before 'do': the guard stands before the updates"
unfolding guard_text
a_guard_behind = refl

a_guard_before : guard_text (words_of (codes "trans t from s")) (codes "when") ≡ []
unfolding guard_text
a_guard_before = refl

-- ---- operands

one_is_too_few : lacks 2 (codes "n" ∷ []) ≡ true
unfolding operands_of
one_is_too_few = refl

an_operand_with_operands : lacks 2 (codes "n" ∷ codes "!" ∷ codes "m" ∷ []) ≡ false
unfolding operands_of
an_operand_with_operands = refl

the_inner_operator : lacking_in (words_of (codes "+ n * 2")) ≡ Some (codes "*")
unfolding operands_of
the_inner_operator = refl

the_outer_operator : lacking_in (words_of (codes "+ * n 2")) ≡ Some (codes "+")
unfolding operands_of
the_outer_operator = refl

no_operator : lacking_in (words_of (codes "+ n 2")) ≡ None
unfolding operands_of
no_operator = refl

-- ---- a rule with another sign

the_sides_change_places : sign_advice (words_of (codes "prio c > d:1  when A at s")) (codes ">") ≡ codes "  write 'prio d:1 < c when A at s'\n"
unfolding turned_advice turned_line
the_sides_change_places = refl

no_right_side : sign_advice (words_of (codes "prio c >")) (codes ">") ≡ []
unfolding turned_advice turned_line
no_right_side = refl

two_left_sides : sign_advice (words_of (codes "prio a b < c")) (codes "b") ≡ codes "  a side of a rule is one connector: write one rule a line\n"
unfolding turned_advice turned_line
two_left_sides = refl

no_sign : sign_advice (words_of (codes "prio a b")) (codes "b") ≡ []
unfolding turned_advice turned_line
no_sign = refl

-- ---- names

two_atoms : names_in (codes "atom") lines ≡ codes "A" ∷ codes "B" ∷ []
two_atoms = refl

the_latest_atom : latest_in (codes "atom") lines ≡ codes "B"
the_latest_atom = refl

places_of_the_first : part_names_in (codes "A") (codes "place") lines ≡ codes "s" ∷ []
places_of_the_first = refl

places_of_the_second : part_names_in (codes "B") (codes "place") lines ≡ codes "r" ∷ codes "s" ∷ []
places_of_the_second = refl

the_last_line_counts : last_line (codes "place") (codes "s") lines ≡ Some 8
the_last_line_counts = refl

no_such_line : last_line (codes "port") (codes "s") lines ≡ None
no_such_line = refl

none_listed : names_listed [] ≡ codes " none"
none_listed = refl

eight_listed : names_listed (replicate 9 (codes "p")) ≡ codes ": p, p, p, p, p, p, p, p, .."
eight_listed = refl

-- the places are those of the atom that the rule names, and not of the latest
a_place_of_another_atom : part_names_in (unwrap_or (slice_get (words_of (codes "prio c < d when A at")) ATOM_OF_CONDITION) []) (codes "place") lines ≡ codes "s" ∷ []
a_place_of_another_atom = refl

-- ---- rules that lead round

abbrev rules : List (List ℕ)
rules = codes "prio b:1 < c" ∷ codes "prio a < b:2" ∷ codes "prio c < a" ∷ codes "prio d < a" ∷ codes "maximal b" ∷ []

above_a : reached 2 true (codes "a" ∷ []) rules ≡ codes "a" ∷ codes "b" ∷ codes "c" ∷ []
above_a = refl

below_a : reached 2 false (codes "a" ∷ []) rules ≡ codes "a" ∷ codes "c" ∷ codes "d" ∷ codes "b" ∷ []
below_a = refl

a_rule_of_the_circle : takes_part (codes "a" ∷ codes "b" ∷ []) (codes "a" ∷ codes "c" ∷ []) (codes "prio b < c:1") ≡ true
a_rule_of_the_circle = refl

a_rule_from_below : takes_part (codes "a" ∷ codes "b" ∷ []) (codes "a" ∷ codes "d" ∷ []) (codes "prio d < a") ≡ false
a_rule_from_below = refl

a_rule_of_the_circle_with_a_condition : has_conditions (codes "a" ∷ []) (codes "a" ∷ []) (codes "prio a < a" ∷ codes "prio a < a when A at s" ∷ []) ≡ true
a_rule_of_the_circle_with_a_condition = refl

a_condition_of_another_rule : has_conditions (codes "a" ∷ []) (codes "a" ∷ []) (codes "prio a < a" ∷ codes "prio b < a when A at s" ∷ []) ≡ false
a_condition_of_another_rule = refl
