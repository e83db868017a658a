-- Worked examples of the definitions, as computed facts.
use Rattle.std.proofs.Common.{◌≡◌, ℕ, ℤ, ◌-◌, ◌^◌, pos, negsuc, true, false, refl, List, [], ◌∷◌, map, replicate, Some, None, codes}
use Rattle.std.specs.Int.{int_wrap}
use Rattle.petri_atom.specs.Expression.{Tree, number, variable, negation, operation, operated, value_of, word_count}
use Rattle.petri_atom.specs.Local.{set_below, moved, value_in, has, Row, mask_of, row_in, given}
use Rattle.petri_atom.specs.Name.{is_name}
use Rattle.petri_atom.specs.Definition.{TransitionDefinition, UpdateDefinition, AtomDefinition, can_move, offers, offers_port, offered_set, enabled, fired_by, delivered_to, fault_of, numbers_of, first_from}
use Rattle.petri_atom.specs.declared.expression.Operator.TheVariants.{Add, Subtract, Multiply, Min, Max, Less, LessOrEqual, Equal, NotEqual, And, Or}
use Rattle.petri_atom.specs.declared.fault.AtomFault.TheVariants.{Limit, Twice, Unknown, NoPlace}
use Rattle.petri_atom.specs.declared.state.TheConstants.{MAX_PLACES, MAX_VARIABLES, MAX_EXPORTS}
use Rattle.petri_atom.specs.declared.parts.TheConstants.{MAX_PORTS, MAX_TRANSITIONS, MAX_UPDATES, MAX_WORDS}
use Rattle.petri_atom.specs.declared.name.TheConstants.{MAX_NAME}

-- the guard `&& < n 10 ! == n 3`: n is below 10 and not 3
below_ten_and_not_three : Tree ℕ
below_ten_and_not_three =
    operation And (operation Less (variable 0) (number (pos 10))) (negation (operation Equal (variable 0) (number (pos 3))))

guard_at_three : value_of (value_in (pos 3 ∷ [])) below_ten_and_not_three ≡ pos 0
unfolding below_ten_and_not_three
guard_at_three = refl

guard_at_four : value_of (value_in (pos 4 ∷ [])) below_ten_and_not_three ≡ pos 1
unfolding below_ten_and_not_three
guard_at_four = refl

guard_at_ten : value_of (value_in (pos 10 ∷ [])) below_ten_and_not_three ≡ pos 0
unfolding below_ten_and_not_three
guard_at_ten = refl

words_of_the_guard : word_count below_ten_and_not_three ≡ 8
unfolding below_ten_and_not_three
words_of_the_guard = refl

-- the largest number plus 1 is the smallest one, and back
wraps_up : operated Add (pos (2 ^ 63 - 1)) (pos 1) ≡ negsuc (2 ^ 63 - 1)
unfolding int_wrap
wraps_up = refl

wraps_down : operated Subtract (negsuc (2 ^ 63 - 1)) (pos 1) ≡ pos (2 ^ 63 - 1)
unfolding int_wrap
wraps_down = refl

wraps_in_a_product : operated Multiply (pos (2 ^ 63 - 1)) (pos 2) ≡ negsuc 1
unfolding int_wrap
wraps_in_a_product = refl

-- any value but 0 is true
or_of_a_negative : operated Or (pos 0) (negsuc 2) ≡ pos 1
or_of_a_negative = refl

-- negsuc n is the number -1 - n
sums : (operated Add (pos 2) (pos 3) ≡ pos 5) × (operated Add (negsuc (2 ^ 63 - 1)) (negsuc 0) ≡ pos (2 ^ 63 - 1)) × (operated Subtract (pos 2) (pos 3) ≡ negsuc 0) × (operated Subtract (pos (2 ^ 63 - 1)) (negsuc 0) ≡ negsuc (2 ^ 63 - 1))
unfolding int_wrap
sums = (refl, refl, refl, refl)

products : (operated Multiply (negsuc 3) (pos 3) ≡ negsuc 11) × (operated Multiply (negsuc (2 ^ 63 - 1)) (negsuc 0) ≡ negsuc (2 ^ 63 - 1))
unfolding int_wrap
products = (refl, refl)

smaller_and_larger : (operated Min (negsuc 3) (pos 3) ≡ negsuc 3) × (operated Min (pos 4) (pos 3) ≡ pos 3) × (operated Max (negsuc 3) (pos 3) ≡ pos 3) × (operated Max (pos 4) (pos 3) ≡ pos 4)
smaller_and_larger = (refl, refl, refl, refl)

-- 1 for true and 0 for false
compared : (operated Less (pos 2) (pos 3) ≡ pos 1) × (operated Less (pos 3) (pos 3) ≡ pos 0) × (operated Less (negsuc 0) (pos 0) ≡ pos 1) × (operated LessOrEqual (pos 3) (pos 3) ≡ pos 1) × (operated LessOrEqual (pos 4) (pos 3) ≡ pos 0)
compared = (refl, refl, refl, refl, refl)

equal_or_not : (operated Equal (pos 3) (pos 3) ≡ pos 1) × (operated Equal (pos 3) (negsuc 2) ≡ pos 0) × (operated NotEqual (pos 3) (pos 3) ≡ pos 0) × (operated NotEqual (pos 3) (negsuc 2) ≡ pos 1)
equal_or_not = (refl, refl, refl, refl)

both_or_one : (operated And (pos 2) (negsuc 2) ≡ pos 1) × (operated And (pos 2) (pos 0) ≡ pos 0) × (operated And (pos 0) (pos 0) ≡ pos 0) × (operated Or (pos 0) (pos 0) ≡ pos 0)
both_or_one = (refl, refl, refl, refl)

-- `!` with one operand
abbrev negated : ℤ → Tree ℕ
negated z = negation (number z)

negations : (value_of (value_in []) (negated (pos 0)) ≡ pos 1) × (value_of (value_in []) (negated (pos 1)) ≡ pos 0) × (value_of (value_in []) (negated (negsuc 6)) ≡ pos 0) × (word_count (negated (pos 0)) ≡ 2)
negations = (refl, refl, refl, refl)

-- nothing is delivered
nothing : Row
nothing = replicate 4 None

-- a transition of a port from one place to one other, with a number for its guard
abbrev between : ℕ → ℕ → ℕ → ℤ → List UpdateDefinition → TransitionDefinition
between source target port guard updates = record {
  port = port;
  sources = source ∷ [];
  targets = target ∷ [];
  guard = number guard;
  updates = updates;
}

-- a transition that stays at its place and counts: `trans t from s to s do n := + n 1`
count : TransitionDefinition
count = between 0 0 0 (pos 1) (record { variable = 0; value = operation Add (variable 0) (number (pos 1)) } ∷ [])

-- a transition from place 0 to place 1
move : TransitionDefinition
move = between 0 1 0 (pos 1) []

a_place_that_is_source_and_target_stays : offers (record { marking = 1; values = pos 0 ∷ [] }) count ≡ true
unfolding count
a_place_that_is_source_and_target_stays = refl

a_marked_target_blocks : can_move 3 move ≡ false
unfolding move
a_marked_target_blocks = refl

an_unmarked_source_blocks : can_move 2 move ≡ false
unfolding move
an_unmarked_source_blocks = refl

a_free_target_does_not_block : can_move 1 move ≡ true
unfolding move
a_free_target_does_not_block = refl

the_token_moves : moved 1 (0 ∷ []) (1 ∷ []) ≡ 2
unfolding moved set_below
the_token_moves = refl

counted_once : fired_by count (0 ∷ []) nothing (record { marking = 1; values = pos 0 ∷ [] }) ≡ record { marking = 1; values = pos 1 ∷ [] }
unfolding count nothing moved set_below int_wrap
counted_once = refl

-- what is delivered comes before the updates
counted_from_what_is_delivered : fired_by count (0 ∷ []) (Some (pos 41) ∷ []) (record { marking = 1; values = pos 0 ∷ [] }) ≡ record { marking = 1; values = pos 42 ∷ [] }
unfolding count moved set_below int_wrap
counted_from_what_is_delivered = refl

-- the least number that is not before another
first_from_two : first_from 2 (0 ∷ 1 ∷ 3 ∷ 4 ∷ []) ≡ Some 3
first_from_two = refl

first_from_five : first_from 5 (0 ∷ 1 ∷ 3 ∷ 4 ∷ []) ≡ None
first_from_five = refl

numbers_by_port : numbers_of 0 (count ∷ move ∷ []) ≡ 0 ∷ 1 ∷ []
unfolding count move
numbers_by_port = refl

-- ---- the transitions of a port

-- a transition of a port that stays at its place, with a number for its guard
abbrev staying : ℕ → ℤ → TransitionDefinition
staying port guard = between 0 0 port guard []

-- an atom A with the place p, the variable a, and the ports t, which exports it, and u
abbrev atom_of : List TransitionDefinition → AtomDefinition
atom_of transitions = record {
  name = codes "A";
  places = record { name = codes "p"; marked = true } ∷ [];
  variables = record { name = codes "a"; first = pos 0 } ∷ [];
  ports = record { name = codes "t"; exports = 0 ∷ [] } ∷ record { name = codes "u"; exports = [] } ∷ [];
  transitions = transitions;
}

-- four transitions of port 0, of which the second is never offered
four : AtomDefinition
four = atom_of (staying 0 (pos 1) ∷ staying 0 (pos 0) ∷ staying 0 (pos 1) ∷ staying 0 (pos 1) ∷ [])

offered_of_four : enabled four (record { marking = 1; values = pos 0 ∷ [] }) 0 ≡ 0 ∷ 2 ∷ 3 ∷ []
unfolding four
offered_of_four = refl

-- the same as a set: bits 0, 2 and 3
set_of_four : (offered_set four (record { marking = 1; values = pos 0 ∷ [] }) ≡ 13) × (map (has 13) (0 ∷ 1 ∷ 2 ∷ 3 ∷ 4 ∷ 128 ∷ []) ≡ true ∷ false ∷ true ∷ true ∷ false ∷ false ∷ []) × (has 0 0 ≡ false)
unfolding four set_below
set_of_four = (refl, refl, refl)

first_of_four : map (λ low. first_from low (0 ∷ 2 ∷ 3 ∷ [])) (0 ∷ 1 ∷ 2 ∷ 3 ∷ 4 ∷ 65535 ∷ []) ≡ Some 0 ∷ Some 2 ∷ Some 2 ∷ Some 3 ∷ None ∷ None ∷ []
first_of_four = refl

-- port 1 has no transition, and port 2 is not there
other_ports_of_four : map (offers_port four (record { marking = 1; values = pos 0 ∷ [] })) (0 ∷ 1 ∷ 2 ∷ []) ≡ true ∷ false ∷ false ∷ []
unfolding four
other_ports_of_four = refl

-- if the place is not marked nothing is offered
none_of_four : offers_port four (record { marking = 0; values = pos 0 ∷ [] }) 0 ≡ false
unfolding four
none_of_four = refl

-- transitions of two ports in turn, of which the third is never offered
in_turn : AtomDefinition
in_turn = atom_of (staying 0 (pos 1) ∷ staying 1 (pos 1) ∷ staying 0 (pos 0) ∷ staying 1 (pos 1) ∷ staying 0 (pos 1) ∷ [])

offered_in_turn : map (enabled in_turn (record { marking = 1; values = pos 0 ∷ [] })) (0 ∷ 1 ∷ 2 ∷ []) ≡ (0 ∷ 4 ∷ []) ∷ (1 ∷ 3 ∷ []) ∷ [] ∷ []
unfolding in_turn
offered_in_turn = refl

-- ---- what is delivered

-- a port exports variables 3, 1, 0 and 2, and gets these
abbrev delivered_with : Row → List ℤ
delivered_with row = delivered_to row 0 (3 ∷ 1 ∷ 0 ∷ 2 ∷ []) (pos 7 ∷ pos 7 ∷ pos 7 ∷ pos 7 ∷ [])

values_at_their_variables : (delivered_with (None ∷ None ∷ None ∷ None ∷ []) ≡ pos 7 ∷ pos 7 ∷ pos 7 ∷ pos 7 ∷ []) × (delivered_with (Some (pos 10) ∷ None ∷ None ∷ None ∷ []) ≡ pos 7 ∷ pos 7 ∷ pos 7 ∷ pos 10 ∷ []) × (delivered_with (None ∷ Some (pos 20) ∷ None ∷ Some (pos 40) ∷ []) ≡ pos 7 ∷ pos 20 ∷ pos 40 ∷ pos 7 ∷ []) × (delivered_with (Some (pos 10) ∷ Some (pos 20) ∷ Some (pos 30) ∷ Some (pos 40) ∷ []) ≡ pos 30 ∷ pos 20 ∷ pos 40 ∷ pos 10 ∷ [])
values_at_their_variables = (refl, refl, refl, refl)

-- bit k of the mask is of the value at place k, and a fifth bit of none
kept_values : (row_in 10 (pos 0 ∷ pos 20 ∷ pos 0 ∷ pos 40 ∷ []) ≡ None ∷ Some (pos 20) ∷ None ∷ Some (pos 40) ∷ []) × (row_in 16 (pos 1 ∷ pos 2 ∷ pos 3 ∷ pos 4 ∷ []) ≡ None ∷ None ∷ None ∷ None ∷ []) × (mask_of (None ∷ Some (pos 20) ∷ None ∷ Some (pos 40) ∷ []) ≡ 10)
unfolding set_below
kept_values = (refl, refl, refl)

-- the first value stays, and there is no fifth
given_once : (given 1 (pos 5) (None ∷ None ∷ None ∷ None ∷ []) ≡ None ∷ Some (pos 5) ∷ None ∷ None ∷ []) × (given 1 (pos 6) (None ∷ Some (pos 5) ∷ None ∷ None ∷ []) ≡ None ∷ Some (pos 5) ∷ None ∷ None ∷ []) × (given 4 (pos 5) (None ∷ None ∷ None ∷ None ∷ []) ≡ None ∷ None ∷ None ∷ None ∷ [])
given_once = (refl, refl, refl)

-- `trans t from p to q do b := a ; a := + a 1`: b gets what was delivered to a, and then a is one more
hand_on : TransitionDefinition
hand_on = record {
  port = 0;
  sources = 0 ∷ [];
  targets = 1 ∷ [];
  guard = number (pos 1);
  updates = record { variable = 1; value = variable 0 } ∷ record { variable = 0; value = operation Add (variable 0) (number (pos 1)) } ∷ [];
}

updates_in_order : fired_by hand_on (0 ∷ []) (Some (pos 10) ∷ []) (record { marking = 1; values = pos 3 ∷ pos 0 ∷ [] }) ≡ record { marking = 2; values = pos 11 ∷ pos 10 ∷ [] }
unfolding hand_on moved set_below int_wrap
updates_in_order = refl

-- ---- faults

-- a transition with these sources and targets whose guard is a variable
abbrev guarded : List ℕ → List ℕ → ℕ → TransitionDefinition
guarded sources targets guard = record {
  port = 0;
  sources = sources;
  targets = targets;
  guard = variable guard;
  updates = [];
}

sound_transition : fault_of (atom_of (guarded (0 ∷ []) (0 ∷ []) 0 ∷ [])) ≡ None
sound_transition = refl

place_twice : (fault_of (atom_of (guarded (0 ∷ 0 ∷ []) (0 ∷ []) 0 ∷ [])) ≡ Some Twice) × (fault_of (atom_of (guarded (0 ∷ []) (0 ∷ 0 ∷ []) 0 ∷ [])) ≡ Some Twice)
place_twice = (refl, refl)

no_place : (fault_of (atom_of (guarded [] (0 ∷ []) 0 ∷ [])) ≡ Some NoPlace) × (fault_of (atom_of (guarded (0 ∷ []) [] 0 ∷ [])) ≡ Some NoPlace)
no_place = (refl, refl)

-- variable 1, and place 1
not_there : (fault_of (atom_of (guarded (0 ∷ []) (0 ∷ []) 1 ∷ [])) ≡ Some Unknown) × (fault_of (atom_of (guarded (0 ∷ []) (1 ∷ []) 0 ∷ [])) ≡ Some Unknown)
not_there = (refl, refl)

-- twice before what is not there, and that before a place that is missing
first_of_two_faults : (fault_of (atom_of (guarded (0 ∷ 0 ∷ []) (0 ∷ []) 1 ∷ [])) ≡ Some Twice) × (fault_of (atom_of (guarded [] (0 ∷ []) 1 ∷ [])) ≡ Some Unknown)
first_of_two_faults = (refl, refl)

-- one transition more than an atom may have
transition_too_many : (fault_of (atom_of (replicate 128 (guarded (0 ∷ []) (0 ∷ []) 0))) ≡ None) × (fault_of (atom_of (replicate 129 (guarded (0 ∷ []) (0 ∷ []) 0))) ≡ Some Limit)
transition_too_many = (refl, refl)

-- ---- names

names : map is_name (codes "a" ∷ codes "Valve_2" ∷ codes "tot" ∷ replicate 32 97 ∷ []) ≡ true ∷ true ∷ true ∷ true ∷ []
names = refl

-- nothing, one byte too many, another first byte than a letter, and another byte than a letter, a digit or `_`
no_names : map is_name ([] ∷ replicate 33 97 ∷ codes "2a" ∷ codes "_a" ∷ codes "a-b" ∷ codes "a.b" ∷ []) ≡ false ∷ false ∷ false ∷ false ∷ false ∷ false ∷ []
no_names = refl

reserved : map is_name (codes "from" ∷ codes "to" ∷ codes "when" ∷ codes "do" ∷ codes "init" ∷ codes "at" ∷ codes "min" ∷ codes "max" ∷ []) ≡ replicate 8 false
reserved = refl

-- ---- limits

a_marking_has_64_places : MAX_PLACES ≡ 64
a_marking_has_64_places = refl

sixteen_variables_at_most : MAX_VARIABLES ≡ 16
sixteen_variables_at_most = refl

four_exports_at_most : MAX_EXPORTS ≡ 4
four_exports_at_most = refl

thirty_two_ports_at_most : MAX_PORTS ≡ 32
thirty_two_ports_at_most = refl

one_hundred_and_twenty_eight_transitions_at_most : MAX_TRANSITIONS ≡ 128
one_hundred_and_twenty_eight_transitions_at_most = refl

updates_at_most : MAX_UPDATES ≡ 16
updates_at_most = refl

words_at_most : MAX_WORDS ≡ 64
words_at_most = refl

bytes_of_a_name_at_most : MAX_NAME ≡ 32
bytes_of_a_name_at_most = refl
