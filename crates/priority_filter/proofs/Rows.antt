-- Worked examples of the definitions: connector 0 is `tick`, connector 1 is `send`, connector 2 is `stop`.
use Rattle.std.proofs.Common.{◌≡◌, ◌==◌, ◌+◌, ◌^◌, ℕ, Bool, List, [], ◌∷◌, map, filter, codes, true, false, Some, None, refl, ⊎_elim, subst, arith}
use Rattle.std.specs.FinSet.{contains}
use Rattle.std.specs.Fmt.{digits}
use Rattle.std.proofs.lemmas.Bool.{cases_eq}
use Rattle.priority_filter.specs.declared.rule.Side.TheVariants.{Whole, One}
use Rattle.priority_filter.specs.declared.rule.Rule.{Rule}
use Rattle.priority_filter.specs.declared.rule.Rule.TheVariants.{Under, UnderAt, Maximal}
use Rattle.priority_filter.specs.declared.seen.At.{At}
use Rattle.priority_filter.specs.declared.seen.Seen.{Seen}
use Rattle.priority_filter.specs.declared.fault.OrderFault.TheVariants.{Cycle, UnknownName, Memory}
use Rattle.priority_filter.specs.declared.interaction_set.TheConstants.{INTERACTION_LIMIT, ROW_WORDS}
use Rattle.priority_filter.specs.Active.{active, may_be_marked}
use Rattle.priority_filter.specs.Fault.{message_of}
use Rattle.priority_filter.specs.Members.{holds, members_of}
use Rattle.priority_filter.specs.Rule.{IsProperSubset, IsOn, Puts}
use Rattle.priority_filter.specs.Order.{interaction_at, rule_at, IsRuleStep, IsBelow, IsFirstCyclic, IsKnown, IsFirstUnknown}
use Rattle.priority_filter.specs.Decided.{is_on, is_proper_subset, puts, is_rule_step, is_below, is_overruled, order_fault}
use Rattle.priority_filter.proofs.MaskLaws.{proper_differs, proper_from_and, subset_and}
use Rattle.priority_filter.proofs.MemberLaws.{contains-members_of}

abbrev tick : ℕ × ℕ
tick = (0, 1)

abbrev send : ℕ × ℕ
send = (1, 3)

abbrev stop : ℕ × ℕ
stop = (2, 1)

abbrev plant : List (ℕ × ℕ)
plant = tick ∷ send ∷ stop ∷ []

-- tick < send, send < stop
abbrev ladder : List Rule
ladder = Under (Whole 0) (Whole 1) ∷ Under (Whole 1) (Whole 2) ∷ []

-- tick < send, send < tick
abbrev circle : List Rule
circle = Under (Whole 0) (Whole 1) ∷ Under (Whole 1) (Whole 0) ∷ []

-- ---- one rule

left_under_right : Puts (Under (Whole 0) (Whole 1)) tick send
left_under_right = (refl, refl)

right_not_under_left : ¬ Puts (Under (Whole 0) (Whole 1)) send tick
right_not_under_left puts = omega (arith, puts.0)

one_names_its_mask : IsOn (One 1 3) send
one_names_its_mask = (refl, refl)

one_names_no_other_mask : ¬ IsOn (One 1 1) send
one_names_no_other_mask on = omega (arith, on.1)

leaf_0_is_less_than_leaves_0_and_1 : IsProperSubset 1 3
leaf_0_is_less_than_leaves_0_and_1 = proper_from_and 1 3 refl (λ same. omega (arith, same))

no_mask_is_less_than_itself : ¬ IsProperSubset 3 3
no_mask_is_less_than_itself proper = proper_differs 3 3 proper refl

leaves_0_and_1_are_not_among_0_and_2 : ¬ IsProperSubset 3 5
leaves_0_and_1_are_not_among_0_and_2 proper =
    let within : ◌≡◌ {A = ℕ} 1 3 = subset_and 3 5 proper.0 in
    omega (arith, within)

maximal_puts_fewer_leaves_below : Puts (Maximal 1) (1, 1) (1, 3)
maximal_puts_fewer_leaves_below = (refl, refl, leaf_0_is_less_than_leaves_0_and_1)

maximal_stays_in_its_connector : ¬ Puts (Maximal 1) (0, 1) (1, 3)
maximal_stays_in_its_connector puts = omega (arith, puts.0)

-- ---- chains

tick_to_send : IsRuleStep ladder plant 0 1
tick_to_send = record { from = omega arith; to = omega arith; rule = 0; written = omega arith; puts = (refl, refl) }

send_to_stop : IsRuleStep ladder plant 1 2
send_to_stop = record { from = omega arith; to = omega arith; rule = 1; written = omega arith; puts = (refl, refl) }

-- no written rule speaks of tick and stop
no_step_from_tick_to_stop : ¬ IsRuleStep ladder plant 0 2
no_step_from_tick_to_stop step =
    ⊎_elim
    (λ first. let puts : Puts (rule_at ladder 0) tick stop = subst (λ k. Puts (rule_at ladder k) tick stop) first step.puts in omega (arith, puts.1))
    (λ later. let second : step.rule ≡ 1 = omega (arith, step.written) in
    let puts : Puts (rule_at ladder 1) tick stop = subst (λ k. Puts (rule_at ladder k) tick stop) second step.puts in omega (arith, puts.0))
    (cases_eq step.rule 0)

-- yet a chain leads from tick by send to stop
tick_is_below_stop : IsBelow ladder plant 0 2
tick_is_below_stop = record { stations = 1 ∷ []; chain = (tick_to_send, send_to_stop) }

-- two rules against each other put the first interaction below itself
tick_is_first_below_itself : IsFirstCyclic circle plant 0
tick_is_first_below_itself = record {
  cyclic = record {
    stations = 1 ∷ [];
    chain = (record { from = omega arith; to = omega arith; rule = 0; written = omega arith; puts = (refl, refl) }, record { from = omega arith; to = omega arith; rule = 1; written = omega arith; puts = (refl, refl) });
  };
  before = λ b earlier below. omega (arith, earlier);
}

-- a connector under itself: one step and no station
stop_under_stop : IsBelow (Under (Whole 2) (Whole 2) ∷ []) plant 2 2
stop_under_stop = record { stations = []; chain = record { from = omega arith; to = omega arith; rule = 0; written = omega arith; puts = (refl, refl) } }

-- ---- names

known_sides : IsKnown plant (Under (One 1 3) (Whole 2))
known_sides = ((1, omega arith, (refl, refl)), (2, omega arith, refl))

-- connector 3 has no interaction
unknown_connector : ¬ IsKnown plant (Maximal 3)
unknown_connector known =
    ⊎_elim
    (λ at_0. let on : ◌≡◌ {A = ℕ} 0 3 = subst (λ a. (interaction_at plant a).0 ≡ 3) at_0 known.2 in omega (arith, on))
    (λ not_0. ⊎_elim
    (λ at_1. let on : ◌≡◌ {A = ℕ} 1 3 = subst (λ a. (interaction_at plant a).0 ≡ 3) at_1 known.2 in omega (arith, on))
    (λ not_1. let at_2 : known.0 ≡ 2 = omega (arith, known.1) in
    let on : ◌≡◌ {A = ℕ} 2 3 = subst (λ a. (interaction_at plant a).0 ≡ 3) at_2 known.2 in omega (arith, on))
    (cases_eq known.0 1))
    (cases_eq known.0 0)

second_rule_is_unknown : IsFirstUnknown (Maximal 1 ∷ Maximal 3 ∷ []) plant 1
second_rule_is_unknown = record {
  within = omega arith;
  unknown = unknown_connector;
  before = λ j earlier. let first : 0 ≡ j = omega arith in subst (λ k. IsKnown plant (rule_at (Maximal 1 ∷ Maximal 3 ∷ []) k)) first (1, omega arith, refl);
}

-- ---- the computed order

-- leaf 0 alone is less than leaves 0 and 1; 0 and 1 are not less than themselves, nor among 0 and 2
computed_subsets : (is_proper_subset 1 3 ≡ true) × (is_proper_subset 3 3 ≡ false) × (is_proper_subset 3 5 ≡ false)
computed_subsets = (refl, refl, refl)

computed_sides : (is_on (Whole 1) send ≡ true) × (is_on (One 1 3) send ≡ true) × (is_on (One 1 1) send ≡ false)
computed_sides = (refl, refl, refl)

-- connectors 0 and 1 under one another; `maximal` in connector 1 alone
computed_puts : (puts (Under (Whole 0) (Whole 1)) tick send ≡ true) × (puts (Under (Whole 0) (Whole 1)) send tick ≡ false) × (puts (Maximal 1) (1, 1) (1, 3) ≡ true) × (puts (Maximal 1) (0, 1) (1, 3) ≡ false)
computed_puts = (refl, refl, refl, refl)

-- no rule speaks of tick and stop, and yet tick is below stop through send; not the other way, nor below itself
computed_ladder : (is_rule_step ladder plant 0 2 ≡ false) × (is_below ladder plant 0 2 ≡ true) × (is_below ladder plant 2 0 ≡ false) × (is_below ladder plant 0 0 ≡ false)
unfolding is_below
computed_ladder = (refl, refl, refl, refl)

-- the order in which rules are written says nothing
computed_ladder_from_above : is_below (Under (Whole 1) (Whole 2) ∷ Under (Whole 0) (Whole 1) ∷ []) plant 0 2 ≡ true
unfolding is_below
computed_ladder_from_above = refl

-- a number past the list is below nothing
computed_past : (is_below ladder plant 3 2 ≡ false) × (is_below ladder plant 0 3 ≡ false)
unfolding is_below
computed_past = (refl, refl)

-- nor is it below itself, or overruled by anything
computed_past_itself : (is_below ladder plant 3 3 ≡ false) × (is_below ladder plant 65535 0 ≡ false) × (is_overruled ladder plant (λ b. true) 3 ≡ false)
unfolding is_below is_overruled
computed_past_itself = (refl, refl, refl)

-- if no rule stands nothing is below anything
computed_no_rules : (is_below [] plant 0 1 ≡ false) × (is_below [] plant 0 2 ≡ false) × (is_below [] plant 1 2 ≡ false) × (order_fault [] plant ≡ None)
unfolding is_below order_fault
computed_no_rules = (refl, refl, refl, refl)

-- leaf 0 of a connector that is to be maximal is below leaves 0 and 1 of it
computed_maximal : (is_below (Maximal 1 ∷ []) ((1, 1) ∷ (1, 3) ∷ []) 0 1 ≡ true) × (is_below (Maximal 1 ∷ []) ((1, 1) ∷ (1, 3) ∷ []) 1 0 ≡ false)
unfolding is_below
computed_maximal = (refl, refl)

-- connector 4 of five interactions, and connector 5 of two
abbrev five_and_two : List (ℕ × ℕ)
five_and_two = (4, 1) ∷ (4, 3) ∷ (4, 5) ∷ (4, 7) ∷ (4, 15) ∷ (5, 1) ∷ (5, 3) ∷ []

-- what the rule puts each of them below
abbrev put_above : Rule → List (List (ℕ × ℕ))
put_above rule = map (λ i. filter (puts rule i) five_and_two) five_and_two

-- proper subsets alone, and those of the one connector
computed_maximal_of_five : put_above (Maximal 4) ≡ ((4, 3) ∷ (4, 5) ∷ (4, 7) ∷ (4, 15) ∷ []) ∷ ((4, 7) ∷ (4, 15) ∷ []) ∷ ((4, 7) ∷ (4, 15) ∷ []) ∷ ((4, 15) ∷ []) ∷ [] ∷ [] ∷ [] ∷ []
computed_maximal_of_five = refl

-- one interaction below a whole connector
computed_one_below_two : put_above (Under (One 4 5) (Whole 5)) ≡ [] ∷ [] ∷ ((5, 1) ∷ (5, 3) ∷ []) ∷ [] ∷ [] ∷ [] ∷ [] ∷ []
computed_one_below_two = refl

-- tick is overruled if stop is possible, with send or without; by itself it is not, and nothing overrules stop
computed_overruled : (is_overruled ladder plant (λ b. b == 2) 0 ≡ true) × (is_overruled ladder plant (λ b. b == 0) 0 ≡ false) × (is_overruled ladder plant (λ b. true) 2 ≡ false)
unfolding is_below is_overruled
computed_overruled = (refl, refl, refl)

computed_ladder_is_sound : order_fault ladder plant ≡ None
unfolding is_below order_fault
computed_ladder_is_sound = refl

-- tick and send under one another
computed_circle : order_fault circle plant ≡ Some (Cycle 0)
unfolding is_below order_fault
computed_circle = refl

-- leaf 0 of `send` is below leaves 0 and 1 of it, these are below tick, and tick is below leaf 0 of `send`
computed_circle_of_three : order_fault (Maximal 1 ∷ Under (One 1 3) (Whole 0) ∷ Under (Whole 0) (One 1 1) ∷ []) (tick ∷ (1, 1) ∷ (1, 3) ∷ []) ≡ Some (Cycle 0)
unfolding is_below order_fault
computed_circle_of_three = refl

-- without `maximal` the same two rules go round no circle
computed_without_maximal : order_fault (Under (One 1 3) (Whole 0) ∷ Under (Whole 0) (One 1 1) ∷ []) (tick ∷ (1, 1) ∷ (1, 3) ∷ []) ≡ None
unfolding is_below order_fault
computed_without_maximal = refl

-- a connector under itself
computed_stop_under_stop : order_fault (Under (Whole 2) (Whole 2) ∷ []) plant ≡ Some (Cycle 2)
unfolding is_below order_fault
computed_stop_under_stop = refl

-- connector 3 has no interaction, and an unknown name comes before a cycle
computed_unknown : (order_fault (Maximal 1 ∷ Maximal 3 ∷ []) plant ≡ Some (UnknownName 1)) × (order_fault (Under (Whole 2) (Whole 2) ∷ Under (Whole 0) (Whole 3) ∷ []) plant ≡ Some (UnknownName 1))
unfolding is_below order_fault
computed_unknown = (refl, refl)

-- an interaction below each one of its connector, and so below itself
computed_one_under_whole : order_fault (Under (One 0 3) (Whole 0) ∷ []) ((0, 1) ∷ (0, 3) ∷ []) ≡ Some (Cycle 1)
unfolding is_below order_fault
computed_one_under_whole = refl

-- a side that is no interaction, a connector that has none, and of two unknown names the first
computed_unknown_sides : (order_fault (Under (One 0 2) (Whole 0) ∷ []) ((0, 1) ∷ (0, 3) ∷ []) ≡ Some (UnknownName 0)) × (order_fault (Maximal 0 ∷ []) [] ≡ Some (UnknownName 0)) × (order_fault (Maximal 0 ∷ Maximal 8 ∷ Maximal 9 ∷ []) ((0, 1) ∷ (0, 3) ∷ []) ≡ Some (UnknownName 1))
unfolding is_below order_fault
computed_unknown_sides = (refl, refl, refl)

-- ---- rules with a condition

abbrev place : ℕ → ℕ → At
place atom number = record { atom = atom; place = number }

-- other < tick when place 0 of atom 0 is marked, of tick and other
abbrev others : List Rule
others = UnderAt (Whole 1) (Whole 0) (place 0 0) ∷ []

abbrev tick_and_other : List (ℕ × ℕ)
tick_and_other = tick ∷ (1, 1) ∷ []

-- other is below tick while the place is marked, and not else
computed_while_marked : (is_below (active (λ at. true) others) tick_and_other 1 0 ≡ true) × (is_below (active (λ at. false) others) tick_and_other 1 0 ≡ false) × (is_below (active (λ at. true) others) tick_and_other 0 1 ≡ false)
unfolding is_below
computed_while_marked = (refl, refl, refl)

-- tick < send, and send < stop while place 1 of atom 2 is marked
abbrev ladder_at : List Rule
ladder_at = Under (Whole 0) (Whole 1) ∷ UnderAt (Whole 1) (Whole 2) (place 2 1) ∷ []

-- a chain ends at a rule that does not count
computed_broken_chain : (is_below (active (λ at. true) ladder_at) plant 0 2 ≡ true) × (is_below (active (λ at. false) ladder_at) plant 0 2 ≡ false) × (is_below (active (λ at. false) ladder_at) plant 0 1 ≡ true)
unfolding is_below
computed_broken_chain = (refl, refl, refl)

-- tick is overruled by stop alone while the place is marked
computed_overruled_while_marked : (is_overruled (active (λ at. true) ladder_at) plant (λ b. b == 2) 0 ≡ true) × (is_overruled (active (λ at. false) ladder_at) plant (λ b. b == 2) 0 ≡ false)
unfolding is_below is_overruled
computed_overruled_while_marked = (refl, refl)

-- two rules that never count together are refused as a circle
computed_circle_of_conditions : order_fault (UnderAt (Whole 1) (Whole 0) (place 0 0) ∷ UnderAt (Whole 0) (Whole 1) (place 0 1) ∷ []) tick_and_other ≡ Some (Cycle 0)
unfolding is_below order_fault
computed_circle_of_conditions = refl

-- a place past a row, and an atom past all rows
computed_unknown_place : (order_fault (UnderAt (Whole 1) (Whole 0) (place 0 64) ∷ []) tick_and_other ≡ Some (UnknownName 0)) × (order_fault (UnderAt (Whole 1) (Whole 0) (place 64 0) ∷ []) tick_and_other ≡ Some (UnknownName 0)) × (order_fault (UnderAt (Whole 1) (Whole 0) (place 63 63) ∷ []) tick_and_other ≡ None)
unfolding is_below order_fault
computed_unknown_place = (refl, refl, refl)

abbrev sight : Bool → ℕ → Seen
sight known places = record { known = known; places = places }

-- atom 0 with place 0 marked, atom 1 with place 1 marked, and atom 2, of which nothing is known
abbrev three_sights : List Seen
three_sights = sight true 1 ∷ sight true 2 ∷ sight false 0 ∷ []

computed_sights : map (may_be_marked three_sights) (place 0 0 ∷ place 0 1 ∷ place 1 0 ∷ place 1 1 ∷ place 2 0 ∷ place 2 63 ∷ place 3 0 ∷ []) ≡ true ∷ false ∷ false ∷ true ∷ true ∷ true ∷ false ∷ []
computed_sights = refl

-- what the faults say
messages : (message_of (Cycle 5) ≡ codes "the rules put interaction 5 below itself") × (message_of (UnknownName 2) ≡ codes "rule 2 names no interaction of the plant") × (message_of Memory ≡ codes "out of memory")
unfolding digits
messages = (refl, refl, refl)

-- ---- bits

-- the first and the last bits of three words
ends_of_words : map (holds ((2 ^ 63 + 1) ∷ 1 ∷ 2 ^ 63 ∷ [])) (0 ∷ 1 ∷ 62 ∷ 63 ∷ 64 ∷ 65 ∷ 127 ∷ 128 ∷ 190 ∷ 191 ∷ 192 ∷ []) ≡ true ∷ false ∷ false ∷ true ∷ true ∷ false ∷ false ∷ false ∷ false ∷ true ∷ false ∷ []
ends_of_words = refl

-- bit 1 of the second word stands for interaction 65
bit_65 : contains (members_of (0 ∷ 2 ∷ [])) 65 ≡ true
bit_65 = contains-members_of (0 ∷ 2 ∷ []) 65

-- ---- limits

interactions_at_most : INTERACTION_LIMIT ≡ 1024
interactions_at_most = refl

words_of_a_set : ROW_WORDS ≡ 16
words_of_a_set = refl
