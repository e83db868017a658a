-- A worked run of a plant of two atoms, computed from the definitions.
use Rattle.std.proofs.Common.{◌≡◌, ℕ, zero, suc, ◌%◌, ◌∙◌, ap, ℤ, pos, refl, true, false, List, [], ◌∷◌, length, codes}
use Rattle.std.specs.Prelude.{Some, nat_lt, slice_get, ◌^◌, ◌-◌}
use Rattle.std.specs.Fmt.{digits}
use Rattle.std.specs.Int.{int_wrap}
use Rattle.petri_atom.specs.Expression.{number, variable, operation}
use Rattle.petri_atom.specs.Local.{Local, set_below, moved}
use Rattle.petri_atom.specs.declared.expression.Operator.TheVariants.{Add}
use Rattle.connector_tree.specs.Tree.{no_child, child, leaf}
use Rattle.connector_tree.specs.declared.tree.Port.{Port}
use Rattle.plant_model.specs.Plant.{TransferDefinition, PlantDefinition}
use Rattle.plant_model.specs.Choice.{ChoiceDefinition, interaction_by, plant_interactions, choices}
use Rattle.priority_filter.specs.Decided.{is_overruled, is_below}
use Rattle.plant_model.specs.Step.{next}
use Rattle.plant_model.specs.declared.choice.Move.{Move}
use Rattle.run_text.specs.Alone.{HasNoInputs, alone}
use Rattle.run_text.specs.Choices.{choices_after, more_text}
use Rattle.run_text.specs.Format.{stuck_text}
use Rattle.run_text.specs.Message.{message_of}
use Rattle.run_text.specs.Picks.{PickDefinition, counted, counted_picks, named, numbered_picks, random_picks}
use Rattle.run_text.specs.Runs.{refusal_of}
use Rattle.run_text.specs.Steps.{saved_in}
use Rattle.run_text.specs.Stuck.{is_by_weights}
use Rattle.run_text.specs.Taken.{fires, picked, refused, taken_as}
use Rattle.run_text.specs.Trace.{trace_in, trace_parts, trace_text}
use Rattle.run_text.specs.declared.fault.Refusal.{Refusal}
use Rattle.run_text.specs.declared.fault.RefusedPick.TheVariants.{NotPossible, PastList, TooMany}
use Rattle.run_text.specs.declared.fault.TraceFault.TheVariants.{Refused}
use Rattle.text_io.specs.declared.format.Format.TheVariants.{Lines, Csv, Jsonl}

-- port 0 of an atom
abbrev port_of : ℕ → Port
port_of atom = record { atom = atom; port = 0 }

-- `B.m := A.n`
abbrev transfers : List TransferDefinition
transfers = record { target = record { leaf = 1; export = 0 }; value = variable (record { leaf = 0; export = 0 }) } ∷ []

-- A counts in n; B remembers in m what A had counted when both last met
unfoldable pub sample : PlantDefinition
sample = record {
  atoms = record {
    name = codes "A";
    places = record { name = codes "s"; marked = true } ∷ [];
    variables = record { name = codes "n"; first = pos 0 } ∷ [];
    ports = record { name = codes "t"; exports = 0 ∷ [] } ∷ [];
    transitions = record { port = 0; sources = 0 ∷ []; targets = 0 ∷ []; guard = number (pos 1); updates = record { variable = 0; value = operation Add (variable 0) (number (pos 1)) } ∷ [] } ∷ [];
  } ∷ record {
    name = codes "B";
    places = record { name = codes "s"; marked = true } ∷ [];
    variables = record { name = codes "m"; first = pos 0 } ∷ [];
    ports = record { name = codes "u"; exports = 0 ∷ [] } ∷ [];
    transitions = record { port = 0; sources = 0 ∷ []; targets = 0 ∷ []; guard = number (pos 1); updates = [] } ∷ [];
  } ∷ [];
  wires = record { name = codes "tick"; connector = child false (leaf 0 0) no_child; guards = []; transfers = []; inputs = [] } ∷
      record { name = codes "send"; connector = child false (leaf 0 0) (child false (leaf 1 0) no_child); guards = []; transfers = transfers; inputs = [] } ∷ [];
  rules = [];
}

-- the state with these values of n and m
abbrev pub at : ℤ → ℤ → List Local
at n m = record { marking = 1; values = n ∷ [] } ∷ record { marking = 1; values = m ∷ [] } ∷ []

abbrev pub move : ℕ → Move
move atom = record { atom = atom; transition = 0 }

abbrev pub ticked : ChoiceDefinition
ticked = record { connector = 0; mask = 1; moves = move 0 ∷ [] }

abbrev pub sent : ChoiceDefinition
sent = record { connector = 1; mask = 3; moves = move 0 ∷ move 1 ∷ [] }

-- no connector of it has an input
no_inputs : HasNoInputs sample
unfolding sample
no_inputs zero = refl
no_inputs (suc zero) = refl
no_inputs (suc (suc n)) = refl

-- tick alone, and send of both
the_interactions : plant_interactions sample ≡ interaction_by 2 0 (port_of 0 ∷ []) 1 ∷ interaction_by 2 1 (port_of 0 ∷ port_of 1 ∷ []) 3 ∷ []
unfolding sample
the_interactions = refl

-- both are possible whatever the values
the_choices : (n m : ℤ) → choices sample (at n m) ≡ ticked ∷ sent ∷ []
unfolding sample is_overruled is_below
the_choices n m = refl

-- if nothing is fired any more where both are possible, it is by the weights of a random pick
pub by_weights : (n m : ℤ) → is_by_weights sample (at n m) ≡ true
by_weights n m = ap (λ cs. nat_lt 0 (length cs)) (the_choices n m)

stuck_by_weights : (n m : ℤ) → (trace_parts Lines).stuck sample (at n m) ≡ codes "stuck by weights\n"
stuck_by_weights n m = ap (stuck_text Lines) (by_weights n m)

row_of_weights : (n m : ℤ) → (trace_parts Csv).stuck sample (at n m) ≡ codes "stuck,,weights,,\n"
row_of_weights n m = ap (stuck_text Csv) (by_weights n m)

object_of_weights : (n m : ℤ) → (trace_parts Jsonl).stuck sample (at n m) ≡ codes "{\"kind\":\"stuck\",\"by\":\"weights\"}\n"
object_of_weights n m = ap (stuck_text Jsonl) (by_weights n m)

-- an even pick takes tick, and an odd one send
even_pick : (n m : ℤ) (pick : ℕ) → pick % 2 ≡ 0 → picked sample (at n m) pick ≡ Some ticked
even_pick n m pick even = ap (λ cs. slice_get cs (pick % length cs)) (the_choices n m) ∙ ap (slice_get (ticked ∷ sent ∷ [])) even

odd_pick : (n m : ℤ) (pick : ℕ) → pick % 2 ≡ 1 → picked sample (at n m) pick ≡ Some sent
odd_pick n m pick odd = ap (λ cs. slice_get cs (pick % length cs)) (the_choices n m) ∙ ap (slice_get (ticked ∷ sent ∷ [])) odd

greatest_pick : picked sample (at (pos 0) (pos 0)) 18446744073709551615 ≡ Some sent
greatest_pick = odd_pick (pos 0) (pos 0) 18446744073709551615 refl

-- send delivers the value of n from before A counts on
sent_from_one : next sample (at (pos 1) (pos 0)) (alone sent) ≡ at (pos 2) (pos 1)
unfolding sample moved set_below int_wrap
sent_from_one = refl

sent_from_three : next sample (at (pos 3) (pos 1)) (alone sent) ≡ at (pos 4) (pos 3)
unfolding sample moved set_below int_wrap
sent_from_three = refl

-- tick, send, tick, send, and the states
tick_and_send_twice : trace_text sample (0 ∷ 1 ∷ 0 ∷ 1 ∷ []) ≡ codes "1 tick A.t/0\n2 send A.t/0 B.u/0\n3 tick A.t/0\n4 send A.t/0 B.u/0\nstate A [s] n=4\nstate B [s] m=3\n"
unfolding sample digits moved set_below int_wrap is_overruled is_below
tick_and_send_twice = refl

-- what is saved of tick and send
tick_and_send_saved : saved_in sample (counted_picks (0 ∷ 1 ∷ [])) ≡ codes "tick A.t/0\nsend A.t/0 B.u/0\n"
unfolding sample digits moved set_below int_wrap is_overruled is_below
tick_and_send_saved = refl

-- numbers that are taken as they are: the second is past the list of two, and nothing is printed after tick
abbrev past_two : Refusal
past_two = record { place = 2; why = PastList 7 2 }

seven_is_past_two : refusal_of sample (numbered_picks (0 ∷ 7 ∷ [])) ≡ Some past_two
unfolding sample moved set_below int_wrap is_overruled is_below
seven_is_past_two = refl

told_up_to_seven : trace_in Lines sample (numbered_picks (0 ∷ 7 ∷ [])) ≡ codes "1 tick A.t/0\n"
unfolding sample digits moved set_below int_wrap is_overruled is_below
told_up_to_seven = refl

seven_is_told : message_of (Refused past_two) ≡ codes "2: pick 7, but there are 2 choices (0 to 1)"
unfolding digits
seven_is_told = refl

-- a pick in line 3 that names a choice
abbrev in_line_3 : ChoiceDefinition → PickDefinition
in_line_3 c = record { place = 3; take = named c }

-- send is taken; but a transition that A does not have can't be fired
send_by_its_name : trace_in Lines sample (in_line_3 sent ∷ []) ≡ codes "1 send A.t/0 B.u/0\nstate A [s] n=1\nstate B [s] m=0\n"
unfolding sample digits moved set_below int_wrap is_overruled is_below
send_by_its_name = refl

no_such_choice : refusal_of sample (in_line_3 (record { connector = 0; mask = 1; moves = record { atom = 0; transition = 1 } ∷ [] }) ∷ []) ≡ Some (record { place = 3; why = NotPossible })
unfolding sample moved set_below int_wrap is_overruled is_below
no_such_choice = refl

-- the last number that an interaction can have, and one more
last_number : taken_as sample (at (pos 0) (pos 0)) (2 ^ 64 - 1) (counted 0) ≡ fires ticked
unfolding sample is_overruled is_below
last_number = refl

one_number_more : taken_as sample (at (pos 0) (pos 0)) (2 ^ 64) (counted 0) ≡ refused TooMany
one_number_more = refl

-- after tick both can be fired, each by its number
choices_after_tick : choices_after sample (counted_picks (0 ∷ [])) ≡ codes "0 tick A.t/0\n1 send A.t/0 B.u/0\n"
unfolding sample digits moved set_below int_wrap is_overruled is_below
choices_after_tick = refl

-- three more than are listed
three_more : more_text 3 ≡ codes "more 3\n"
unfolding digits
three_more = refl

-- the first random picks of the seed 1, as the generator is published
picks_of_the_seed_1 : random_picks 1 3 ≡ 5180492295206395165 ∷ 12380297144915551517 ∷ 13389498078930870103 ∷ []
picks_of_the_seed_1 = refl
