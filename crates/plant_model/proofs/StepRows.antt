-- Worked steps of a plant of two atoms, as computed facts of the definitions.
use Rattle.std.proofs.Common.{◌≡◌, ℕ, ℤ, pos, refl, true, false, List, [], ◌∷◌, Some, None}
use Rattle.std.specs.Int.{int_wrap}
use Rattle.petri_atom.specs.Expression.{Tree, number, variable, operation}
use Rattle.petri_atom.specs.Local.{Local, Row, set_below, moved}
use Rattle.petri_atom.specs.Definition.{AtomDefinition}
use Rattle.petri_atom.specs.declared.expression.Operator.TheVariants.{Add, Less}
use Rattle.connector_tree.specs.declared.tree.Port.{Port}
use Rattle.plant_model.specs.Plant.{TransferDefinition}
use Rattle.plant_model.specs.Exports.{guards_hold}
use Rattle.plant_model.specs.declared.wire.Export.{Export}
use Rattle.plant_model.specs.Step.{delivered_by, nothing_delivered, stepped_from}
use Rattle.plant_model.specs.declared.choice.Move.{Move}

abbrev move : ℕ → Move
move atom = record { atom = atom; transition = 0 }

-- A counts on with each firing of its port, which exports n
counts : AtomDefinition
counts = record {
  name = [];
  places = [];
  variables = [];
  ports = record { name = []; exports = 0 ∷ [] } ∷ [];
  transitions = record { port = 0; sources = 0 ∷ []; targets = 0 ∷ []; guard = number (pos 1); updates = record { variable = 0; value = operation Add (variable 0) (number (pos 1)) } ∷ [] } ∷ [];
}

-- B holds what it is given, in m
holds : AtomDefinition
holds = record {
  name = [];
  places = [];
  variables = [];
  ports = record { name = []; exports = 0 ∷ [] } ∷ [];
  transitions = record { port = 0; sources = 0 ∷ []; targets = 0 ∷ []; guard = number (pos 1); updates = [] } ∷ [];
}

sample : List AtomDefinition
sample = counts ∷ holds ∷ []

-- the state with these values of n and m
abbrev at : ℤ → ℤ → List Local
at n m = record { marking = 1; values = n ∷ [] } ∷ record { marking = 1; values = m ∷ [] } ∷ []

-- the leaves of `send A.t B.u`, and its transfer `B.m := A.n`
abbrev send_leaves : List Port
send_leaves = record { atom = 0; port = 0 } ∷ record { atom = 1; port = 0 } ∷ []

abbrev send_transfers : List TransferDefinition
send_transfers = record { target = record { leaf = 1; export = 0 }; value = variable (record { leaf = 0; export = 0 }) } ∷ []

abbrev sent : List Local → ℕ → Row
sent states = delivered_by sample states send_leaves send_transfers 3

-- tick, then send: B gets the value from before A counts on
tick_from_the_start : stepped_from sample (move 0 ∷ []) (λ atom. nothing_delivered) 0 (at (pos 0) (pos 0)) ≡ at (pos 1) (pos 0)
unfolding sample counts holds moved set_below int_wrap
tick_from_the_start = refl

send_after_a_tick : stepped_from sample (move 0 ∷ move 1 ∷ []) (sent (at (pos 1) (pos 0))) 0 (at (pos 1) (pos 0)) ≡ at (pos 2) (pos 1)
unfolding sample counts holds moved set_below int_wrap
send_after_a_tick = refl

send_after_three : stepped_from sample (move 0 ∷ move 1 ∷ []) (sent (at (pos 3) (pos 1))) 0 (at (pos 3) (pos 1)) ≡ at (pos 4) (pos 3)
unfolding sample counts holds moved set_below int_wrap
send_after_three = refl

-- the order of the moves says nothing, since each delivers from the state before
send_the_other_way_round : stepped_from sample (move 1 ∷ move 0 ∷ []) (sent (at (pos 1) (pos 0))) 0 (at (pos 1) (pos 0)) ≡ at (pos 2) (pos 1)
unfolding sample counts holds moved set_below int_wrap
send_the_other_way_round = refl

-- what is delivered: to B the value 1, to A nothing; and nothing to B where A does not take part
delivered_to_the_holder : sent (at (pos 1) (pos 0)) 1 ≡ Some (pos 1) ∷ None ∷ None ∷ None ∷ []
unfolding sample counts holds set_below
delivered_to_the_holder = refl

delivered_to_the_counter : sent (at (pos 1) (pos 0)) 0 ≡ nothing_delivered
unfolding sample counts holds set_below
delivered_to_the_counter = refl

delivered_without_the_counter : delivered_by sample (at (pos 1) (pos 0)) send_leaves send_transfers 2 1 ≡ nothing_delivered
unfolding sample counts holds set_below
delivered_without_the_counter = refl

-- the guard `< A.n 2` of `send`, at n = 1 and at n = 2; it does not apply where A takes no part, and one that names nothing always does
abbrev below_two : List (Tree Export)
below_two = operation Less (variable (record { leaf = 0; export = 0 })) (number (pos 2)) ∷ []

guarded_at_one : guards_hold sample (at (pos 1) (pos 0)) send_leaves 3 below_two ≡ true
unfolding sample counts holds
guarded_at_one = refl

guarded_at_two : guards_hold sample (at (pos 2) (pos 1)) send_leaves 3 below_two ≡ false
unfolding sample counts holds
guarded_at_two = refl

guard_of_who_stays_away : guards_hold sample (at (pos 2) (pos 1)) send_leaves 2 below_two ≡ true
unfolding sample counts holds
guard_of_who_stays_away = refl

guard_of_nobody : guards_hold sample (at (pos 1) (pos 0)) send_leaves 2 (number (pos 0) ∷ []) ≡ false
unfolding sample counts holds
guard_of_nobody = refl
