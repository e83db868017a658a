-- Worked sure choices while atoms are away, as computed facts of the definitions.
use Rattle.std.proofs.Common.{◌≡◌, ℕ, ℤ, pos, refl, true, false, ◌==◌, List, [], ◌∷◌, map, codes, Option, Some, None}
use Rattle.std.specs.Int.{int_wrap}
use Rattle.petri_atom.specs.Expression.{Tree, number, variable, operation}
use Rattle.petri_atom.specs.Local.{Local, moved, set_below}
use Rattle.petri_atom.specs.declared.expression.Operator.TheVariants.{Less}
use Rattle.connector_tree.specs.Tree.{no_child, child, leaf}
use Rattle.priority_filter.specs.Decided.{is_below, is_overruled, order_fault}
use Rattle.priority_filter.specs.declared.rule.Side.TheVariants.{Whole}
use Rattle.priority_filter.specs.declared.rule.Rule.TheVariants.{Under, Maximal}
use Rattle.plant_model.specs.Choice.{ChoiceDefinition, choices, plant_interactions}
use Rattle.plant_model.specs.Firing.{firing_by}
use Rattle.plant_model.specs.Plant.{PlantDefinition}
use Rattle.plant_model.specs.Rules.{fault_of}
use Rattle.plant_model.specs.declared.wire.Export.{Export}
use Rattle.plant_model.proofs.CountRows as counted
use Rattle.plant_model.proofs.RunRows.{atom_of, call, choice, counts, first_export, holds, send, sent, state, stays_with, tick, ticked, wire}
use Rattle.step_core.specs.Parts.{parts_of}
use Rattle.step_core.specs.Sure.{is_open_at, left_by, may_come, sure_choices, went_on}

-- the sample with a third atom O, which always offers its port, `connector other O.o`, and `prio other < send`, with these guards of
-- send
abbrev sample : List (Tree Export) → PlantDefinition
sample guards = record {
  atoms = counts ∷ holds ∷ atom_of (codes "O") (codes "k") (codes "o") (stays_with [] ∷ []) ∷ [];
  wires = tick ∷ send guards ∷ wire (codes "other") (child false (leaf 2 0) no_child) [] [] ∷ [];
  rules = Under (Whole 2) (Whole 1) ∷ [];
}

abbrev other : ChoiceDefinition
other = choice 2 1 (2 ∷ [])

abbrev here : ℤ → Option Local
here n = Some (state n)

-- an atom whose place is not marked, so that it offers nothing
abbrev closed : Option Local
closed = Some (record { marking = 0; values = pos 0 ∷ [] })

breaks_no_rule : fault_of (sample []) ≡ None
unfolding order_fault is_below
breaks_no_rule = refl

-- ---- who is away, and what is above

-- with all present: tick and send, which are the choices of the state
all_present : sure_choices (sample []) (here (pos 1) ∷ here (pos 0) ∷ here (pos 0) ∷ []) ≡ ticked ∷ sent ∷ []
unfolding is_overruled is_below
all_present = refl

those_are_the_choices : choices (sample []) (state (pos 1) ∷ state (pos 0) ∷ state (pos 0) ∷ []) ≡ ticked ∷ sent ∷ []
unfolding is_overruled is_below
those_are_the_choices = refl

-- with A away nothing is: send is above other, A is away, and B's port is offered
other_waits_for_send : sure_choices (sample []) (None ∷ here (pos 0) ∷ here (pos 0) ∷ []) ≡ []
unfolding is_overruled is_below
other_waits_for_send = refl

-- where B offers nothing, send is ruled out whatever comes back, and other is sure
a_closed_port_sets_other_free : sure_choices (sample []) (None ∷ closed ∷ here (pos 0) ∷ []) ≡ other ∷ []
unfolding is_overruled is_below
a_closed_port_sets_other_free = refl

-- with B away tick is sure, since nothing is above it, and other is not
tick_waits_for_nobody : sure_choices (sample []) (here (pos 1) ∷ None ∷ here (pos 0) ∷ []) ≡ ticked ∷ []
unfolding is_overruled is_below
tick_waits_for_nobody = refl

-- with A and B away send may come too
both_away : sure_choices (sample []) (None ∷ None ∷ here (pos 0) ∷ []) ≡ []
unfolding is_overruled is_below
both_away = refl

-- with O away tick and send are sure: other is below, and above neither
below_matters_not : sure_choices (sample []) (here (pos 1) ∷ here (pos 0) ∷ None ∷ []) ≡ ticked ∷ sent ∷ []
unfolding is_overruled is_below
below_matters_not = refl

-- ---- guards

-- `guard 0` forbids send with all present, and other is free
abbrev never : List (Tree Export)
never = number (pos 0) ∷ []

forbidden_with_all_present : sure_choices (sample never) (here (pos 1) ∷ here (pos 0) ∷ here (pos 0) ∷ []) ≡ ticked ∷ other ∷ []
unfolding is_overruled is_below
forbidden_with_all_present = refl

-- but it does not rule out send while A is away, though it names no atom
may_come_all_the_same : map (may_come (sample never).atoms (sample never).wires (None ∷ here (pos 0) ∷ here (pos 0) ∷ []) (plant_interactions (sample never))) (0 ∷ 1 ∷ 2 ∷ 3 ∷ []) ≡ true ∷ true ∷ true ∷ false ∷ []
may_come_all_the_same = refl

not_with_all_present : map (may_come (sample never).atoms (sample never).wires (here (pos 1) ∷ here (pos 0) ∷ here (pos 0) ∷ []) (plant_interactions (sample never))) (0 ∷ 1 ∷ 2 ∷ 3 ∷ []) ≡ true ∷ false ∷ true ∷ false ∷ []
not_with_all_present = refl

forbidden_and_waited_for : sure_choices (sample never) (None ∷ here (pos 0) ∷ here (pos 0) ∷ []) ≡ []
unfolding is_overruled is_below
forbidden_and_waited_for = refl

-- nor does a clause that is 0 and reads B alone, which is present: `guard < B.m 0`
a_clause_over_who_is_present : sure_choices (sample (operation Less (variable (first_export 1)) (number (pos 0)) ∷ [])) (None ∷ here (pos 0) ∷ here (pos 0) ∷ []) ≡ []
unfolding is_overruled is_below
a_clause_over_who_is_present = refl

-- tick and send are open while A is away; other is not: all its participants are present
open_while_away : map (is_open_at (sample []).atoms (None ∷ here (pos 0) ∷ here (pos 0) ∷ []) (plant_interactions (sample []))) (0 ∷ 1 ∷ 2 ∷ 3 ∷ []) ≡ true ∷ true ∷ false ∷ false ∷ []
open_while_away = refl

not_open_behind_a_closed_port : map (is_open_at (sample []).atoms (None ∷ closed ∷ here (pos 0) ∷ []) (plant_interactions (sample []))) (0 ∷ 1 ∷ 2 ∷ []) ≡ true ∷ false ∷ false ∷ []
not_open_behind_a_closed_port = refl

-- ---- rules with a condition

abbrev marks : ℕ → Option Local
marks marking = Some (counted.marked marking)

-- `prio other < tick when A at on`: while A is away the rule may count, and tick may come
its_rule_may_count : sure_choices (counted.plant counted.while_on) (None ∷ marks 1 ∷ []) ≡ []
unfolding is_overruled is_below
its_rule_may_count = refl

-- while A is present it counts at on, and not at off
present_at_on : sure_choices (counted.plant counted.while_on) (marks 1 ∷ marks 1 ∷ []) ≡ counted.tick 0 ∷ []
unfolding is_overruled is_below
present_at_on = refl

present_at_off : sure_choices (counted.plant counted.while_on) (marks 2 ∷ marks 1 ∷ []) ≡ counted.tick 1 ∷ counted.other ∷ []
unfolding is_overruled is_below
present_at_off = refl

-- without the rule other is sure while A is away
no_rule_no_wait : sure_choices (counted.plant []) (None ∷ marks 1 ∷ []) ≡ counted.other ∷ []
unfolding is_overruled is_below
no_rule_no_wait = refl

-- ---- triggers

-- `call A.t' B.u` with B away: A alone is sure
alone_while_the_other_is_away : sure_choices (call [] (pos 5)) (here (pos 0) ∷ None ∷ []) ≡ choice 0 1 (0 ∷ []) ∷ []
unfolding is_overruled is_below
alone_while_the_other_is_away = refl

-- but not with `maximal call`: the call with B may come
maximal_waits_for_the_other : sure_choices (call (Maximal 0 ∷ []) (pos 5)) (here (pos 0) ∷ None ∷ []) ≡ []
unfolding is_overruled is_below
maximal_waits_for_the_other = refl

-- with A away nothing is
nothing_without_the_trigger : sure_choices (call [] (pos 5)) (None ∷ here (pos 0) ∷ []) ≡ []
unfolding is_overruled is_below
nothing_without_the_trigger = refl

-- ---- what becomes of the parts

-- all parts but those of the atoms that are away
parts_without_the_first : parts_of (λ n. n == 0) (state (pos 1) ∷ state (pos 2) ∷ state (pos 3) ∷ []) ≡ None ∷ here (pos 2) ∷ here (pos 3) ∷ []
parts_without_the_first = refl

-- send while O is away: B gets the value from before A counts on, and O stays away
sent_while_one_is_away : went_on (sample []) (here (pos 1) ∷ here (pos 0) ∷ None ∷ []) (firing_by sent []) ≡ here (pos 2) ∷ here (pos 1) ∷ None ∷ []
unfolding moved set_below int_wrap
sent_while_one_is_away = refl

-- and the participants of send leave: O alone is left
left_by_send : left_by (here (pos 1) ∷ here (pos 0) ∷ here (pos 7) ∷ []) sent.moves ≡ None ∷ None ∷ here (pos 7) ∷ []
left_by_send = refl

left_by_tick : left_by (here (pos 1) ∷ None ∷ here (pos 7) ∷ []) ticked.moves ≡ None ∷ None ∷ here (pos 7) ∷ []
left_by_tick = refl
