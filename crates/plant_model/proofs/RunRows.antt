-- Worked choices and runs of whole plants, as computed facts of the definitions.
use Rattle.std.proofs.Common.{◌≡◌, ℕ, ℤ, pos, refl, sym, subst, Contains, true, false, List, [], ◌∷◌, map, codes, None}
use Rattle.std.specs.List.{list_all}
use Rattle.std.specs.Int.{int_wrap}
use Rattle.petri_atom.specs.Expression.{Tree, number, variable, operation}
use Rattle.petri_atom.specs.Local.{Local, set_below, moved}
use Rattle.petri_atom.specs.Definition.{AtomDefinition, TransitionDefinition, UpdateDefinition, is_well_formed}
use Rattle.petri_atom.specs.declared.expression.Operator.TheVariants.{Add, Less}
use Rattle.connector_tree.specs.Tree as connectors
use Rattle.connector_tree.specs.Tree.{no_child, child, leaf}
use Rattle.priority_filter.specs.Decided.{is_below, is_overruled, order_fault}
use Rattle.priority_filter.specs.declared.rule.Side.TheVariants.{Whole}
use Rattle.priority_filter.specs.declared.rule.Rule.{Rule}
use Rattle.priority_filter.specs.declared.rule.Rule.TheVariants.{Under, Maximal}
use Rattle.plant_model.specs.Choice.{ChoiceDefinition, IsAllowed, choices}
use Rattle.plant_model.specs.Firing.{FiringDefinition, firing_by}
use Rattle.plant_model.specs.Laws.{are_moves_at, comes_before, order_key}
use Rattle.plant_model.specs.Plant.{PlantDefinition, TransferDefinition, WireDefinition}
use Rattle.plant_model.specs.Rules.{fault_of}
use Rattle.plant_model.specs.Runs.{IsRun, fold}
use Rattle.plant_model.specs.Step.{initial_states}
use Rattle.plant_model.specs.declared.choice.Move.{Move}
use Rattle.plant_model.specs.declared.wire.Export.{Export}
use Rattle.plant_model.proofs.Membership.{here, later}

-- ---- the sample

-- an atom with place s, one variable, and a port that exports it; each of these transitions leads from s to s
abbrev pub atom_of : List ℕ → List ℕ → List ℕ → List TransitionDefinition → AtomDefinition
atom_of name value port transitions = record {
  name = name;
  places = record { name = codes "s"; marked = true } ∷ [];
  variables = record { name = value; first = pos 0 } ∷ [];
  ports = record { name = port; exports = 0 ∷ [] } ∷ [];
  transitions = transitions;
}

abbrev pub stays_with : List UpdateDefinition → TransitionDefinition
stays_with updates = record { port = 0; sources = 0 ∷ []; targets = 0 ∷ []; guard = number (pos 1); updates = updates }

-- A counts on in n, and B holds m
abbrev pub counts : AtomDefinition
counts = atom_of (codes "A") (codes "n") (codes "t") (stays_with (record { variable = 0; value = operation Add (variable 0) (number (pos 1)) } ∷ []) ∷ [])

abbrev pub holds : AtomDefinition
holds = atom_of (codes "B") (codes "m") (codes "u") (stays_with [] ∷ [])

abbrev pub wire : List ℕ → connectors.Tree → List (Tree Export) → List TransferDefinition → WireDefinition
wire name connector guards transfers = record { name = name; connector = connector; guards = guards; transfers = transfers; inputs = [] }

-- `tick A.t`, and `send A.t B.u` with `B.m := A.n`
abbrev pub tick : WireDefinition
tick = wire (codes "tick") (child false (leaf 0 0) no_child) [] []

abbrev pub first_export : ℕ → Export
first_export place = record { leaf = place; export = 0 }

abbrev pub send : List (Tree Export) → WireDefinition
send guards = wire (codes "send") (child false (leaf 0 0) (child false (leaf 1 0) no_child)) guards (record { target = first_export 1; value = variable (first_export 0) } ∷ [])

sample : PlantDefinition
sample = record { atoms = counts ∷ holds ∷ []; wires = tick ∷ send [] ∷ []; rules = [] }

-- the state with these values of n and m
abbrev pub state : ℤ → Local
state n = record { marking = 1; values = n ∷ [] }

abbrev at : ℤ → ℤ → List Local
at n m = state n ∷ state m ∷ []

-- the choice of a connector and a mask by the first transitions of these atoms
abbrev pub choice : ℕ → ℕ → List ℕ → ChoiceDefinition
choice connector mask atoms = record { connector = connector; mask = mask; moves = map (λ a. record { atom = a; transition = 0 }) atoms }

abbrev pub ticked : ChoiceDefinition
ticked = choice 0 1 (0 ∷ [])

abbrev pub sent : ChoiceDefinition
sent = choice 1 3 (0 ∷ 1 ∷ [])

-- it is a plant, of well-formed atoms
sample_breaks_no_rule : fault_of sample ≡ None
unfolding sample order_fault is_below
sample_breaks_no_rule = refl

sample_is_well_formed : list_all is_well_formed sample.atoms ≡ true
unfolding sample
sample_is_well_formed = refl

starts_at_zero : initial_states sample ≡ at (pos 0) (pos 0)
unfolding sample set_below
starts_at_zero = refl

-- tick, then send, whatever the values
tick_or_send : (n m : ℤ) → choices sample (at n m) ≡ ticked ∷ sent ∷ []
unfolding sample is_overruled is_below
tick_or_send n m = refl

-- a choice that is fired where no value comes in
abbrev pub alone : ChoiceDefinition → FiringDefinition
alone c = firing_by c []

abbrev tick_and_send_twice : List FiringDefinition
tick_and_send_twice = alone ticked ∷ alone sent ∷ alone ticked ∷ alone sent ∷ []

-- the picks 0 1 0 1 leave n = 4 and m = 3
four_steps : fold sample (at (pos 0) (pos 0)) tick_and_send_twice ≡ at (pos 4) (pos 3)
unfolding sample moved set_below int_wrap
four_steps = refl

two_steps : fold sample (at (pos 0) (pos 0)) (alone ticked ∷ alone sent ∷ []) ≡ at (pos 2) (pos 1)
unfolding sample moved set_below int_wrap
two_steps = refl

-- and are a run
may_tick : (n m : ℤ) → IsAllowed sample (at n m) ticked
may_tick n m = subst (λ cs. Contains cs ticked) (sym (tick_or_send n m)) (here ticked (sent ∷ []))

may_send : (n m : ℤ) → IsAllowed sample (at n m) sent
may_send n m = subst (λ cs. Contains cs sent) (sym (tick_or_send n m)) (later ticked (sent ∷ []) sent (here sent []))

they_are_a_run : IsRun sample (at (pos 0) (pos 0)) tick_and_send_twice (at (pos 4) (pos 3))
unfolding sample moved set_below int_wrap
they_are_a_run = ((may_tick (pos 0) (pos 0), refl), ((may_send (pos 1) (pos 0), refl), ((may_tick (pos 2) (pos 1), refl), ((may_send (pos 3) (pos 1), refl), refl))))

-- ---- a chain of rules

-- a third connector `stop`, of an atom of its own; send is possible below the bound alone
abbrev ladder : List Rule → ℤ → PlantDefinition
ladder rules bound = record {
  atoms = counts ∷ holds ∷ atom_of (codes "C") (codes "k") (codes "v") (stays_with [] ∷ []) ∷ [];
  wires = tick ∷ send (operation Less (variable (first_export 0)) (number bound) ∷ []) ∷ wire (codes "stop") (child false (leaf 2 0) no_child) [] [] ∷ [];
  rules = rules;
}

abbrev up_to_stop : List Rule
up_to_stop = Under (Whole 0) (Whole 1) ∷ Under (Whole 1) (Whole 2) ∷ []

abbrev stopped : ChoiceDefinition
stopped = choice 2 1 (2 ∷ [])

abbrev three_at : ℤ → List Local
three_at n = state n ∷ state (pos 0) ∷ state (pos 0) ∷ []

no_rule_leaves_all : choices (ladder [] (pos 2)) (three_at (pos 1)) ≡ ticked ∷ sent ∷ stopped ∷ []
unfolding is_overruled is_below
no_rule_leaves_all = refl

a_rule_puts_tick_under_send : choices (ladder (Under (Whole 0) (Whole 1) ∷ []) (pos 2)) (three_at (pos 1)) ≡ sent ∷ stopped ∷ []
unfolding is_overruled is_below
a_rule_puts_tick_under_send = refl

-- which says nothing while send is not possible
and_not_under_what_is_not_possible : choices (ladder (Under (Whole 0) (Whole 1) ∷ []) (pos 2)) (three_at (pos 2)) ≡ ticked ∷ stopped ∷ []
unfolding is_overruled is_below
and_not_under_what_is_not_possible = refl

-- tick is below stop by a chain, whether the station between is possible or not
a_chain_through_what_is_possible : choices (ladder up_to_stop (pos 2)) (three_at (pos 1)) ≡ stopped ∷ []
unfolding is_overruled is_below
a_chain_through_what_is_possible = refl

a_chain_through_what_is_not_possible : choices (ladder up_to_stop (pos 2)) (three_at (pos 2)) ≡ stopped ∷ []
unfolding is_overruled is_below
a_chain_through_what_is_not_possible = refl

-- ---- maximal

-- `call A.t' B.u`: A alone, or with B, which takes part below the bound alone
abbrev pub call : List Rule → ℤ → PlantDefinition
call rules bound = record {
  atoms = counts ∷ atom_of (codes "B") (codes "m") (codes "u") (record { port = 0; sources = 0 ∷ []; targets = 0 ∷ []; guard = operation Less (variable 0) (number bound); updates = [] } ∷ []) ∷ [];
  wires = wire (codes "call") (child true (leaf 0 0) (child false (leaf 1 0) no_child)) [] [] ∷ [];
  rules = rules;
}

alone_or_with_it : choices (call [] (pos 5)) (at (pos 0) (pos 4)) ≡ choice 0 1 (0 ∷ []) ∷ choice 0 3 (0 ∷ 1 ∷ []) ∷ []
unfolding is_overruled is_below
alone_or_with_it = refl

maximal_takes_all_that_may : choices (call (Maximal 0 ∷ []) (pos 5)) (at (pos 0) (pos 4)) ≡ choice 0 3 (0 ∷ 1 ∷ []) ∷ []
unfolding is_overruled is_below
maximal_takes_all_that_may = refl

and_leaves_out_who_may_not : choices (call (Maximal 0 ∷ []) (pos 5)) (at (pos 0) (pos 5)) ≡ choice 0 1 (0 ∷ []) ∷ []
unfolding is_overruled is_below
and_leaves_out_who_may_not = refl

-- ---- the order

-- at the first place where they differ, the one has the lower number
rows_in_order : map (comes_before (0 ∷ 3 ∷ 1 ∷ 0 ∷ [])) ((0 ∷ 3 ∷ 1 ∷ 1 ∷ []) ∷ (0 ∷ 3 ∷ 2 ∷ 0 ∷ []) ∷ (0 ∷ 5 ∷ 0 ∷ 0 ∷ []) ∷ (1 ∷ 1 ∷ 0 ∷ []) ∷ []) ≡ true ∷ true ∷ true ∷ true ∷ []
rows_in_order = refl

rows_not_in_order : map (comes_before (0 ∷ 3 ∷ 1 ∷ 0 ∷ [])) ((0 ∷ 3 ∷ 1 ∷ 0 ∷ []) ∷ (0 ∷ 3 ∷ 0 ∷ 1 ∷ []) ∷ (0 ∷ 1 ∷ 2 ∷ 2 ∷ []) ∷ []) ≡ false ∷ false ∷ false ∷ []
rows_not_in_order = refl

tick_before_send : comes_before (order_key ticked) (order_key sent) ≡ true
tick_before_send = refl

-- moves of ports: by place, of the port's atom, by an offered transition of the port
abbrev move : ℕ → ℕ → Move
move atom transition = record { atom = atom; transition = transition }

moves_of_both : map (are_moves_at (counts ∷ holds ∷ []) (at (pos 0) (pos 0)) (record { atom = 0; port = 0 } ∷ record { atom = 1; port = 0 } ∷ [])) ((move 0 0 ∷ move 1 0 ∷ []) ∷ (move 1 0 ∷ move 0 0 ∷ []) ∷ (move 0 0 ∷ []) ∷ (move 0 0 ∷ move 1 1 ∷ []) ∷ []) ≡ true ∷ false ∷ false ∷ false ∷ []
moves_of_both = refl
