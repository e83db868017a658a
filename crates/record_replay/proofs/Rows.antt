-- Worked records and replays of a plant, as computed facts of the definitions.
use Rattle.std.proofs.Common.{◌≡◌, ℕ, ℤ, pos, refl, true, false, List, [], ◌∷◌, ◌++◌, map, codes, None, Some, Ok, Err}
use Rattle.std.specs.Int.{int_wrap}
use Rattle.petri_atom.specs.Expression.{number, operation, variable}
use Rattle.petri_atom.specs.Local.{Local, Row, moved, set_below}
use Rattle.petri_atom.specs.Definition.{AtomDefinition, UpdateDefinition}
use Rattle.petri_atom.specs.declared.expression.Operator.TheVariants.{Add}
use Rattle.connector_tree.specs.Tree as connectors
use Rattle.connector_tree.specs.Tree.{child, leaf, no_child}
use Rattle.record_codec.specs.Fired.{FiredFields, is_fired}
use Rattle.record_codec.specs.declared.entry.Entry.{Entry}
use Rattle.plant_model.specs.Firing.{FiringDefinition, choice_in}
use Rattle.plant_model.specs.Plant.{PlantDefinition, TransferDefinition, WireDefinition}
use Rattle.plant_model.specs.declared.wire.Export.{Export}
use Rattle.record_replay.specs.OfPlant.{is_record_of}
use Rattle.record_replay.specs.Records.{counts_after_all, record_delivered, records_of}
use Rattle.record_replay.specs.Replay.{Position, is_included, replay_from}
use Rattle.record_replay.specs.declared.fault.ReplayFault.TheVariants.{Gap, NotEnabled}

-- ---- the sample: A counts on in n, and B holds m; `tick A.t`, and `send A.t B.u` with `B.m := A.n`

abbrev atom_of : List ℕ → List ℕ → List ℕ → List UpdateDefinition → AtomDefinition
atom_of name value port updates = record {
  name = name;
  places = record { name = codes "s"; marked = true } ∷ [];
  variables = record { name = value; first = pos 0 } ∷ [];
  ports = record { name = port; exports = 0 ∷ [] } ∷ [];
  transitions = record { port = 0; sources = 0 ∷ []; targets = 0 ∷ []; guard = number (pos 1); updates = updates } ∷ [];
}

counts_on : AtomDefinition
counts_on = atom_of (codes "A") (codes "n") (codes "t") (record { variable = 0; value = operation Add (variable 0) (number (pos 1)) } ∷ [])

holds : AtomDefinition
holds = atom_of (codes "B") (codes "m") (codes "u") []

abbrev wire : List ℕ → connectors.Tree → List TransferDefinition → WireDefinition
wire name connector transfers = record { name = name; connector = connector; guards = []; transfers = transfers; inputs = [] }

abbrev first_export : ℕ → Export
first_export place = record { leaf = place; export = 0 }

sample : PlantDefinition
unfolding counts_on holds
sample = record {
  atoms = counts_on ∷ holds ∷ [];
  wires = wire (codes "tick") (child false (leaf 0 0) no_child) [] ∷ wire (codes "send") (child false (leaf 0 0) (child false (leaf 1 0) no_child)) (record { target = first_export 1; value = variable (first_export 0) } ∷ []) ∷ [];
  rules = [];
}

-- the state with this value
abbrev state : ℤ → Local
state n = record { marking = 1; values = n ∷ [] }

abbrev at : ℤ → ℤ → List Local
at n m = state n ∷ state m ∷ []

-- the choice of a connector and a mask by the first transitions of these atoms
abbrev choice : ℕ → ℕ → List ℕ → FiringDefinition
choice connector mask atoms = record { connector = connector; mask = mask; moves = map (λ a. record { atom = a; transition = 0 }) atoms; inputs = [] }

abbrev tick : FiringDefinition
tick = choice 0 1 (0 ∷ [])

abbrev send : FiringDefinition
send = choice 1 3 (0 ∷ 1 ∷ [])

abbrev run : List FiringDefinition
run = tick ∷ send ∷ tick ∷ send ∷ []

-- ---- its records

abbrev none : Row
none = None ∷ None ∷ None ∷ None ∷ []

abbrev first : ℤ → Row
first value = Some value ∷ None ∷ None ∷ None ∷ []

-- what an atom did by its first transition
abbrev did : ℕ → ℕ → Row → Entry
did atom participation delivered = record { atom = atom; transition = 0; participation = participation; delivered = delivered }

abbrev record_by : ℕ → ℕ → List Entry → FiredFields
record_by n connector entries = record { number = n; connector = connector; entries = entries }

abbrev first_half : List FiredFields
first_half = record_by 1 0 (did 0 1 none ∷ []) ∷ record_by 2 1 (did 0 2 none ∷ did 1 1 (first (pos 1)) ∷ []) ∷ []

abbrev second_half : List FiredFields
second_half = record_by 3 0 (did 0 3 none ∷ []) ∷ record_by 4 1 (did 0 4 none ∷ did 1 2 (first (pos 3)) ∷ []) ∷ []

abbrev all : List FiredFields
all = first_half ++ second_half

records_of_the_run : records_of sample (at (pos 0) (pos 0)) (0 ∷ 0 ∷ []) 0 run ≡ all
unfolding sample counts_on holds moved set_below int_wrap
records_of_the_run = refl

counts_of_the_run : counts_after_all run (0 ∷ 0 ∷ []) ≡ 4 ∷ 2 ∷ []
counts_of_the_run = refl

-- the record that is told by what the second step delivered, place by place
told_of_send : record_delivered 2 (choice_in send) (none ∷ first (pos 1) ∷ []) (1 ∷ 0 ∷ []) ≡ record_by 2 1 (did 0 2 none ∷ did 1 1 (first (pos 1)) ∷ [])
told_of_send = refl

-- ---- whose records they can be

they_are_of_the_sample : map (is_record_of sample) all ≡ true ∷ true ∷ true ∷ true ∷ []
unfolding sample counts_on holds
they_are_of_the_sample = refl

they_are_in_range : map is_fired all ≡ true ∷ true ∷ true ∷ true ∷ []
they_are_in_range = refl

-- not with another atom's entry, one too few or too many, of a connector or a transition that is not there, or with a value past the exports
abbrev others : List FiredFields
others =
    record_by 1 0 (did 1 1 none ∷ []) ∷ record_by 2 1 (did 0 2 none ∷ []) ∷ record_by 2 0 (did 0 2 none ∷ did 1 1 none ∷ []) ∷ record_by 1 2 (did 0 1 none ∷ []) ∷
    record_by 1 0 (record { atom = 0; transition = 1; participation = 1; delivered = none } ∷ []) ∷
    record_by 2 1 (did 0 2 none ∷ did 1 1 (None ∷ Some (pos 1) ∷ None ∷ None ∷ []) ∷ []) ∷ []

these_are_not : map (is_record_of sample) others ≡ false ∷ false ∷ false ∷ false ∷ false ∷ false ∷ []
unfolding sample counts_on holds
these_are_not = refl

-- ---- replay

abbrev behind : ℤ → ℕ → Position
behind n count = record { state = state n; count = count }

-- from the first states both atoms come to the last ones: A counts on by itself, and B gets what the records say
a_from_the_start : replay_from counts_on 0 (behind (pos 0) 0) all ≡ Ok (behind (pos 4) 4)
unfolding counts_on moved set_below int_wrap
a_from_the_start = refl

b_from_the_start : replay_from holds 1 (behind (pos 0) 0) all ≡ Ok (behind (pos 3) 2)
unfolding holds moved set_below int_wrap
b_from_the_start = refl

-- a state that includes some of the records passes these over, and one that includes all stays
a_from_between : replay_from counts_on 0 (behind (pos 2) 2) all ≡ Ok (behind (pos 4) 4)
unfolding counts_on moved set_below int_wrap
a_from_between = refl

b_from_between : replay_from holds 1 (behind (pos 1) 1) all ≡ Ok (behind (pos 3) 2)
unfolding holds moved set_below int_wrap
b_from_between = refl

a_from_the_end : replay_from counts_on 0 (behind (pos 4) 4) all ≡ Ok (behind (pos 4) 4)
unfolding counts_on
a_from_the_end = refl

whom_they_are_behind : map (is_included 0 2) all ≡ true ∷ true ∷ false ∷ false ∷ []
whom_they_are_behind = refl

whom_b_is_behind : map (is_included 1 1) all ≡ true ∷ true ∷ true ∷ false ∷ []
whom_b_is_behind = refl

-- a firing that is missing is a gap, and so is one that stands twice
b_without_its_first : replay_from holds 1 (behind (pos 0) 0) second_half ≡ Err Gap
unfolding holds
b_without_its_first = refl

a_with_one_twice : replay_from counts_on 0 (behind (pos 2) 2) (second_half ++ second_half) ≡ Err Gap
unfolding counts_on moved set_below int_wrap
a_with_one_twice = refl

-- and a transition that the state does not offer is told with its record's number: here one whose source is not marked, and one that is not there
a_unmarked : replay_from counts_on 0 (record { state = record { marking = 0; values = pos 2 ∷ [] }; count = 2 }) all ≡ Err (NotEnabled 3)
unfolding counts_on
a_unmarked = refl

a_by_another : replay_from counts_on 0 (behind (pos 4) 4) (all ++ record_by 5 0 (record { atom = 0; transition = 1; participation = 5; delivered = none } ∷ []) ∷ []) ≡ Err (NotEnabled 5)
unfolding counts_on
a_by_another = refl
