-- Worked picks by the weights of connectors, computed from the definitions.
use Rattle.std.proofs.Common.{◌≡◌, ℕ, pos, refl, true, false, List, [], ◌∷◌, codes}
use Rattle.std.specs.Fmt.{digits}
use Rattle.std.specs.Int.{int_wrap}
use Rattle.petri_atom.specs.Expression.{number}
use Rattle.petri_atom.specs.Local.{Local, set_below, moved}
use Rattle.connector_tree.specs.Tree.{no_child, child, leaf}
use Rattle.plant_model.specs.Plant.{PlantDefinition}
use Rattle.plant_model.specs.Choice.{ChoiceDefinition, choices}
use Rattle.priority_filter.specs.Decided.{is_overruled, is_below}
use Rattle.plant_model.specs.declared.choice.Move.{Move}
use Rattle.run_text.specs.OwnNumbers.{numbers_of}
use Rattle.run_text.specs.Picks.{random_picks, weighted, weighted_picks}
use Rattle.run_text.specs.Taken.{fires, stuck, taken}
use Rattle.run_text.specs.Trace.{trace_in}
use Rattle.run_text.specs.Weights.{falls_to, weights_in}
use Rattle.text_io.specs.declared.format.Format.TheVariants.{Lines}
use Rattle.run_text.proofs.RunRows.{sample, ticked, sent}

-- the sample in its first state, in which tick and send have a choice each
abbrev start : List Local
start = record { marking = 1; values = pos 0 ∷ [] } ∷ record { marking = 1; values = pos 0 ∷ [] } ∷ []

-- by running sums of 300, 0 and 100 the numbers up to 299 fall to the first place, those up to 399 to the third, and none to the second
last_of_the_first : falls_to 299 (300 ∷ 0 ∷ 100 ∷ []) ≡ 0
last_of_the_first = refl

first_of_the_third : falls_to 300 (300 ∷ 0 ∷ 100 ∷ []) ≡ 2
first_of_the_third = refl

last_of_the_third : falls_to 399 (300 ∷ 0 ∷ 100 ∷ []) ≡ 2
last_of_the_third = refl

-- Tick weighs 300 and send 100. The first random numbers of the seed 1 end with 5165, 1517 and 0103, which are 365, 317 and 103 modulo 400. So they
-- take send, send and tick; send delivers what A had counted before, which is 1 at the second.
three_by_weights : trace_in Lines sample (weighted_picks (300 ∷ 100 ∷ []) (random_picks 1 3)) ≡ codes "1 send A.t/0 B.u/0\n2 send A.t/0 B.u/0\n3 tick A.t/0\nstate A [s] n=3\nstate B [s] m=1\n"
unfolding sample digits moved set_below int_wrap is_overruled is_below
three_by_weights = refl

-- a connector that weighs nothing is not taken: each number takes send
tick_weighs_nothing : taken sample start (weighted 0 (0 ∷ 100 ∷ [])) ≡ fires sent
unfolding sample is_overruled is_below
tick_weighs_nothing = refl

-- where both weigh nothing, a pick takes nothing, although both have a choice
none_by_weights : taken sample start (weighted 7 (0 ∷ 0 ∷ [])) ≡ stuck
unfolding sample is_overruled is_below
none_by_weights = refl

-- an atom with a port of one transition, one of a transition that is not offered, and one of two
forked : PlantDefinition
forked = record {
  atoms = record {
    name = codes "A";
    places = record { name = codes "s"; marked = true } ∷ record { name = codes "e"; marked = false } ∷ [];
    variables = [];
    ports = record { name = codes "t"; exports = [] } ∷ record { name = codes "u"; exports = [] } ∷ record { name = codes "v"; exports = [] } ∷ [];
    transitions = record { port = 0; sources = 0 ∷ []; targets = 0 ∷ []; guard = number (pos 1); updates = [] } ∷
        record { port = 1; sources = 1 ∷ []; targets = 1 ∷ []; guard = number (pos 1); updates = [] } ∷
        record { port = 2; sources = 0 ∷ []; targets = 0 ∷ []; guard = number (pos 1); updates = [] } ∷
        record { port = 2; sources = 0 ∷ []; targets = 0 ∷ []; guard = number (pos 1); updates = [] } ∷ [];
  } ∷ [];
  wires = record { name = codes "one"; connector = child false (leaf 0 0) no_child; guards = []; transfers = []; inputs = [] } ∷
      record { name = codes "off"; connector = child false (leaf 0 1) no_child; guards = []; transfers = []; inputs = [] } ∷
      record { name = codes "two"; connector = child false (leaf 0 2) no_child; guards = []; transfers = []; inputs = [] } ∷ [];
  rules = [];
}

-- its state
abbrev forked_states : List Local
forked_states = record { marking = 1; values = [] } ∷ []

-- the choice of a connector by a transition
abbrev by : ℕ → ℕ → ChoiceDefinition
by connector transition = record { connector = connector; mask = 1; moves = record { atom = 0; transition = transition } ∷ [] }

-- `one` has a choice, `off` none, and `two` has two
forked_choices : choices forked forked_states ≡ by 0 0 ∷ by 2 2 ∷ by 2 3 ∷ []
unfolding forked is_overruled is_below
forked_choices = refl

-- so `off` weighs nothing here
forked_weights : weights_in forked forked_states (300 ∷ 100 ∷ 100 ∷ []) ≡ 300 ∷ 0 ∷ 100 ∷ []
unfolding forked is_overruled is_below
forked_weights = refl

-- 1099 = 2 * 400 + 299 takes the choice of `one`
first_share : taken forked forked_states (weighted 1099 (300 ∷ 100 ∷ 100 ∷ [])) ≡ fires (by 0 0)
unfolding forked is_overruled is_below
first_share = refl

-- 1100 = 2 * 400 + 300 takes a choice of `two`: 2 modulo 2 is 0, the first of them
third_share : taken forked forked_states (weighted 1100 (300 ∷ 100 ∷ 100 ∷ [])) ≡ fires (by 2 2)
unfolding forked is_overruled is_below
third_share = refl

-- 799 = 1 * 400 + 399 takes a choice of `two` too: 1 modulo 2 is 1, the second
third_share_again : taken forked forked_states (weighted 799 (300 ∷ 100 ∷ 100 ∷ [])) ≡ fires (by 2 3)
unfolding forked is_overruled is_below
third_share_again = refl
