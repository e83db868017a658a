-- What a weighted number takes in a state.
use Rattle.std.specs.Prelude.{ℕ, suc, ◌-◌, ◌/◌, ◌%◌, ◌==◌, nat_lt, if◌then◌else◌, List, [], ◌∷◌, length, map, slice_get, slice_index, Option, None}
use Rattle.std.specs.List.{range_with_len, sum}
use Rattle.std.specs.Option.{option_and_then}
use Rattle.petri_atom.specs.Local.{Local}
use Rattle.plant_model.specs.Plant.{PlantDefinition}
use Rattle.plant_model.specs.Choice.{ChoiceDefinition, choices}
use Rattle.run_text.specs.OwnNumbers.{numbers_of}

-- the weight of a connector in a state: the one that is set for it if it has a choice there, else 0
abbrev pub weight_in : PlantDefinition → List Local → List ℕ → ℕ → ℕ
weight_in plant states weights connector = if length (numbers_of plant states connector) == 0 then 0 else slice_index weights connector

-- the weights of a plant's connectors in a state, in written order
abbrev pub weights_in : PlantDefinition → List Local → List ℕ → List ℕ
weights_in plant states weights = map (weight_in plant states weights) (range_with_len 0 (length plant.wires))

-- the place to which a number falls by running sums: the first one whose weight makes, with those before it, more than the number
abbrev pub falls_to : ℕ → List ℕ → ℕ
falls_to n [] = 0
falls_to n (w ∷ ws) = if nat_lt n w then 0 else suc (falls_to (n - w) ws)

-- the choice that a number takes among those of a connector: the entry at the number modulo how many these are; none if there is none
abbrev pub own_choice : PlantDefinition → List Local → ℕ → ℕ → Option ChoiceDefinition
own_choice plant states connector n =
    option_and_then (slice_get (choices plant states)) (slice_get (numbers_of plant states connector) (n % length (numbers_of plant states connector)))

-- the same by the weights of connectors: the number modulo their sum falls to a connector, and the number divided by it takes one of its choices; none
-- if the sum is 0
abbrev pub by_shares : PlantDefinition → List Local → List ℕ → ℕ → Option ChoiceDefinition
by_shares plant states shares n = if sum shares == 0 then None else own_choice plant states (falls_to (n % sum shares) shares) (n / sum shares)

-- the choice that a number takes in a state by the weights that are set for connectors
abbrev pub by_weight : PlantDefinition → List Local → List ℕ → ℕ → Option ChoiceDefinition
by_weight plant states weights n = by_shares plant states (weights_in plant states weights) n
