-- The choice that a fired line names.
use Rattle.std.specs.Prelude.{ℕ, ◌==◌, ◌&&◌, Bool, false, if◌then◌else◌, nat_le, List, length, find, slice_get, Option, Some, None, option_map, Result}
use Rattle.std.specs.Cmp.Lexicographic.{pointwise}
use Rattle.std.specs.Option.{ok_or, option_map_or}
use Rattle.petri_atom.specs.Definition.{AtomDefinition}
use Rattle.connector_tree.specs.declared.tree.Port.{Port}
use Rattle.connector_tree.specs.declared.tree.TheConstants.{MAX_LEAVES}
use Rattle.plant_words.specs.Reading.{◌>>=◌}
use Rattle.plant_model.specs.Choice.{ChoiceDefinition, Interaction, plant_interactions}
use Rattle.plant_model.specs.Laws.{is_of_port}
use Rattle.plant_model.specs.Plant.{PlantDefinition}
use Rattle.plant_model.specs.declared.choice.Move.{Move}
use Rattle.run_text.specs.ShownWord.{shown_word}
use Rattle.run_text.specs.declared.pick.Misread.{Misread}
use Rattle.run_text.specs.declared.pick.Misread.TheVariants.{UnknownConnector, NoInteraction}
use Rattle.recorded_picks.specs.Moves.{moves_in}
use Rattle.recorded_picks.specs.Names.{connector_named}

-- the transition of a port's atom is there, and is of the port
abbrev pub is_at_port : List AtomDefinition → Port → ℕ → Bool
is_at_port atoms p transition = option_map_or (λ a. is_of_port a p.port transition) (slice_get atoms p.atom) false

-- the move is one of the port's atom, by a transition of the port
abbrev pub fires : List AtomDefinition → Port → Move → Bool
fires atoms p m = m.atom == p.atom && is_at_port atoms p m.transition

-- the interaction is one of the connector, and the moves fire its ports, one after the other
abbrev pub is_fired_by : List AtomDefinition → ℕ → List Move → Interaction → Bool
is_fired_by atoms connector moves i = i.connector == connector && pointwise (fires atoms) i.ports moves

-- the mask of the interaction of a connector whose ports the moves fire, if there is one
abbrev pub mask_among : List AtomDefinition → List Interaction → ℕ → List Move → Option ℕ
mask_among atoms interactions connector moves = option_map (λ i. i.mask) (find (is_fired_by atoms connector moves) interactions)

abbrev pub mask_of : PlantDefinition → ℕ → List Move → Option ℕ
mask_of plant connector moves = mask_among plant.atoms (plant_interactions plant) connector moves

-- the choice of a connector in which the moves take part, if there is one
abbrev pub choice_by : PlantDefinition → ℕ → List Move → Option ChoiceDefinition
choice_by plant connector moves = option_map (λ mask. record { connector = connector; mask = mask; moves = moves }) (mask_of plant connector moves)

-- the connector with the name, or that there is none
abbrev pub connector_read : PlantDefinition → List ℕ → Result ℕ Misread
connector_read plant name = ok_or (connector_named plant name) (UnknownConnector (shown_word name))

-- The choice that a connector's name and the words after it name, or the first thing that is wrong with them: the name,
-- then the first word that names no move, then that no interaction has these ports.
abbrev pub choice_in : PlantDefinition → List ℕ → List (List ℕ) → Result ChoiceDefinition Misread
choice_in plant name words = do
  connector ← connector_read plant name
  moves ← moves_in plant words
  ok_or (choice_by plant connector moves) NoInteraction

-- moves, if they are no more than an interaction has ports
abbrev pub few_moves : List Move → Option (List Move)
few_moves moves = if nat_le (length moves) MAX_LEAVES then Some moves else None

-- moves that were read, if they are no more than an interaction has ports, or what is wrong with their words
abbrev pub moves_read : Result (List Move) Misread → Result (List Move) Misread
moves_read moves = do
  ms ← moves
  ok_or (few_moves ms) NoInteraction
