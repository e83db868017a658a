-- What the interactions and the choices of a plant are, by their parts, and in which order they stand.
use Rattle.std.specs.Prelude.{◌≡◌, ◌↔◌, ◌≤◌, ◌<◌, ◌==◌, nat_lt, ℕ, Bool, true, false, ◌&&◌, ◌||◌, List, [], ◌∷◌, map, length, slice_get, Some, Contains}
use Rattle.std.specs.List.Sorted.{IsStrictlyIncreasing}
use Rattle.std.specs.Option.{option_map_or}
use Rattle.petri_atom.specs.Local.{Local}
use Rattle.petri_atom.specs.Definition.{AtomDefinition, offers_number}
use Rattle.connector_tree.specs.Faults.{atoms}
use Rattle.connector_tree.specs.Masks.{interactions_of, ports_of}
use Rattle.connector_tree.specs.Tree.{leaves}
use Rattle.connector_tree.specs.declared.tree.Port.{Port}
use Rattle.connector_tree.specs.declared.tree.TheConstants.{MAX_LEAVES}
use Rattle.priority_filter.specs.Order.{IsBelow}
use Rattle.plant_model.specs.Plant.{PlantDefinition, WireDefinition, of_atom}
use Rattle.plant_model.specs.Choice.{ChoiceDefinition, Interaction, active_in, is_possible, is_possible_at, named, plant_interactions}
use Rattle.plant_model.specs.Rules.{is_known_port}
use Rattle.plant_model.specs.declared.choice.Move.{Move}
use Rattle.plant_model.specs.declared.limits.TheConstants.{MAX_ATOMS, MAX_INTERACTIONS, MAX_WIRES}

-- ---- interactions

-- an interaction is of a plant: it is an interaction of one of the plant's connectors, with 1 to MAX_LEAVES ports, which are exactly
-- those of the mask, are ports of the plant's atoms, and stand in rising order of these
pub record IsInteractionOf (plant : PlantDefinition) (i : Interaction) : Type 0 where
  pub wire : WireDefinition
  pub there : slice_get plant.wires i.connector ≡ Some wire
  pub mask : Contains (interactions_of wire.connector) i.mask
  pub some : 1 ≤ length i.ports
  pub few : length i.ports ≤ MAX_LEAVES
  pub rising : IsStrictlyIncreasing (atoms i.ports)
  pub known : (p : Port) → Contains i.ports p → is_known_port plant.atoms p ≡ true
  pub of_mask : (p : Port) → Contains i.ports p ↔ Contains (ports_of wire.connector i.mask) p
  pub of_connector : (p : Port) → Contains i.ports p → Contains (leaves wire.connector) p

-- ---- choices

-- the transition with a number is of the port with a number
abbrev pub is_of_port : AtomDefinition → ℕ → ℕ → Bool
is_of_port a port n = option_map_or (λ t. t.port == port) (slice_get a.transitions n) false

-- the move is one of the port's atom, by a transition of the port that the atom's state offers
abbrev pub is_move_at : List AtomDefinition → List Local → Port → Move → Bool
is_move_at atoms states p m =
    m.atom == p.atom && of_atom atoms states p.atom (λ a s. is_of_port a p.port m.transition && offers_number a s m.transition) false

-- there are as many moves as ports, and by place each is such a move of the port
abbrev pub are_moves_at : List AtomDefinition → List Local → List Port → List Move → Bool
are_moves_at atoms states [] [] = true
are_moves_at atoms states [] (m ∷ ms) = false
are_moves_at atoms states (p ∷ ps) [] = false
are_moves_at atoms states (p ∷ ps) (m ∷ ms) = is_move_at atoms states p m && are_moves_at atoms states ps ms

-- a choice takes up an interaction of the plant, the one with a number: it has its connector and its mask, and by place an offered
-- transition of each of its ports
pub record IsTaking (plant : PlantDefinition) (states : List Local) (number : ℕ) (c : ChoiceDefinition) : Type 0 where
  pub interaction : Interaction
  pub there : slice_get (plant_interactions plant) number ≡ Some interaction
  pub connector : c.connector ≡ interaction.connector
  pub mask : c.mask ≡ interaction.mask
  pub moves : are_moves_at plant.atoms states interaction.ports c.moves ≡ true

-- no possible interaction is above the one with a number, in the order of the rules that count
abbrev pub IsOnTop : PlantDefinition → List Local → ℕ → Type 0
IsOnTop plant states number =
    (above : ℕ) → IsBelow (active_in plant states) (map named (plant_interactions plant)) number above →
    is_possible_at plant.atoms plant.wires states (plant_interactions plant) above ≡ false

-- what an allowed choice is: it takes up an interaction that is possible, and above which no possible one is
pub record IsChoiceOf (plant : PlantDefinition) (states : List Local) (c : ChoiceDefinition) : Type 0 where
  pub number : ℕ
  pub takes : IsTaking plant states number c
  pub possible : is_possible plant.atoms plant.wires states takes.interaction ≡ true
  pub on_top : IsOnTop plant states number

-- the atoms of moves
abbrev pub atoms_of : List Move → List ℕ
atoms_of moves = map (λ m. m.atom) moves

-- a choice names a connector of the plant, and has 1 to MAX_LEAVES moves, of atoms of the plant in rising order, each by a transition
-- that its atom has
pub record IsInRange (plant : PlantDefinition) (c : ChoiceDefinition) : Type 0 where
  pub connector : c.connector < length plant.wires
  pub some : 1 ≤ length c.moves
  pub few : length c.moves ≤ MAX_LEAVES
  pub rising : IsStrictlyIncreasing (atoms_of c.moves)
  pub of_plant : (m : Move) → Contains c.moves m → m.atom < length plant.atoms
  pub of_atom : (m : Move) (a : AtomDefinition) → Contains c.moves m → slice_get plant.atoms m.atom ≡ Some a → m.transition < length a.transitions

-- a plant has an atom, and no more atoms, connectors and interactions than one may have
pub record IsWithinLimits (plant : PlantDefinition) : Type 0 where
  pub some_atom : 0 < length plant.atoms
  pub atoms : length plant.atoms ≤ MAX_ATOMS
  pub wires : length plant.wires ≤ MAX_WIRES
  pub interactions : length (plant_interactions plant) ≤ MAX_INTERACTIONS

-- ---- their order

-- the numbers that choices are ordered by: the connector, then the mask, then the transitions in rising order of their atoms
abbrev pub order_key : ChoiceDefinition → List ℕ
order_key c = c.connector ∷ c.mask ∷ map (λ m. m.transition) c.moves

-- one row of numbers is before another of the same length: at the first place where they differ, it has the lower number
abbrev pub comes_before : List ℕ → List ℕ → Bool
comes_before [] ns = false
comes_before (m ∷ ms) [] = false
comes_before (m ∷ ms) (n ∷ ns) = nat_lt m n || (m == n && comes_before ms ns)

-- one choice is before another
abbrev pub IsBefore : ChoiceDefinition → ChoiceDefinition → Type 0
IsBefore c d = comes_before (order_key c) (order_key d) ≡ true
