-- Which choices a state has.
use Rattle.std.specs.Prelude.{◌≡◌, ℕ, zero, suc, List, [], ◌∷◌, ◌++◌, map, filter, flat_map, length, slice_get, Contains, Bool, true, false, ◌&&◌, not, if◌then◌else◌, ◌==◌}
use Rattle.std.specs.List.{list_all, list_any}
use Rattle.std.specs.Option.{option_map_or}
use Rattle.petri_atom.specs.Local.{Local, has}
use Rattle.petri_atom.specs.Definition.{AtomDefinition, enabled, offers_port}
use Rattle.connector_tree.specs.Masks.{interactions_of, chosen}
use Rattle.connector_tree.specs.Tree.{Tree, leaves}
use Rattle.connector_tree.specs.declared.tree.Port.{Port}
use Rattle.priority_filter.specs.Active.{active}
use Rattle.priority_filter.specs.Decided.{is_overruled}
use Rattle.priority_filter.specs.declared.rule.Rule.{Rule}
use Rattle.priority_filter.specs.declared.seen.At.{At}
use Rattle.plant_model.specs.Plant.{WireDefinition, PlantDefinition, of_atom}
use Rattle.plant_model.specs.Exports.{guards_hold}
use Rattle.plant_model.specs.declared.choice.Move.{Move}

-- an interaction: the number of its connector, its leaves as a mask, and its ports in rising order of their atoms
pub record Interaction : Type 0 where
  pub connector : ℕ
  pub mask : ℕ
  pub ports : List Port

-- the ports of the atoms below a number, in rising order of their atoms
abbrev pub by_atom : ℕ → List Port → List Port
by_atom zero ports = []
by_atom (suc n) ports = by_atom n ports ++ filter (λ p. p.atom == n) ports

-- the interaction of a mask over leaves, of the connector with this number in a plant of so many atoms
abbrev pub interaction_by : ℕ → ℕ → List Port → ℕ → Interaction
interaction_by atoms k leaves mask = record { connector = k; mask = mask; ports = by_atom atoms (chosen mask 0 leaves) }

-- the interactions of the connector with this number
abbrev pub interactions_of_connector : ℕ → ℕ → Tree → List Interaction
interactions_of_connector atoms k tree =
    map (interaction_by atoms k (leaves tree)) (interactions_of tree)

-- the interactions of wires that are numbered from k on
abbrev pub interactions_from : ℕ → ℕ → List WireDefinition → List Interaction
interactions_from atoms k [] = []
interactions_from atoms k (w ∷ ws) = interactions_of_connector atoms k w.connector ++ interactions_from atoms (suc k) ws

-- the interactions of a plant, ordered by connector and then by mask
abbrev pub plant_interactions : PlantDefinition → List Interaction
plant_interactions plant = interactions_from (length plant.atoms) 0 plant.wires

-- whether the state of a port's atom offers one of the port's transitions
abbrev pub is_offered_port : List AtomDefinition → List Local → Port → Bool
is_offered_port atoms states p = of_atom atoms states p.atom (λ a s. offers_port a s p.port) false

-- the guard clauses of an interaction's connector that apply to it are not 0
abbrev pub passes_guards : List AtomDefinition → List WireDefinition → List Local → Interaction → Bool
passes_guards atoms wires states i =
    option_map_or (λ w. guards_hold atoms states (leaves w.connector) i.mask w.guards) (slice_get wires i.connector) true

-- an interaction is possible where each of its ports has an offered transition, and no guard of its connector forbids it
abbrev pub is_possible : List AtomDefinition → List WireDefinition → List Local → Interaction → Bool
is_possible atoms wires states i = list_all (is_offered_port atoms states) i.ports && passes_guards atoms wires states i

-- the move of an atom by a transition
abbrev pub move_of : ℕ → ℕ → Move
move_of atom transition = record { atom = atom; transition = transition }

-- what the atom of a port can do: one move for each transition of the port that its state offers, by rising number
abbrev pub moves_of : List AtomDefinition → List Local → Port → List Move
moves_of atoms states p =
    of_atom atoms states p.atom (λ a s. map (move_of p.atom) (enabled a s p.port)) []

-- all rows of one element from each list, the last varying fastest
abbrev pub combinations : {X : Type 0} → List (List X) → List (List X)
combinations [] = [] ∷ []
combinations (xs ∷ rest) = flat_map (λ x. map (λ row. x ∷ row) (combinations rest)) xs

-- a choice: an interaction, and one offered transition for each of its ports, in rising order of their atoms
pub record ChoiceDefinition : Type 0 where
  pub connector : ℕ
  pub mask : ℕ
  pub moves : List Move

-- the choices of one interaction
abbrev pub choices_of : List AtomDefinition → List Local → Interaction → List ChoiceDefinition
choices_of atoms states i =
    map (λ moves. record { connector = i.connector; mask = i.mask; moves = moves })
    (combinations (map (moves_of atoms states) i.ports))

-- an interaction as priority rules name it: by its connector and its mask
abbrev pub named : Interaction → ℕ × ℕ
named i = (i.connector, i.mask)

-- the interaction with a number in a list of interactions is there and possible
abbrev pub is_possible_at : List AtomDefinition → List WireDefinition → List Local → List Interaction → ℕ → Bool
is_possible_at atoms wires states interactions n = option_map_or (is_possible atoms wires states) (slice_get interactions n) false

-- a condition holds in a state in which its place is marked
abbrev pub is_marked_at : List Local → At → Bool
is_marked_at states at = option_map_or (λ s. has s.marking at.place) (slice_get states at.atom) false

-- the rules that count in a state: those without a condition, and those whose condition holds
abbrev pub active_in : PlantDefinition → List Local → List Rule
active_in plant states = active (is_marked_at states) plant.rules

-- an interaction is allowed where it is possible, and no possible one is above it in the order of the rules that count
abbrev pub is_allowed_at : PlantDefinition → List Local → List Interaction → ℕ → Bool
is_allowed_at plant states interactions n =
    is_possible_at plant.atoms plant.wires states interactions n &&
    not (is_overruled (active_in plant states) (map named interactions) (is_possible_at plant.atoms plant.wires states interactions) n)

-- what each element of a list gives, one after another; the elements are numbered from n
abbrev pub flat_from : {X Y : Type 0} → (ℕ → X → List Y) → ℕ → List X → List Y
flat_from give n [] = []
flat_from give n (x ∷ xs) = give n x ++ flat_from give (suc n) xs

-- the choices of the interaction with a number: none where it is not allowed
abbrev pub choices_at : PlantDefinition → List Local → List Interaction → ℕ → Interaction → List ChoiceDefinition
choices_at plant states interactions n i = if is_allowed_at plant states interactions n then choices_of plant.atoms states i else []

-- the choices of a state, by the interactions: those of each allowed one, in order
abbrev pub choices_among : PlantDefinition → List Local → List Interaction → List ChoiceDefinition
choices_among plant states interactions = flat_from (choices_at plant states interactions) 0 interactions

-- the choices of a state: those of each allowed interaction, in the order of the interactions
abbrev pub choices : PlantDefinition → List Local → List ChoiceDefinition
choices plant states = choices_among plant states (plant_interactions plant)

-- a state is stuck where no interaction is possible
abbrev pub IsStuck : PlantDefinition → List Local → Type 0
IsStuck plant states = list_any (is_possible plant.atoms plant.wires states) (plant_interactions plant) ≡ false

-- a choice is allowed in a state where it is one of the state's choices
abbrev pub IsAllowed : PlantDefinition → List Local → ChoiceDefinition → Type 0
IsAllowed plant states c = Contains (choices plant states) c
