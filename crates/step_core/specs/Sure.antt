-- Which choices are sure while some atoms are away, and what becomes of the parts of a state.
use Rattle.std.specs.Prelude.{ℕ, suc, Bool, false, not, ◌&&◌, ◌||◌, ◌==◌, if◌then◌else◌, List, [], ◌∷◌, map, slice_get, Contains, Option, None, option_map}
use Rattle.std.specs.List.{list_all, list_any}
use Rattle.std.specs.Option.{option_map_or}
use Rattle.petri_atom.specs.Local.{Local, Row}
use Rattle.petri_atom.specs.Definition.{AtomDefinition}
use Rattle.priority_filter.specs.Decided.{is_overruled}
use Rattle.plant_model.specs.Plant.{PlantDefinition, WireDefinition}
use Rattle.plant_model.specs.Choice.{ChoiceDefinition, Interaction, choices_of, flat_from, is_offered_port, is_possible, named, passes_guards, plant_interactions}
use Rattle.plant_model.specs.Firing.{FiringDefinition}
use Rattle.plant_model.specs.Step.{stepped, transfer}
use Rattle.plant_model.specs.declared.choice.Move.{Move}
use Rattle.step_core.specs.Parts.{is_present, may_count_in, shown_in}

-- ---- interactions

-- all participants of an interaction are present
abbrev pub is_whole : List (Option Local) → Interaction → Bool
is_whole parts i = list_all (λ p. is_present parts p.atom) i.ports

-- an interaction is ruled out, whatever comes back: the atom of one of its ports is present and does not offer it, or all participants
-- are present and a guard clause that applies is 0
abbrev pub is_ruled_out : List AtomDefinition → List WireDefinition → List (Option Local) → Interaction → Bool
is_ruled_out atoms wires parts i =
    list_any (λ p. is_present parts p.atom && not (is_offered_port atoms (shown_in parts) p)) i.ports ||
    (is_whole parts i && not (passes_guards atoms wires (shown_in parts) i))

-- the interaction with a number in a list of interactions is there and not ruled out
abbrev pub may_come : List AtomDefinition → List WireDefinition → List (Option Local) → List Interaction → ℕ → Bool
may_come atoms wires parts interactions n =
    option_map_or (λ i. not (is_ruled_out atoms wires parts i)) (slice_get interactions n) false

-- an interaction is open: a participant is away, and each port whose atom is present is offered
abbrev pub is_open : List AtomDefinition → List (Option Local) → Interaction → Bool
is_open atoms parts i =
    not (is_whole parts i) && list_all (λ p. not (is_present parts p.atom) || is_offered_port atoms (shown_in parts) p) i.ports

-- the interaction with a number is there and open
abbrev pub is_open_at : List AtomDefinition → List (Option Local) → List Interaction → ℕ → Bool
is_open_at atoms parts interactions n = option_map_or (is_open atoms parts) (slice_get interactions n) false

-- the interaction with a number is there, all its participants are present, and it is possible
abbrev pub is_possible_in : PlantDefinition → List (Option Local) → List Interaction → ℕ → Bool
is_possible_in plant parts interactions n =
    option_map_or (λ i. is_whole parts i && is_possible plant.atoms plant.wires (shown_in parts) i) (slice_get interactions n) false

-- it is sure where each interaction above it, by the rules that count or may, is ruled out
abbrev pub is_sure_at : PlantDefinition → List (Option Local) → List Interaction → ℕ → Bool
is_sure_at plant parts interactions n =
    is_possible_in plant parts interactions n &&
    not (is_overruled (may_count_in plant parts) (map named interactions) (may_come plant.atoms plant.wires parts interactions) n)

-- ---- choices

-- the choices of the interaction with a number: none where it is not sure
abbrev pub sure_at : PlantDefinition → List (Option Local) → List Interaction → ℕ → Interaction → List ChoiceDefinition
sure_at plant parts interactions n i = if is_sure_at plant parts interactions n then choices_of plant.atoms (shown_in parts) i else []

-- the sure choices, by the interactions: those of each sure one, in order
abbrev pub sure_among : PlantDefinition → List (Option Local) → List Interaction → List ChoiceDefinition
sure_among plant parts interactions = flat_from (sure_at plant parts interactions) 0 interactions

-- the sure choices: those of each sure interaction, in the order of the interactions
abbrev pub sure_choices : PlantDefinition → List (Option Local) → List ChoiceDefinition
sure_choices plant parts = sure_among plant parts (plant_interactions plant)

-- a choice is sure where it is one of these
abbrev pub IsSure : PlantDefinition → List (Option Local) → ChoiceDefinition → Type 0
IsSure plant parts c = Contains (sure_choices plant parts) c

-- ---- what becomes of the parts

-- what moves leave of the parts of the atoms from the number n on: an atom that is away stays so
abbrev pub moved_parts : List AtomDefinition → List Move → (ℕ → Row) → ℕ → List (Option Local) → List (Option Local)
moved_parts atoms moves delivered n [] = []
moved_parts atoms moves delivered n (part ∷ parts) =
    option_map (stepped atoms moves delivered n) part ∷ moved_parts atoms moves delivered (suc n) parts

-- the parts after a firing of atoms that are present: each participant fires its transition with what is delivered to it
abbrev pub went_on : PlantDefinition → List (Option Local) → FiringDefinition → List (Option Local)
went_on plant parts f = moved_parts plant.atoms f.moves (transfer plant (shown_in parts) f) 0 parts

-- one of the moves is of the atom with a number
abbrev pub has_move : List Move → ℕ → Bool
has_move moves n = list_any (λ m. m.atom == n) moves

-- the parts that are left where the atoms of moves leave
abbrev pub left_from : List Move → ℕ → List (Option Local) → List (Option Local)
left_from moves n [] = []
left_from moves n (part ∷ parts) = (if has_move moves n then None else part) ∷ left_from moves (suc n) parts

abbrev pub left_by : List (Option Local) → List Move → List (Option Local)
left_by parts moves = left_from moves 0 parts
