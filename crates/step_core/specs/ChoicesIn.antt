-- The choices of some of a plant's interactions: of those that a set holds.
use Rattle.std.specs.Prelude.{◌≡◌, ℕ, List, [], take, drop, Bool, true, ◌&&◌, not, if◌then◌else◌, map}
use Rattle.petri_atom.specs.Local.{Local}
use Rattle.petri_atom.specs.Definition.{AtomDefinition}
use Rattle.priority_filter.specs.Active.{active}
use Rattle.priority_filter.specs.Decided.{is_overruled}
use Rattle.priority_filter.specs.declared.seen.At.{At}
use Rattle.plant_model.specs.Plant.{WireDefinition, PlantDefinition}
use Rattle.plant_model.specs.Choice.{Interaction, ChoiceDefinition, choices_of, flat_from, is_possible_at, named}

-- the choices of the interaction with a number: none where the set does not hold it
abbrev pub choices_where : List AtomDefinition → List Local → (ℕ → Bool) → ℕ → Interaction → List ChoiceDefinition
choices_where atoms states kept n i = if kept n then choices_of atoms states i else []

-- the choices of the interactions of the set, in order
abbrev pub choices_in : List AtomDefinition → List Local → List Interaction → (ℕ → Bool) → List ChoiceDefinition
choices_in atoms states interactions kept = flat_from (choices_where atoms states kept) 0 interactions

-- of those of them that are below a number, and of those from it on
abbrev pub choices_in_below : List AtomDefinition → List Local → List Interaction → (ℕ → Bool) → ℕ → List ChoiceDefinition
choices_in_below atoms states interactions kept n = flat_from (choices_where atoms states kept) 0 (take n interactions)

abbrev pub choices_in_from : List AtomDefinition → List Local → List Interaction → (ℕ → Bool) → ℕ → List ChoiceDefinition
choices_in_from atoms states interactions kept n = flat_from (choices_where atoms states kept) n (drop n interactions)

-- each interaction of the set is possible
abbrev pub AreAllPossible : List AtomDefinition → List WireDefinition → List Local → List Interaction → (ℕ → Bool) → Type 0
AreAllPossible atoms wires states interactions kept =
    (n : ℕ) → kept n ≡ true → is_possible_at atoms wires states interactions n ≡ true

-- the interaction with a number is possible, and no rival is above it in the order of the rules that count where some places are marked
abbrev pub is_kept_at : PlantDefinition → (At → Bool) → List Local → List Interaction → (ℕ → Bool) → ℕ → Bool
is_kept_at plant marked states interactions rivals n =
    is_possible_at plant.atoms plant.wires states interactions n &&
    not (is_overruled (active marked plant.rules) (map named interactions) rivals n)
