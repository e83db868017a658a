-- The possible and the allowed interactions of a state, each judged once.
use Rattle.std.specs.Prelude.{◌≡◌, ℕ, Bool, ◌<◌, List, length, false}
use Rattle.std.specs.Ordering.{nat_cmp}
use Rattle.std.specs.FinSet.{FinSet, contains}
use Rattle.petri_atom.specs.Local.{Local}
use Rattle.petri_atom.specs.Definition.{AtomDefinition}
use Rattle.plant_model.specs.Plant.{WireDefinition, PlantDefinition}
use Rattle.plant_model.specs.Choice.{Interaction, is_possible_at, is_allowed_at}

-- the set holds the numbers of the interactions that are possible, and no other
abbrev pub ArePossible : List AtomDefinition → List WireDefinition → List Local → List Interaction → FinSet nat_cmp → Type 0
ArePossible atoms wires states interactions set =
    (n : ℕ) → contains set n ≡ is_possible_at atoms wires states interactions n

-- the set is right at each interaction that a test does not pass
abbrev pub ArePossibleBut : (ℕ → Bool) → List AtomDefinition → List WireDefinition → List Local → List Interaction → FinSet nat_cmp → Type 0
ArePossibleBut touched atoms wires states interactions set =
    (n : ℕ) → (n < length interactions → touched n ≡ false) → contains set n ≡ is_possible_at atoms wires states interactions n

-- the set holds the numbers of the interactions that are allowed, and no other
abbrev pub AreAllowed : PlantDefinition → List Local → List Interaction → FinSet nat_cmp → Type 0
AreAllowed plant states interactions set =
    (n : ℕ) → contains set n ≡ is_allowed_at plant states interactions n
