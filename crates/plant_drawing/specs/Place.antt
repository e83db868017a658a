-- Places among choices that stand in the order of their connectors.
use Rattle.std.specs.Prelude.{◌≡◌, ◌<◌, ◌≤◌, ℕ, List, Some, length, slice_get}
use Rattle.plant_model.specs.Choice.{ChoiceDefinition}

-- the choices before a place are of earlier connectors
abbrev pub AreEarlier : List ChoiceDefinition → ℕ → ℕ → Type 0
AreEarlier cs connector place = (i : ℕ) (c : ChoiceDefinition) → i < place → slice_get cs i ≡ Some c → c.connector < connector

-- the choices from a place on are of this connector or of later ones
abbrev pub AreLater : List ChoiceDefinition → ℕ → ℕ → Type 0
AreLater cs connector place = (i : ℕ) (c : ChoiceDefinition) → place ≤ i → slice_get cs i ≡ Some c → connector ≤ c.connector

-- the first choice of this connector or of a later one stands between two places, or at one of them
pub record IsBetween (cs : List ChoiceDefinition) (connector low high : ℕ) : Type 0 where
  pub ordered : low ≤ high
  pub within : high ≤ length cs
  pub earlier : AreEarlier cs connector low
  pub later : AreLater cs connector high

-- the place is that of the first choice of this connector or of a later one, or that after the last if there is none
abbrev pub IsFirstFrom : List ChoiceDefinition → ℕ → ℕ → Type 0
IsFirstFrom cs connector place = IsBetween cs connector place place
