-- What a fire by a number, or by a connector, answers and changes.
use Rattle.std.specs.Prelude.{◌≡◌, ◌≢◌, ℕ, ◌<◌, ◌≤◌, ◌-◌, ◌^◌, [], Some, Result, Ok, Err, if◌then◌else◌, length, nat_lt, slice_get}
use Rattle.plant_model.specs.Choice.{ChoiceDefinition}
use Rattle.plant_model.specs.Plant.{PlantDefinition}
use Rattle.plant_core.specs.Events.{IsFire}
use Rattle.plant_core.specs.View.{View, sure_in}
use Rattle.plant_core.specs.declared.events.FiredAs.{FiredAs}
use Rattle.plant_for_c.specs.declared.firing.Unfired.{Unfired}
use Rattle.plant_for_c.specs.declared.firing.Unfired.TheVariants.{NoSuch, NoChoice, Several, Refused}

-- how a count is told in 64 bits: the largest number stands for as many or more
abbrev pub told_count : ℕ → ℕ
told_count count = if nat_lt count (2 ^ 64 - 1) then count else 2 ^ 64 - 1

-- The choice with this number is one of the connector.
abbrev pub IsOf : PlantDefinition → View → ℕ → ℕ → Type 0
IsOf plant v connector number = (c : ChoiceDefinition) × (slice_get (sure_in plant v) number ≡ Some c) × (c.connector ≡ connector)

-- There is no choice with this number, or it is one of another connector.
abbrev pub IsNotOf : PlantDefinition → View → ℕ → ℕ → Type 0
IsNotOf plant v connector number = (c : ChoiceDefinition) → slice_get (sure_in plant v) number ≡ Some c → c.connector ≢ connector

-- A fire of the choice at a place, modulo the number of choices, without values, or the plant refuses it.
abbrev pub IsFireAt : PlantDefinition → View → ℕ → Result FiredAs Unfired → View → Type 0
IsFireAt plant v place (Ok fired) w = IsFire plant v place [] (Ok fired) w
IsFireAt plant v place (Err (Refused refused)) w = IsFire plant v place [] (Err refused) w
IsFireAt plant v place (Err other) w = ⊥

-- A fire by a number: where the plant has choices and none with this number, it is refused and nothing changes. Where it has one with this number, it is a
-- fire of this very choice; and where it has none at all, it is refused as a fire is.
abbrev pub IsFireByNumber : PlantDefinition → View → ℕ → Result FiredAs Unfired → View → Type 0
IsFireByNumber plant v number answer w =
    (0 < length (sure_in plant v) → length (sure_in plant v) ≤ number → (answer ≡ Err NoSuch) × (w ≡ v))
    × (number < length (sure_in plant v) → IsFireAt plant v number answer w)
    × (length (sure_in plant v) ≡ 0 → IsFireAt plant v number answer w)

-- The choice with this number is the only one of the connector.
pub record IsOnlyOf (plant : PlantDefinition) (v : View) (connector number : ℕ) : Type 0 where
  pub there : IsOf plant v connector number
  pub only : (other : ℕ) → other ≢ number → IsNotOf plant v connector other

-- A fire by a connector: where it is not there, or has no choice, or has two and more, it is refused and nothing changes. Else it is a fire of its only
-- choice, or the plant refuses it.
abbrev pub IsFireByConnector : PlantDefinition → View → ℕ → Result FiredAs Unfired → View → Type 0
IsFireByConnector plant v connector (Ok fired) w = (number : ℕ) × IsOnlyOf plant v connector number × IsFire plant v number [] (Ok fired) w
IsFireByConnector plant v connector (Err NoSuch) w = (length plant.wires ≤ connector) × (w ≡ v)
IsFireByConnector plant v connector (Err NoChoice) w = ((number : ℕ) → IsNotOf plant v connector number) × (w ≡ v)
IsFireByConnector plant v connector (Err Several) w =
    (first : ℕ) × (second : ℕ) × (first < second) × IsOf plant v connector first × IsOf plant v connector second × (w ≡ v)
IsFireByConnector plant v connector (Err (Refused refused)) w = (number : ℕ) × IsOnlyOf plant v connector number × IsFire plant v number [] (Err refused) w
