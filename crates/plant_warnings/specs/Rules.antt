-- The warnings of priority rules.
use Rattle.std.specs.Prelude.{ℕ, Bool, not, ◌&&◌, ◌==◌, if◌then◌else◌, List, [], ◌∷◌, Option, Some, None}
use Rattle.std.specs.List.{list_any}
use Rattle.std.specs.Option.{option_map_or}
use Rattle.priority_filter.specs.Decided.{is_proper_subset}
use Rattle.priority_filter.specs.declared.rule.Side.{Side}
use Rattle.priority_filter.specs.declared.rule.Side.TheVariants.{Whole, One}
use Rattle.priority_filter.specs.declared.rule.Rule.{Rule}
use Rattle.priority_filter.specs.declared.rule.Rule.TheVariants.{Under, UnderAt, Maximal}
use Rattle.plant_model.specs.Choice.{Interaction, plant_interactions}
use Rattle.plant_model.specs.Plant.{PlantDefinition}
use Rattle.plant_warnings.specs.Connectors.{is_dead}
use Rattle.plant_warnings.specs.Lines.{warned_if}
use Rattle.plant_warnings.specs.declared.warning.Warning.{Warning}
use Rattle.plant_warnings.specs.declared.warning.Warning.TheVariants.{NothingWithin, DeadSide}

-- the number of the connector of a side
abbrev pub side_connector : Side → ℕ
side_connector (Whole connector) = connector
side_connector (One connector mask) = connector

-- the connector of the first of two sides whose connector is dead, if there is one
abbrev pub dead_side : PlantDefinition → Side → Side → Option ℕ
dead_side plant left right =
    if is_dead plant (side_connector left) then Some (side_connector left) else
    if is_dead plant (side_connector right) then Some (side_connector right) else None

-- some interaction of the connector has all leaves of the mask and more
abbrev pub is_within_one : List Interaction → ℕ → ℕ → Bool
is_within_one interactions connector mask =
    list_any (λ large. large.connector == connector && is_proper_subset mask large.mask) interactions

-- some interaction of the connector is within another one of it
abbrev pub has_one_within : List Interaction → ℕ → Bool
has_one_within interactions connector =
    list_any (λ small. small.connector == connector && is_within_one interactions connector small.mask) interactions

-- the same of a connector of the plant: that it is to be maximal puts something below something
abbrev pub orders_within : PlantDefinition → ℕ → Bool
orders_within plant connector = has_one_within (plant_interactions plant) connector

-- the warning of the rule with a number, if there is one: a side of a priority is of a dead connector, or a connector that is to be maximal
-- has no interaction within another
abbrev pub rule_warnings : PlantDefinition → ℕ → Rule → List Warning
rule_warnings plant number (Under left right) =
    option_map_or (λ connector. DeadSide number connector ∷ []) (dead_side plant left right) []
rule_warnings plant number (UnderAt left right at) =
    option_map_or (λ connector. DeadSide number connector ∷ []) (dead_side plant left right) []
rule_warnings plant number (Maximal connector) =
    warned_if (not (orders_within plant connector)) (NothingWithin number connector)
