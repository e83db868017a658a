-- The warnings of connectors.
use Rattle.std.specs.Prelude.{ℕ, Bool, false, not, List, slice_get}
use Rattle.std.specs.List.{list_any}
use Rattle.std.specs.Option.{option_map_or}
use Rattle.petri_atom.specs.Expression.{Tree, number, variable, negation, operation, is_true}
use Rattle.plant_model.specs.Plant.{PlantDefinition, WireDefinition}
use Rattle.plant_model.specs.declared.wire.Export.{Export}
use Rattle.text_io.specs.Numbered.{numbered}
use Rattle.plant_warnings.specs.Lines.{warned_if}
use Rattle.plant_warnings.specs.declared.warning.Warning.{Warning}
use Rattle.plant_warnings.specs.declared.warning.Warning.TheVariants.{ZeroGuard}

-- an expression is the number 0
abbrev pub is_zero : Tree Export → Bool
is_zero (number n) = not (is_true n)
is_zero (variable v) = false
is_zero (negation e) = false
is_zero (operation op e f) = false

-- a guard clause of the connector is the number 0. It names no variable, so it applies to each interaction, and none is possible
abbrev pub has_zero_guard : WireDefinition → Bool
has_zero_guard w = list_any is_zero w.guards

-- the connector with a number is dead: it can't be fired, since a guard clause is 0
abbrev pub is_dead : PlantDefinition → ℕ → Bool
is_dead plant connector = option_map_or has_zero_guard (slice_get plant.wires connector) false

-- the warning of a guard clause of a connector, if there is one
abbrev pub guard_warnings : ℕ → ℕ → Tree Export → List Warning
guard_warnings connector guard clause = warned_if (is_zero clause) (ZeroGuard connector guard)

-- the warnings of the connector with a number: those of its guard clauses
abbrev pub connector_warnings : ℕ → WireDefinition → List Warning
connector_warnings connector w = numbered (guard_warnings connector) 0 w.guards
