use Rattle.std.proofs.Common.{◌≤◌, ◌<◌, ℕ}
use Rattle.plant_core.specs.Plants.{definition_of, view_of}
use Rattle.plant_for_c.specs.Fires.{IsNotOf}
use Rattle.plant_for_c.proofs.firing.next_choice.Given as goal

-- no choice from the first place on and before this one is of the connector
abbrev pub invariant-loop-place : goal.invariant-loop-place
invariant-loop-place g l = (l.from ≤ l.place) × ((place : ℕ) → l.from ≤ place → place < l.place → IsNotOf (definition_of l.plant) (view_of l.plant) l.connector place)
