-- Where the choice stands, it is between the two ends, which come closer.
use Rattle.std.proofs.Common.{◌≡◌, ℕ, ◌-◌, ◌≤◌, Some, length, slice_get}
use Rattle.plant_model.specs.Chosen.{choice_of}
use Rattle.step_core.proofs.places.place_of.Given as goal

abbrev pub invariant-loop-low : goal.invariant-loop-low
invariant-loop-low g l = record {
  ordered : l.low ≤ l.high;
  within : l.high ≤ length (g.L.Listed.listed l.those);
  between : (place : ℕ) → slice_get (g.L.Listed.listed l.those) place ≡ Some (choice_of l.choice) → (l.low ≤ place) × (place ≤ l.high);
}

abbrev pub decreases-loop-low : goal.decreases-loop-low
decreases-loop-low g l = l.high - l.low
