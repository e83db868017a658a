-- What callers see of a run that was stopped.
use Rattle.std.specs.Prelude.{ℕ, List}
use Rattle.plant_core.specs.declared.events.Event.{Event}
use Rattle.plant_model.specs.declared.system.System.{System}

-- The run of these events on a device with a ring of so many records, stopped at its write or sync with this number, from 1 on.
pub record HaltedRun : Type 0 where
  pub system : System
  pub ring : ℕ
  pub events : List Event
  pub stop : ℕ
