-- Whose events a worker asks.
use Rattle.std.specs.Prelude.{◌≡◌, ℕ, List, []}
use Rattle.plant_model.specs.Plant.{PlantDefinition}
use Rattle.plant_core.specs.View.{View}
use Rattle.plant_core.specs.declared.events.Event.{Event}
use Rattle.engine_host.specs.declared.entry.Entry.{Entry}
use Rattle.worker_runs.specs.Asked.{AreAsked}
use Rattle.worker_runs.specs.declared.crew.Share.{Share}

-- the share of the worker with this number, of so many, among these events
pub record IsShare (events : List Event) (workers worker : ℕ) (share : Share) : Type 0 where
  pub events_are : share.events.now ≡ events
  pub workers_are : share.workers ≡ workers
  pub worker_is : share.worker ≡ worker

-- a watch that knew nothing knows the share's events
abbrev pub HasAsked : PlantDefinition → View → Share → List Entry → Type 0
HasAsked plant opening share seen = AreAsked plant opening share.workers share.worker 0 share.events.now [] seen
