-- A task that watches no run.
use Rattle.std.proofs.Common.{◌≡◌, refl, false, None, Result, Ok, Err}
use Rattle.std.specs.Prelude.{IfErr}
use Rattle.plant_tasks.specs.Ending.{IfEnded, IfRead, IsOfTask, IsOfWatched}
use Rattle.plant_tasks.specs.declared.ending.PlantEnding.{PlantEnding}
use Rattle.plant_tasks.specs.declared.ending.PlantEnding.TheVariants as ending

-- it did not end by what must not hold, nor by words that can't be read
pub record IsUnwatched (ended : Result (Unit {0}) PlantEnding) : Type 0 where
  pub held : IfEnded ended (λ held. held ≡ false)
  pub read : IfRead ended (λ bad. bad ≡ None)
  pub of_watched : IfErr ended IsOfWatched

-- this is so of each task that ends as one without watches
pub unwatched : (ended : Result (Unit {0}) PlantEnding) → IfErr ended IsOfTask → IsUnwatched ended
unwatched (Ok done) of_task = record { held = refl; read = refl; of_watched = tt }
unwatched (Err ending.Usage) of_task = absurd of_task
unwatched (Err (ending.Plant fault)) of_task = absurd of_task
unwatched (Err ending.Unopened) of_task = absurd of_task
unwatched (Err ending.InputUnread) of_task = record { held = tt; read = tt; of_watched = tt }
unwatched (Err ending.LinesUnread) of_task = absurd of_task
unwatched (Err (ending.Refused refusal)) of_task = record { held = tt; read = refl; of_watched = tt }
unwatched (Err ending.Unsaved) of_task = absurd of_task
unwatched (Err (ending.NoAtom place)) of_task = record { held = tt; read = tt; of_watched = tt }
unwatched (Err (ending.NoConnector place)) of_task = absurd of_task
unwatched (Err (ending.BadWatch place fault)) of_task = absurd of_task
unwatched (Err ending.Held) of_task = absurd of_task
unwatched (Err ending.Memory) of_task = record { held = tt; read = tt; of_watched = tt }
unwatched (Err ending.Unwritten) of_task = record { held = tt; read = tt; of_watched = tt }
