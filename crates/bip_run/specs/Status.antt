-- The exit status of the program.
use Rattle.std.specs.Prelude.{ℕ, Result, Ok, Err}
use Rattle.plant_tasks.specs.Ending.{status_at}
use Rattle.plant_tasks.specs.declared.ending.PlantEnding.{PlantEnding}

-- the exit status of the program: 0 where it did what it was asked for, and where it ends early the status of that
abbrev pub status_of : {A : Type 0} → Result A PlantEnding → ℕ
status_of (Ok done) = 0
status_of (Err ending) = status_at ending
