-- What a durable plant shows: its system, its device, and its view.
use Rattle.std.specs.Prelude.{ℕ, List}
use Rattle.disk_model.specs.DiskState.{DiskState}
use Rattle.disk_model.specs.declared.disk.Disk.{Ghosts}
use Rattle.plant_model.specs.Plant.{PlantDefinition}
use Rattle.plant_model.specs.System.{digest_of}
use Rattle.step_executor.specs.Executing.{committed_in, jobs_in, plant_in, states_in, system_in}
use Rattle.plant_core.specs.View.{View, view_by}
use Rattle.plant_core.specs.declared.plant.Plant.{Plant}

-- the plant that it runs, and the digest of its text
abbrev pub definition_of : {D : Type 0} {disk : Ghosts D} → Plant D disk → PlantDefinition
definition_of p = plant_in p.executor

abbrev pub text_digest : {D : Type 0} {disk : Ghosts D} → Plant D disk → List ℕ
text_digest p = digest_of (system_in p.executor)

-- its device
abbrev pub device_of : {D : Type 0} {disk : Ghosts D} → Plant D disk → DiskState
device_of p = p.cells

-- its view
abbrev pub view_of : {D : Type 0} {disk : Ghosts D} → Plant D disk → View
view_of p = view_by (committed_in p.executor) p.acked_counts p.number p.tail.items (states_in p.executor) p.counts p.journal p.marks.items p.snapshots (jobs_in p.executor) p.broken
