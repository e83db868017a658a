-- The jobs of a choice.
use Rattle.std.specs.Prelude.{◌≡◌, ℕ, List, Option, Some, map, length, slice_get, slice_index}
use Rattle.petri_atom.specs.Local.{Local}
use Rattle.plant_model.specs.Firing.{FiringDefinition}
use Rattle.plant_model.specs.Plant.{PlantDefinition}
use Rattle.plant_model.specs.Step.{transfer}
use Rattle.plant_model.specs.declared.choice.Move.{Move}
use Rattle.step_core.specs.Job.{JobDefinition, job_of}
use Rattle.step_core.specs.Parts.{shown_in}
use Rattle.step_core.specs.Queue.{IsFreeFrom, items_in}
use Rattle.step_core.specs.declared.jobs.Jobs.{Jobs}

-- the jobs that are there, in their order
abbrev pub jobs_of : Jobs → List JobDefinition
jobs_of jobs = map job_of (items_in jobs.queue)

-- from a place on there is room
abbrev pub IsRoomFrom : ℕ → Jobs → Type 0
IsRoomFrom place jobs = IsFreeFrom place jobs.queue

-- the job of a move of a firing: the move's atom fires its transition, from the state that it has, with what the firing delivers to it
-- on the values from before; it carries the atom's count
pub record IsJobOf (plant : PlantDefinition) (parts : List (Option Local)) (f : FiringDefinition) (counts : List ℕ) (m : Move) (job : JobDefinition) : Type 0 where
  pub definition : slice_get plant.atoms m.atom ≡ Some job.definition
  pub atom : job.atom ≡ m.atom
  pub count : job.count ≡ slice_index counts m.atom
  pub transition : job.transition ≡ m.transition
  pub delivered : job.delivered ≡ transfer plant (shown_in parts) f m.atom
  pub state : slice_get parts m.atom ≡ Some (Some job.state)

-- the jobs are those of the moves, one for each, in the moves' order
pub record AreJobsOf (plant : PlantDefinition) (parts : List (Option Local)) (f : FiringDefinition) (counts : List ℕ) (moves : List Move) (jobs : List JobDefinition) : Type 0 where
  pub as_many : length jobs ≡ length moves
  pub each : (place : ℕ) (m : Move) (job : JobDefinition) → slice_get moves place ≡ Some m → slice_get jobs place ≡ Some job → IsJobOf plant parts f counts m job
