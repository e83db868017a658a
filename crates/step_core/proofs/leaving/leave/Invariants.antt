use Rattle.std.proofs.Common.{◌≡◌, take}
use Rattle.plant_model.specs.Chosen.{firing_of}
use Rattle.plant_model.specs.System.{plant_of}
use Rattle.step_core.specs.Jobs.{AreJobsOf, IsRoomFrom, jobs_of}
use Rattle.step_core.specs.Sure.{left_by}
use Rattle.step_core.proofs.leaving.leave.Given as goal

-- the atoms of the moves so far have left, each with its job
abbrev pub invariant-loop-place : goal.invariant-loop-place
invariant-loop-place l = record {
  left : l.parts ≡ left_by l.initial.parts (take l.place l.moves);
  jobs : AreJobsOf (plant_of l.system) l.initial.parts (firing_of l.choice l.inputs) l.counts (take l.place l.moves) (jobs_of l.jobs);
  room : IsRoomFrom l.place l.jobs;
}
