use Rattle.std.proofs.Common.{◌≡◌, ◌<◌, ℕ, length, drop, Some}
use Rattle.std.specs.Prelude.{slice_get}
use Rattle.connector_tree.specs.declared.tree.TheConstants.{MAX_LEAVES}
use Rattle.step_core.specs.Job.{JobDefinition}
use Rattle.step_core.specs.Jobs.{jobs_of}
use Rattle.step_executor.specs.Outstanding.{kept_in, put_all}
use Rattle.step_executor.proofs.keeping.keep_jobs.Given as goal

-- what is left to be put leads to the same, and what is put is told
abbrev pub invariant-loop-place : goal.invariant-loop-place
invariant-loop-place l = record {
  kept : put_all (drop l.place l.moves) (drop l.place (jobs_of l.jobs)) (kept_in l.kept.items) ≡ put_all l.moves (jobs_of l.jobs) (kept_in l.initial.kept.items);
  long : length l.kept.items ≡ length l.initial.kept.items;
  row : length l.delivered ≡ MAX_LEAVES;
  delivered : (place : ℕ) (job : JobDefinition) → place < l.place → slice_get (jobs_of l.jobs) place ≡ Some job → slice_get l.delivered place ≡ Some job.delivered;
}
