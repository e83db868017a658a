use Rattle.std.proofs.Common.{◌≡◌, ℕ, sym, ◌∙◌, ap, subst, cond, get_or, set}
use Rattle.std.specs.Prelude.{Some, None, slice_get}
use Rattle.petri_atom.specs.Definition.{Fits}
use Rattle.plant_model.specs.Fitting.{AllFit}
use Rattle.plant_model.specs.System.{plant_of}
use Rattle.plant_model.specs.declared.system.System.{System}
use Rattle.step_core.specs.Dispatcher.{parts_in}
use Rattle.step_core.specs.Job.{JobDefinition, job_done, worked}
use Rattle.step_executor.specs.Executing.{jobs_in, plant_in, states_in}
use Rattle.step_executor.specs.Outstanding.{AreCommitted, AreKept, AreMarked, committed_by, is_part_away, kept_in, whole_of}
use Rattle.step_executor.proofs.Going.{back-committed, back-kept, back-noted, back-whole, back-within, was-away, whole-out}
use Rattle.step_executor.proofs.Marked.{marked-back}
use Rattle.step_executor.proofs.Standing.{fewer-kept, noted-same, put-same}
use Rattle.step_executor.proofs.executor.Executor.back.Goals as goal

-- the job is kept
its-job : (c : goal.After-into_state) → get_or (jobs_in c.args.self.now) (job_done c.args.done).atom None ≡ Some (job_done c.args.done)
its-job c = c.is_kept.ensures.0 c.if-not-is_kept.false

pub back-requires-clause-away : goal.back-requires-clause-away
back-requires-clause-away c =
    let run = c.args.self.now in
    let job : JobDefinition = job_done c.args.done in
    ap (slice_get (parts_in run.dispatcher)) c.atom-atom.ensures ∙
    was-away (plant_in run) (jobs_in run) (parts_in run.dispatcher) run.outstanding run.dispatcher.of_plant job.atom job (its-job c)

pub back-requires-clause-fits : goal.back-requires-clause-fits
back-requires-clause-fits c = λ a its_atom.
    let run = c.args.self.now in
    let job : JobDefinition = job_done c.args.done in
    let there : slice_get (states_in run) job.atom ≡ Some (worked job) = whole-out (plant_in run) (jobs_in run) (parts_in run.dispatcher) run.outstanding job.atom job (its-job c) in
    let known : slice_get (plant_in run).atoms job.atom ≡ Some a = ap (slice_get (plant_in run).atoms) (sym c.atom-atom.ensures) ∙ its_atom in
    subst (Fits a) (sym c.into_state.ensures.state) (run.fits job.atom a (worked job) known there)

pub returns-clause-taken : goal.returns-clause-taken
returns-clause-taken c = (
  c.is_kept.ensures.0 c.if-not-is_kept.false,
  fewer-kept c.args.self.now.kept.items c.from.result (job_done c.args.done).atom (c.from.ensures ∙ c.atom-atom.ensures),
)

pub returns-clause-states : goal.returns-clause-states
returns-clause-states c =
    let run = c.args.self.now in
    let job : JobDefinition = job_done c.args.done in
    let taken = returns-clause-taken c in
    ap (λ js. whole_of js (parts_in c.back.new.self)) taken.1 ∙
    ap (whole_of (set (jobs_in run) job.atom None)) (c.back.ensures.parts ∙ put-same (parts_in run.dispatcher) _ job.atom _ _ c.atom-atom.ensures c.into_state.ensures.state) ∙
    back-whole (plant_in run) (jobs_in run) (parts_in run.dispatcher) run.outstanding run.dispatcher.of_plant job.atom job taken.0

pub returns-clause-committed : goal.returns-clause-committed
returns-clause-committed c =
    let run = c.args.self.now in
    let job : JobDefinition = job_done c.args.done in
    ap (committed_by c.commit_back.new.parts) (returns-clause-states c) ∙
    ap (λ ps. committed_by ps (states_in run)) (c.commit_back.ensures ∙ noted-same run.committed _ job.atom _ _ c.atom-atom.ensures c.after.ensures.state) ∙
    back-noted (plant_in run) (jobs_in run) (parts_in run.dispatcher) run.outstanding run.dispatcher.of_plant job.atom job (returns-clause-taken c).0 run.committed run.behind

pub invariant_of-self : goal.invariant_of-self
invariant_of-self c =
    let run = c.args.self.now in
    let plant = plant_in run in
    let job : JobDefinition = job_done c.args.done in
    let n : ℕ = job.atom in
    let its : get_or (jobs_in run) n None ≡ Some job = c.is_kept.ensures.0 c.if-not-is_kept.false in
    let items = kept_in (set run.kept.items c.from.result None) in
    let after = parts_in c.back.new.self in
    let fewer = fewer-kept run.kept.items c.from.result n (c.from.ensures ∙ c.atom-atom.ensures) in
    let more = c.back.ensures.parts ∙ put-same (parts_in run.dispatcher) _ n _ _ c.atom-atom.ensures c.into_state.ensures.state in
    let noted = c.commit_back.ensures ∙ noted-same run.committed _ n _ _ c.atom-atom.ensures c.after.ensures.state in
    let whole : whole_of items after ≡ states_in run =
    ap (λ js. whole_of js after) fewer ∙ ap (whole_of (set (jobs_in run) n None)) more ∙ back-whole plant (jobs_in run) (parts_in run.dispatcher) run.outstanding run.dispatcher.of_plant n job its in
    let same = sym c.back.ensures.system in
    record {
      outstanding = subst (λ (s : System). AreKept (plant_of s) after items) same
          (subst (λ js. AreKept plant after js) (sym fewer)
          (subst (λ ps. AreKept plant ps (set (jobs_in run) n None)) (sym more) (back-kept plant (jobs_in run) (parts_in run.dispatcher) run.outstanding run.dispatcher.of_plant n job its)));
      fits = subst (λ (s : System). AllFit (plant_of s) (whole_of items after)) same
          (subst (AllFit plant) (sym whole) run.fits);
      behind = subst (λ (s : System). AreCommitted (plant_of s) c.commit_back.new.parts items) same
          (subst (AreCommitted plant c.commit_back.new.parts) (sym fewer)
          (subst (λ ps. AreCommitted plant ps (set (jobs_in run) n None)) (sym noted) (back-committed plant (jobs_in run) (parts_in run.dispatcher) run.outstanding run.dispatcher.of_plant n job its run.committed run.behind)));
      marked = subst (λ ps. AreMarked run.moved ps after) (sym noted)
          (subst (AreMarked run.moved (cond (is_part_away run.committed n) (set run.committed n (Some (worked job))) run.committed)) (sym more)
          (marked-back run.moved run.committed (parts_in run.dispatcher) run.marked n (worked job) (run.behind.many ∙ sym run.dispatcher.of_plant)
          (was-away plant (jobs_in run) (parts_in run.dispatcher) run.outstanding run.dispatcher.of_plant n job its)
          (back-within plant (jobs_in run) (parts_in run.dispatcher) run.outstanding run.dispatcher.of_plant n job its)));
    }
