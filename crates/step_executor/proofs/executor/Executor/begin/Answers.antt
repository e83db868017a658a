use Rattle.std.proofs.Common.{◌≡◌, ◌≤◌, sym, ◌∙◌, ap, subst, length, arith, true}
use Rattle.std.specs.Prelude.{Some, None, option_map, slice_get}
use Rattle.std.specs.List.{list_all}
use Rattle.std.proofs.lemmas.List.{length-map}
use Rattle.std.proofs.lemmas.Option.{slice_get_within}
use Rattle.petri_atom.specs.Definition.{is_well_formed}
use Rattle.plant_model.specs.Chosen.{firing_of}
use Rattle.plant_model.specs.Fitting.{AllFit}
use Rattle.plant_model.specs.Rules.{fault_of}
use Rattle.plant_model.specs.System.{plant_of}
use Rattle.plant_model.specs.declared.limits.TheConstants.{MAX_ATOMS}
use Rattle.plant_model.specs.declared.system.System.{System}
use Rattle.plant_model.proofs.Membership.{entry-in}
use Rattle.step_core.specs.Dispatcher.{parts_in}
use Rattle.step_core.specs.Job.{job_of}
use Rattle.step_core.specs.Jobs.{AreJobsOf, jobs_of}
use Rattle.step_executor.specs.Executing.{jobs_in, plant_in}
use Rattle.step_executor.specs.Outstanding.{AreCommitted, AreKept, kept_in, whole_of}
use Rattle.step_executor.proofs.Begun.{told-are}
use Rattle.step_executor.proofs.Going.{begun-committed, begun-kept, participant-state}
use Rattle.step_executor.proofs.Standing.{committed-stays, kept-begun, marked-begun, mover-there, next-begun, next-fits, parts-known, sure-here, then}
use Rattle.step_executor.proofs.executor.Executor.begin.Goals as goal

pub begin-requires-clause-sure : goal.begin-requires-clause-sure
begin-requires-clause-sure c = sure-here c.args.self.now (firing_of c.args.choice.now c.args.inputs.now) c.requires.sure

pub keep_jobs-requires-clause-there : goal.keep_jobs-requires-clause-there
keep_jobs-requires-clause-there c = λ place m there.
    let run = c.args.self.now in
    let choice = firing_of c.args.choice.now c.args.inputs.now in
    let valid = subst (λ (s : System). fault_of (plant_of s) ≡ None) c.system.ensures c.keeps_its_rules.ensures.plant in
    let its_move : slice_get choice.moves place ≡ Some m = ap (λ ms. slice_get ms place) (sym c.as_slice-moves.ensures.moves) ∙ there in
    let who = participant-state (plant_in run) (jobs_in run) (parts_in run.dispatcher) run.outstanding choice (sure-here run choice c.requires.sure) valid c.args.counts.now m (entry-in choice.moves place m its_move) in
    omega (arith, slice_get_within (plant_in run).atoms m.atom who.0 who.2, run.outstanding.many, length-map run.kept.items (λ j. option_map job_of j))

pub mark_moved-self-requires : goal.mark_moved-self-requires
mark_moved-self-requires c = λ place m there.
    let run = c.args.self.now in
    let choice = firing_of c.args.choice.now c.args.inputs.now in
    let its_move : slice_get choice.moves place ≡ Some m = ap (λ ms. slice_get ms place) (sym c.as_slice-moves.ensures.moves) ∙ there in
    let few = subst (λ (s : System). length (plant_of s).atoms ≤ MAX_ATOMS) c.system.ensures c.keeps_its_rules.ensures.few in
    omega (arith, mover-there run choice c.requires.sure m (entry-in choice.moves place m its_move), few)

pub returns-clause-kept : goal.returns-clause-kept
returns-clause-kept c =
    let valid = subst (λ (s : System). fault_of (plant_of s) ≡ None) c.system.ensures c.keeps_its_rules.ensures.plant in
    kept-begun c.args.self.now (firing_of c.args.choice.now c.args.inputs.now) c.requires.sure valid c.args.counts.now (jobs_of c.begin.new.jobs) c.begin.ensures.jobs
    (kept_in c.keep_jobs.new.kept.items) _ c.as_slice-moves.ensures.moves c.keep_jobs.ensures.kept

pub returns-clause-next : goal.returns-clause-next
returns-clause-next c =
    let valid = subst (λ (s : System). fault_of (plant_of s) ≡ None) c.system.ensures c.keeps_its_rules.ensures.plant in
    next-begun c.args.self.now (firing_of c.args.choice.now c.args.inputs.now) c.requires.sure valid c.args.counts.now (jobs_of c.begin.new.jobs) c.begin.ensures.jobs
    (kept_in c.keep_jobs.new.kept.items) (parts_in c.begin.new.self) (returns-clause-kept c) c.begin.ensures.parts

pub invariant_of-self : goal.invariant_of-self
invariant_of-self c =
    let run = c.args.self.now in
    let plant = plant_in run in
    let counts = c.args.counts.now in
    let choice = firing_of c.args.choice.now c.args.inputs.now in
    let made = jobs_of c.begin.new.jobs in
    let items = kept_in c.keep_jobs.new.kept.items in
    let after = parts_in c.begin.new.self in
    let long = run.dispatcher.of_plant in
    let sure = sure-here run choice c.requires.sure in
    let valid = subst (λ (s : System). fault_of (plant_of s) ≡ None) c.system.ensures c.keeps_its_rules.ensures.plant in
    let formed = subst (λ (s : System). list_all is_well_formed (plant_of s).atoms ≡ true) c.system.ensures c.keeps_its_rules.ensures.atoms in
    let kept = kept-begun run choice c.requires.sure valid counts made c.begin.ensures.jobs items _ c.as_slice-moves.ensures.moves c.keep_jobs.ensures.kept in
    let whole = next-begun run choice c.requires.sure valid counts made c.begin.ensures.jobs items after kept c.begin.ensures.parts in
    let same = sym c.begin.ensures.system in
    record {
      outstanding = subst (λ (s : System). AreKept (plant_of s) after items) same
          (subst (λ js. AreKept plant after js) (sym kept)
          (subst (λ ps. AreKept plant ps (then run choice c.requires.sure valid counts made c.begin.ensures.jobs)) (sym c.begin.ensures.parts) (begun-kept plant (jobs_in run) (parts_in run.dispatcher) run.outstanding choice sure valid counts long)));
      fits = subst (λ (s : System). AllFit (plant_of s) (whole_of items after)) same
          (subst (AllFit plant) (sym whole) (next-fits run choice c.requires.sure formed));
      behind = subst (λ (s : System). AreCommitted (plant_of s) run.committed items) same
          (subst (AreCommitted plant run.committed) (sym kept) (begun-committed plant (jobs_in run) (parts_in run.dispatcher) run.outstanding choice sure valid counts long run.committed run.behind));
      marked = marked-begun run choice c.requires.sure c.mark_moved-self.result c.as_slice-moves.result.now after c.as_slice-moves.ensures.moves c.begin.ensures.parts c.mark_moved-self.ensures;
    }

pub returns-clause-committed : goal.returns-clause-committed
returns-clause-committed c = committed-stays c.args.self.now (firing_of c.args.choice.now c.args.inputs.now) c.requires.sure _ (returns-clause-next c)

pub returns-clause-jobs : goal.returns-clause-jobs
returns-clause-jobs c =
    let choice = firing_of c.args.choice.now c.args.inputs.now in
    subst (λ ps. AreJobsOf (plant_in c.args.self.now) ps choice c.args.counts.now choice.moves (jobs_of c.begin.new.jobs)) (sym (parts-known c.args.self.now)) c.begin.ensures.jobs

pub returns-clause-delivered : goal.returns-clause-delivered
returns-clause-delivered c place m there =
    let run = c.args.self.now in
    let choice = firing_of c.args.choice.now c.args.inputs.now in
    let valid = subst (λ (s : System). fault_of (plant_of s) ≡ None) c.system.ensures c.keeps_its_rules.ensures.plant in
    told-are (plant_in run) (jobs_in run) (parts_in run.dispatcher) run.outstanding choice (sure-here run choice c.requires.sure) valid c.args.counts.now (jobs_of c.begin.new.jobs) c.begin.ensures.jobs c.keep_jobs.new.delivered c.keep_jobs.ensures.delivered place m there
