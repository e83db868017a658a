use Rattle.std.proofs.Common.{◌≡◌, ℕ, [], ◌∙◌, ap, sym, subst, arith, List, drop, length, set, Option, Some}
use Rattle.std.specs.Prelude.{option_map, slice_get}
use Rattle.std.proofs.lemmas.List.{drop_all, drop-drop, length-drop, length-map, length-set}
use Rattle.record_codec.specs.Saved.{SavedFields}
use Rattle.step_core.specs.Job.{JobDefinition, job_of}
use Rattle.step_core.specs.Jobs.{jobs_of}
use Rattle.step_core.specs.declared.job.Job.{Job}
use Rattle.step_executor.specs.Outstanding.{kept_in}
use Rattle.plant_core.specs.Hands.{AreOwnJobs, with_jobs}
use Rattle.plant_core.proofs.JobsHeld.{at-drop, first-rest, kept-put, nothing-left, own-with}
use Rattle.plant_core.proofs.hands.Hands.hold_jobs.Goals as goal

pub loop-preserved : goal.loop-preserved
loop-preserved c =
    let all = jobs_of c.args.jobs.now in
    let jobs = jobs_of c.loop.jobs in
    let items = c.loop.self.jobs.items in
    let n : ℕ = c.from-atom.result in
    let job : Job = c.in-Some.job in
    let at : n ≡ (job_of job).atom = c.from-atom.ensures ∙ c.atom.ensures in
    let first : slice_get jobs 0 ≡ Some (job_of job) = sym c.in-Some.ensures.first in
    record {
      left = c.in-Some.ensures.rest ∙ ap (drop 1) c.loop.invariant.left ∙ drop-drop 1 c.loop.index all;
      saved = c.loop.invariant.saved;
      many = length-set items n (Some job) ∙ c.loop.invariant.many;
      held = ap (λ (js : List JobDefinition). with_jobs js (kept_in (set items n (Some job)))) c.in-Some.ensures.rest ∙
          ap (with_jobs (drop 1 jobs)) (kept-put items n job at) ∙
          sym (ap (λ (js : List JobDefinition). with_jobs js (kept_in items)) (first-rest jobs (job_of job) first)) ∙
          c.loop.invariant.held;
    }

pub index_mut-requires : goal.index_mut-requires
index_mut-requires c =
    let all = jobs_of c.args.jobs.now in
    let job : Job = c.in-Some.job in
    let first : slice_get (drop c.loop.index all) 0 ≡ Some (job_of job) = ap (λ (js : List JobDefinition). slice_get js 0) (sym c.loop.invariant.left) ∙ sym c.in-Some.ensures.first in
    omega (arith, c.from-atom.ensures, c.atom.ensures, c.requires.there c.loop.index (job_of job) (at-drop all c.loop.index (job_of job) first), length-map c.args.self.now.jobs.items (λ (j : Option Job). option_map job_of j), c.loop.invariant.many, c.loop.self.jobs.ok.0)

pub invariant_of-self : goal.invariant_of-self
invariant_of-self c =
    let items = c.loop.self.jobs.items in
    let job : Job = c.in-Some.job in
    record {
      own = c.loop.self.own;
      own_jobs = subst AreOwnJobs (sym (kept-put items c.from-atom.result job (c.from-atom.ensures ∙ c.atom.ensures))) (own-with (kept_in items) (job_of job) c.loop.self.own_jobs);
    }

pub unreachable-requires : goal.unreachable-requires
unreachable-requires c =
    let all = jobs_of c.args.jobs.now in
    let jobs = jobs_of c.loop.jobs in
    omega (arith, nothing-left jobs c.in-None.ensures.first, ap (λ (js : List JobDefinition). length js) c.loop.invariant.left, length-drop c.loop.index all, c.requires.as_many, c.loop-test.true)

pub returns : goal.returns
returns c =
    let all = jobs_of c.args.jobs.now in
    let kept = kept_in c.loop.self.jobs.items in
    let none : jobs_of c.loop.jobs ≡ [] = c.loop.invariant.left ∙ drop_all c.loop.index all (omega (arith, c.requires.as_many, c.loop-test.false)) in
    let put : kept ≡ with_jobs all (kept_in c.args.self.now.jobs.items) = sym (ap (λ (js : List JobDefinition). with_jobs js kept) none) ∙ c.loop.invariant.held in
    ap (λ (saved : List (Option SavedFields)). record { saved = saved; jobs = kept }) c.loop.invariant.saved ∙
    ap (λ (jobs : List (Option JobDefinition)). record { saved = c.args.self.now.held.items; jobs = jobs }) put
