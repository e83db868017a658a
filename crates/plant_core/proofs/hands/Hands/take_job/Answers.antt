use Rattle.std.proofs.Common.{◌≡◌, rules, ◌∙◌, ap, sym, subst, ℕ, List, get_or, set, Option, None}
use Rattle.std.proofs.lemmas.List.{map-set}
use Rattle.step_core.specs.Job.{JobDefinition, job_of}
use Rattle.step_core.specs.declared.job.Job.{Job}
use Rattle.std.specs.Prelude.{option_map}
use Rattle.step_executor.specs.Outstanding.{kept_in}
use Rattle.plant_core.specs.Hands.{AreOwnJobs, job_at}
use Rattle.plant_core.proofs.JobsHeld.{kept-at, own-taken, own-without}
use Rattle.plant_core.proofs.hands.Hands.take_job.Goals as goal

pub invariant_of-self-2 : goal.invariant_of-self-2
invariant_of-self-2 c =
    let self = c.args.self.now in
    let items = self.jobs.items in
    let n : ℕ = c.from.result in
    let none : Option JobDefinition = None in
    let gone : kept_in (set items n c.take.new.self) ≡ set (kept_in items) n none =
    ap (λ (o : Option Job). kept_in (set items n o)) c.take.ensures.after ∙ map-set (λ (j : Option Job). option_map job_of j) items n None in
    record {
      own = self.own;
      own_jobs = subst AreOwnJobs (sym gone) (own-without (kept_in items) n self.own_jobs);
    }

pub returns-clause-left : goal.returns-clause-left
returns-clause-left c =
    let self = c.args.self.now in
    let items = self.jobs.items in
    let n : ℕ = c.from.result in
    let none : Option JobDefinition = None in
    ap (λ (jobs : List (Option JobDefinition)). record { saved = self.held.items; jobs = jobs })
    (ap (λ (o : Option Job). kept_in (set items n o)) c.take.ensures.after ∙ map-set (λ (j : Option Job). option_map job_of j) items n None ∙ ap (λ (k : ℕ). set (kept_in items) k none) c.from.ensures)

pub returns-clause-own : goal.returns-clause-own
returns-clause-own c =
    let self = c.args.self.now in
    let none : Option Job = None in
    let item : c.take.result ≡ get_or self.jobs.items c.args.atom none = search rules in
    let found : option_map job_of c.take.result ≡ job_at (kept_in self.jobs.items) c.args.atom = ap (option_map job_of) item ∙ kept-at self.jobs.items c.args.atom in
    own-taken (kept_in self.jobs.items) c.args.atom c.take.result self.own_jobs found
