-- What an atom that is away has to do, and what is done.
use Rattle.std.specs.Prelude.{◌≡◌, ℕ}
use Rattle.petri_atom.specs.Atom.{definition_of}
use Rattle.petri_atom.specs.Definition.{AtomDefinition, fired}
use Rattle.petri_atom.specs.Local.{Local, Row}
use Rattle.step_core.specs.declared.job.Done.{Done}
use Rattle.step_core.specs.declared.job.Job.{Job}

-- a job: an atom fires one of its transitions from a state, with what is delivered to it; the atom's number and a count go along
pub record JobDefinition : Type 0 where
  pub definition : AtomDefinition
  pub atom : ℕ
  pub count : ℕ
  pub transition : ℕ
  pub delivered : Row
  pub state : Local

-- the state that a job leaves
abbrev pub worked : JobDefinition → Local
worked job = fired job.definition job.transition job.delivered job.state

-- a job as it is kept
abbrev pub job_of : Job → JobDefinition
job_of j = record {
  definition = definition_of j.definition.now;
  atom = j.atom;
  count = j.count;
  transition = j.transition;
  delivered = j.delivered;
  state = j.state;
}

-- the job that was done
abbrev pub job_done : Done → JobDefinition
job_done d = job_of d.job

-- two jobs are the same but for the definition of the atom
pub record HasFieldsOf (job other : JobDefinition) : Type 0 where
  pub atom : job.atom ≡ other.atom
  pub count : job.count ≡ other.count
  pub transition : job.transition ≡ other.transition
  pub delivered : job.delivered ≡ other.delivered
  pub state : job.state ≡ other.state
