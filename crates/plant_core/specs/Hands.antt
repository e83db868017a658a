-- What is in hands: states that were asked for, and jobs of atoms that are away.
use Rattle.std.specs.Prelude.{◌≡◌, ℕ, List, [], ◌∷◌, Option, None, Some, length, replicate, slice_index_or, slice_set}
use Rattle.record_codec.specs.Saved.{SavedFields}
use Rattle.step_core.specs.Job.{JobDefinition}

-- by the atoms' numbers
pub record HandFields : Type 0 where
  pub saved : List (Option SavedFields)
  pub jobs : List (Option JobDefinition)

-- nothing is in the hands of so many atoms
abbrev pub empty_hands : ℕ → HandFields
empty_hands atoms = record { saved = replicate atoms None; jobs = replicate atoms None }

-- there is a hand for each of so many atoms
pub record AreHandsFor (atoms : ℕ) (hands : HandFields) : Type 0 where
  pub saved : length hands.saved ≡ atoms
  pub jobs : length hands.jobs ≡ atoms

-- the job in the hand of the atom, if one is
abbrev pub job_at : List (Option JobDefinition) → ℕ → Option JobDefinition
job_at jobs atom = slice_index_or jobs atom None

-- each of these jobs in the hand of its atom
abbrev pub with_jobs : List JobDefinition → List (Option JobDefinition) → List (Option JobDefinition)
with_jobs [] held = held
with_jobs (job ∷ jobs) held = with_jobs jobs (slice_set held job.atom (Some job))

-- each job stands in the hand of its own atom
abbrev pub AreOwnJobs : List (Option JobDefinition) → Type 0
AreOwnJobs jobs = (atom : ℕ) (job : JobDefinition) → job_at jobs atom ≡ Some job → job.atom ≡ atom
