-- The jobs of atoms that are away.
use Rattle.std.specs.Prelude.{◌≡◌, ℕ, false, List, Option, Some, None, slice_index_or, Contains}
use Rattle.step_core.specs.Job.{JobDefinition}
use Rattle.step_executor.specs.Outstanding.{is_out}

-- no atom is away
abbrev pub AreAllBack : List (Option JobDefinition) → Type 0
AreAllBack kept = (n : ℕ) → is_out kept n ≡ false

-- each job that an atom has is one of these
abbrev pub AreAmong : List (Option JobDefinition) → List JobDefinition → Type 0
AreAmong kept jobs = (n : ℕ) (job : JobDefinition) → slice_index_or kept n None ≡ Some job → Contains jobs job
