use Rattle.std.proofs.Common.{inl, inr, ◌+◌, ⊎_elim}
use Rattle.disk_model.specs.Cells.{seen_cells}
use Rattle.disk_model.specs.DiskState.{size_of}
use Rattle.disk_model.specs.declared.cells.TheConstants.{BODY}
use Rattle.recovery.proofs.Lifetimes.{short-period}
use Rattle.recovery.proofs.laws.a_boot_cut_short_is_a_period.Goals as goal

pub returns-clause-alike : goal.returns-clause-alike
returns-clause-alike c = λ plant digest bytes cells left alike. short-period plant digest bytes cells left alike

pub returns-clause-pending : goal.returns-clause-pending
returns-clause-pending c = λ plant digest s closed left front booting. ⊎_elim
    (λ may. inl (front left may))
    (λ alike. inr (short-period plant digest (size_of s) (seen_cells (BODY + 1) s) left alike))
    booting
