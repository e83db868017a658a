use Rattle.std.proofs.Common.{◌∙◌, ap}
use Rattle.petri_atom.specs.Update.{update_of}
use Rattle.plant_warnings.specs.Reads.{has_variable}
use Rattle.plant_warnings.proofs.Mapped.{any_seen, either}
use Rattle.plant_warnings.proofs.reads.reads_variable.Goals as goal

pub returns : goal.returns
returns c =
    either (c.has_variable.ensures ∙ ap (has_variable c.args.variable) c.guard.ensures)
    (any_seen (λ u. has_variable c.args.variable u.value) update_of c.updates.result.now _ c.is_read_by_update.result c.updates.ensures c.is_read_by_update.ensures)
