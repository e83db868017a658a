use Rattle.std.proofs.Common.{ap, map}
use Rattle.petri_atom.specs.Expression.{tree_of}
use Rattle.plant_model.specs.Wire.{transfer_of}
use Rattle.plant_warnings.specs.Reads.{has_export}
use Rattle.plant_warnings.proofs.Mapped.{any_seen, either}
use Rattle.plant_warnings.proofs.reads.reads_export.Goals as goal

pub returns : goal.returns
returns c =
    either (any_seen (has_export c.args.leaf c.args.export) tree_of c.deref.result.now _ c.is_read_by_clause.result (ap (map tree_of) c.deref.ensures.value) c.is_read_by_clause.ensures)
    (any_seen (λ t. has_export c.args.leaf c.args.export t.value) transfer_of c.deref-2.result.now _ c.is_read_by_transfer.result (ap (map transfer_of) c.deref-2.ensures.value) c.is_read_by_transfer.ensures)
