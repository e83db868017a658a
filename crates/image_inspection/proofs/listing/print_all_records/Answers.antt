use Rattle.std.proofs.Common.{arith}
use Rattle.std.specs.Prelude.{option_copied}
use Rattle.image_inspection.specs.Listing.{record_line}
use Rattle.image_inspection.proofs.Ranges.{leads-item}
use Rattle.image_inspection.proofs.listing.print_all_records.Goals as goal

pub loop-fired-preserved : goal.loop-fired-preserved
loop-fired-preserved g c =
    leads-item (record_line (option_copied c.args.names)) c.args.records.now c.loop-fired.fired-index c.fired-item.result _ _ _ _ (omega arith) c.fired-item.is
    c.loop-fired.invariant c.in_ok-print_record_line.ensures
