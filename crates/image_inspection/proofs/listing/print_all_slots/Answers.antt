use Rattle.std.proofs.Common.{arith}
use Rattle.std.specs.Prelude.{option_copied}
use Rattle.image_inspection.specs.Listing.{slots_lines}
use Rattle.image_inspection.proofs.Ranges.{leads-number}
use Rattle.image_inspection.proofs.listing.print_all_slots.Goals as goal

pub loop-atom-preserved : goal.loop-atom-preserved
loop-atom-preserved g c =
    leads-number (slots_lines (option_copied c.args.names) c.args.cells.now) c.loop-atom.atom c.args.atoms _ _ _ _ (omega arith)
    c.loop-atom.invariant c.in_ok-print_both_slots.ensures
