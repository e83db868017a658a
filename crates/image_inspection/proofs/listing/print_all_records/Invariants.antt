-- The elements from this place on are left.
use Rattle.std.proofs.Common.{drop}
use Rattle.std.specs.Prelude.{flat_map, option_copied}
use Rattle.text_io.proofs.Leading.{Leads}
use Rattle.image_inspection.specs.Listing.{record_line}
use Rattle.image_inspection.proofs.listing.print_all_records.Given as goal

abbrev pub invariant-loop-fired : goal.invariant-loop-fired
invariant-loop-fired g l =
    Leads (g.W.Write.contents l.initial.output) (g.W.Write.contents l.output)
    (flat_map (record_line (option_copied l.names)) (drop l.fired-index l.records)) (flat_map (record_line (option_copied l.names)) l.records)
