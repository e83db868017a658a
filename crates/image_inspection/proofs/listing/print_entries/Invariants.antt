-- The elements from this place on are left.
use Rattle.std.proofs.Common.{drop}
use Rattle.std.specs.Prelude.{flat_map}
use Rattle.text_io.proofs.Leading.{Leads}
use Rattle.image_inspection.specs.Listing.{entry_word}
use Rattle.image_inspection.proofs.listing.print_entries.Given as goal

abbrev pub invariant-loop-entry : goal.invariant-loop-entry
invariant-loop-entry g l =
    Leads (g.W.Write.contents l.initial.output) (g.W.Write.contents l.output)
    (flat_map entry_word (drop l.entry-index l.entries)) (flat_map entry_word l.entries)
