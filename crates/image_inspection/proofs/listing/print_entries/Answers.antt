use Rattle.std.proofs.Common.{◌<◌, [], ap, arith, length}
use Rattle.std.specs.Prelude.{flat_map}
use Rattle.std.proofs.lemmas.List.{drop_more}
use Rattle.record_codec.specs.declared.entry.Entry.{Entry}
use Rattle.text_io.proofs.Leading.{leads-more, leads-same}
use Rattle.image_inspection.specs.Listing.{entry_word}
use Rattle.image_inspection.proofs.listing.print_entries.Goals as goal

-- any entry
abbrev none : Entry
none = record { atom = 0; transition = 0; participation = 0; delivered = [] }

pub loop-entry-preserved : goal.loop-entry-preserved
loop-entry-preserved g c =
    let entries = c.args.entries.now in
    let i = c.loop-entry.entry-index in
    let within : i < length entries = omega arith in
    leads-more _ _ _ _ _ _ (leads-same c.loop-entry.invariant (ap (flat_map entry_word) (drop_more entries i none within))) c.in_ok-print_entry.ensures
