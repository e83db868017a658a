-- The elements from this place on are left.
use Rattle.std.proofs.Common.{drop}
use Rattle.std.specs.Prelude.{flat_map}
use Rattle.text_io.proofs.Leading.{Leads}
use Rattle.image_inspection.specs.Listing.{value_word}
use Rattle.image_inspection.proofs.listing.print_values.Given as goal

abbrev pub invariant-loop-value : goal.invariant-loop-value
invariant-loop-value g l =
    Leads (g.W.Write.contents l.initial.output) (g.W.Write.contents l.output)
    (flat_map value_word (drop l.value-index l.values)) (flat_map value_word l.values)
