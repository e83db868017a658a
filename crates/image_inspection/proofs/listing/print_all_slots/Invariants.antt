-- The atoms from this number on are left.
use Rattle.std.proofs.Common.{◌-◌}
use Rattle.std.specs.Prelude.{flat_map, option_copied}
use Rattle.std.specs.List.{range_with_len}
use Rattle.text_io.proofs.Leading.{Leads}
use Rattle.image_inspection.specs.Listing.{slots_lines}
use Rattle.image_inspection.proofs.listing.print_all_slots.Given as goal

abbrev pub invariant-loop-atom : goal.invariant-loop-atom
invariant-loop-atom g l =
    Leads (g.W.Write.contents l.initial.output) (g.W.Write.contents l.output)
    (flat_map (slots_lines (option_copied l.names) l.cells) (range_with_len l.atom (l.atoms - l.atom)))
    (flat_map (slots_lines (option_copied l.names) l.cells) (range_with_len 0 l.atoms))
