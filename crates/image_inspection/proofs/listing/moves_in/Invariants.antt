use Rattle.std.proofs.Common.{◌≡◌, map, take}
use Rattle.image_inspection.specs.Listing.{move_in}
use Rattle.image_inspection.proofs.listing.moves_in.Given as goal

abbrev pub invariant-loop-entry : goal.invariant-loop-entry
invariant-loop-entry l = l.moves ≡ map move_in (take l.entry-index l.fired.entries)
