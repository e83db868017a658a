-- The places from this number on are left.
use Rattle.std.proofs.Common.{drop}
use Rattle.text_io.specs.Numbered.{numbered}
use Rattle.text_io.proofs.Leading.{Leads}
use Rattle.run_states.specs.Changes.{place_change_of}
use Rattle.run_states.proofs.changes.print_places.Given as goal

abbrev pub invariant-loop-number : goal.invariant-loop-number
invariant-loop-number g l =
    Leads (g.W.Write.contents l.initial.output) (g.W.Write.contents l.output)
    (numbered (place_change_of l.atom l.old l.new) l.number (drop l.number l.places))
    (numbered (place_change_of l.atom l.old l.new) 0 l.places)
