-- The marked places from this number on are left.
use Rattle.std.proofs.Common.{drop}
use Rattle.text_io.specs.Numbered.{numbered}
use Rattle.text_io.proofs.Leading.{Leads}
use Rattle.run_text.specs.Line.{marked_name, places_text}
use Rattle.run_text.specs.Word.{between_text, separated_after}
use Rattle.run_text.proofs.states.print_places.Given as goal

abbrev pub invariant-loop-number : goal.invariant-loop-number
invariant-loop-number g l =
    Leads (g.W.Write.contents l.initial.output) (g.W.Write.contents l.output)
    (separated_after l.between (between_text l.format) (numbered (marked_name l.format l.marking) l.number (drop l.number l.places)))
    (places_text l.format l.marking l.places)
