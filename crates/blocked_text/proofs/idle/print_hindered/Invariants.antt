-- The transitions from this number on are left.
use Rattle.std.proofs.Common.{codes, drop}
use Rattle.petri_atom.specs.Atom.{definition_of}
use Rattle.text_io.specs.Numbered.{numbered}
use Rattle.text_io.proofs.Leading.{Leads}
use Rattle.blocked_text.specs.Idle.{hindered_word, hindered_words}
use Rattle.blocked_text.specs.Separated.{separated_after}
use Rattle.std.proofs.Common.{[]}
use Rattle.blocked_text.proofs.idle.print_hindered.Given as goal

abbrev pub invariant-loop-number : goal.invariant-loop-number
invariant-loop-number g l =
    Leads (g.W.Write.contents l.initial.output) (g.W.Write.contents l.output)
    (separated_after l.before (codes "; ") (numbered (hindered_word (definition_of l.atom) l.state l.port l.count) l.number (drop l.number (definition_of l.atom).transitions)))
    (separated_after [] (codes "; ") (hindered_words (definition_of l.atom) l.state l.port l.count))
