-- The participants from this place on are left.
use Rattle.std.proofs.Common.{codes, drop, map}
use Rattle.petri_atom.specs.Atom.{definition_of}
use Rattle.text_io.proofs.Leading.{Leads}
use Rattle.run_text.specs.Line.{participant}
use Rattle.run_text.specs.Word.{separated_after}
use Rattle.run_text.proofs.fired.print_moves.Given as goal

abbrev pub invariant-loop-step : goal.invariant-loop-step
invariant-loop-step g l =
    Leads (g.W.Write.contents l.initial.output) (g.W.Write.contents l.output)
    (separated_after l.between (codes " ") (map (participant (map definition_of l.atoms)) (drop l.step-index l.moves)))
    (separated_after l.before (codes " ") (map (participant (map definition_of l.atoms)) l.moves))
