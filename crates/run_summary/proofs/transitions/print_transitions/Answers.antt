use Rattle.std.proofs.Common.{arith}
use Rattle.petri_atom.specs.Atom.{definition_of}
use Rattle.run_text.proofs.Listing.{leads-mapped}
use Rattle.run_summary.specs.Lines.{transition_lines}
use Rattle.run_summary.proofs.transitions.print_transitions.Goals as goal

pub loop-number-preserved : goal.loop-number-preserved
loop-number-preserved g c =
    leads-mapped definition_of c.args.atoms.now c.loop-number.number c.index-atoms-number.result (omega arith) c.index-atoms-number.is (transition_lines c.args.listing c.args.summaries.now)
    (g.W.Write.contents c.args.output.now) (g.W.Write.contents c.loop-number.output) (g.W.Write.contents c.print_of_atom.new.output) _
    c.loop-number.invariant c.in_ok-print_of_atom.ensures
