use Rattle.std.proofs.Common.{◌<◌, ap, arith, length, subst}
use Rattle.std.specs.Io.KnownBytes.{Appends}
use Rattle.std.specs.Prelude.{slice_index}
use Rattle.std.proofs.lemmas.List.{length-map}
use Rattle.petri_atom.specs.Atom.{definition_of}
use Rattle.petri_atom.specs.Transition.{transition_of}
use Rattle.run_text.proofs.Listing.{leads-number}
use Rattle.run_summary.specs.Lines.{part_line, transition_words}
use Rattle.run_summary.proofs.transitions.print_counted.Goals as goal

pub loop-number-preserved : goal.loop-number-preserved
loop-number-preserved g c =
    let a = definition_of c.args.atom.now in
    let n = c.loop-number.number in
    let counts = c.args.counts.now in
    let within : n < length a.transitions =
    omega (arith, c.loop-number-test.true, ap length c.transitions-number-end.ensures, length-map c.transitions-number-end.result.now transition_of) in
    leads-number (λ k. part_line c.args.listing (transition_words a k) (slice_index counts k)) a.transitions n
    (g.W.Write.contents c.args.output.now) (g.W.Write.contents c.loop-number.output) (g.W.Write.contents c.print_transition.new.output) _
    within c.loop-number.invariant
    (subst (Appends _ _) (ap (part_line c.args.listing (transition_words a n)) c.of.ensures) c.in_ok-print_transition.ensures)
