use Rattle.std.proofs.Common.{ap, arith, codes, subst}
use Rattle.std.specs.Io.KnownBytes.{Appends}
use Rattle.text_io.proofs.Leading.{leads-element}
use Rattle.run_states.specs.Declarations.{place_declaration, signal_declaration}
use Rattle.run_states.proofs.declarations.print_places.Goals as goal

pub loop-number-preserved : goal.loop-number-preserved
loop-number-preserved g c =
    leads-element (place_declaration c.args.atom) c.args.places.now c.loop-number.number c.index-places-number.result
    (g.W.Write.contents c.args.output.now) (g.W.Write.contents c.loop-number.output) (g.W.Write.contents c.print_signal.new.output) _
    (omega arith) c.index-places-number.is c.loop-number.invariant (subst (Appends _ _) (ap (signal_declaration (codes "wire 1") (codes "p") c.args.atom c.loop-number.number) c.as_bytes.ensures) c.in_ok-print_signal.ensures)
