use Rattle.std.proofs.Common.{◌∙◌, ap, arith, subst}
use Rattle.std.specs.Io.KnownBytes.{Appends}
use Rattle.petri_atom.specs.Local.{has}
use Rattle.run_states.specs.Changes.{place_change}
use Rattle.run_text.proofs.Listing.{leads-number}
use Rattle.run_states.proofs.changes.print_places.Goals as goal

pub loop-number-preserved : goal.loop-number-preserved
loop-number-preserved g c =
    leads-number (λ k. place_change c.args.atom k (has c.args.old k) (has c.args.new k)) c.args.places.now c.loop-number.number
    (g.W.Write.contents c.args.output.now) (g.W.Write.contents c.loop-number.output) (g.W.Write.contents c.print_place_change.new.output) _
    (omega arith) c.loop-number.invariant
    (subst (Appends _ _)
    (ap (place_change c.args.atom c.loop-number.number c.is_marked-was.result) c.is_marked.ensures ∙ ap (λ was. place_change c.args.atom c.loop-number.number was (has c.args.new c.loop-number.number)) c.is_marked-was.ensures)
    c.in_ok-print_place_change.ensures)
