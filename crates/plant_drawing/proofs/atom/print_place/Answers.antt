use Rattle.std.proofs.Common.{subst}
use Rattle.std.specs.Io.KnownBytes.{Appends}
use Rattle.std.proofs.KnownBytes.{Appends-trans}
use Rattle.petri_atom.specs.Local.{has}
use Rattle.text_io.proofs.Leading.{printed-last}
use Rattle.plant_drawing.specs.Atom.{fill_of}
use Rattle.plant_drawing.proofs.atom.print_place.Goals as goal

pub returns : goal.returns
returns g c =
    let shaped = g.W.Write.contents c.print_text-2.new.writer in
    let filled = g.W.Write.contents c.print_fill.new.output in
    let fill : Appends shaped filled (fill_of (has c.args.marking c.args.number)) =
    subst (λ marked. Appends shaped filled (fill_of marked)) c.has_number.ensures c.in_ok-print_fill.ensures in
    printed-last c.print_named.result (g.W.Write.contents c.args.output.now) filled (g.W.Write.contents c.print_named.new.output) _ _
    (Appends-trans _ _ _ _ _ (Appends-trans _ _ _ _ _ (Appends-trans _ _ _ _ _ (c.in_ok-print_text.ensures) c.in_ok-print_part.ensures) c.in_ok-print_text-2.ensures) fill) c.print_named.ensures
