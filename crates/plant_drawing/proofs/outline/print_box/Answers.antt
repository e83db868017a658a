use Rattle.std.proofs.Common.{subst, OnOk}
use Rattle.std.specs.Io.KnownBytes.{Appends}
use Rattle.std.proofs.KnownBytes.{Appends-trans}
use Rattle.petri_atom.specs.Atom.{definition_of}
use Rattle.text_io.proofs.Leading.{printed-last}
use Rattle.plant_drawing.specs.Atom.{named}
use Rattle.plant_drawing.proofs.outline.print_box.Goals as goal

pub returns : goal.returns
returns g c =
    let shaped = g.W.Write.contents c.print_text-2.new.writer in
    let after = g.W.Write.contents c.print_named.new.output in
    let name : OnOk c.print_named.result (Appends shaped after (named (definition_of c.args.atom.now).name)) =
    subst (λ text. OnOk c.print_named.result (Appends shaped after (named text))) c.name.ensures c.print_named.ensures in
    printed-last c.print_named.result (g.W.Write.contents c.args.output.now) shaped after _ _
    (Appends-trans _ _ _ _ _ (Appends-trans _ _ _ _ _ (c.in_ok-print_text.ensures) c.in_ok-print_atom_node.ensures) c.in_ok-print_text-2.ensures) name
