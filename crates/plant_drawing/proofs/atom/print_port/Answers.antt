use Rattle.std.proofs.Common.{◌++◌, ℕ, List, codes, subst}
use Rattle.std.specs.Prelude.{flat_map}
use Rattle.std.specs.Io.KnownBytes.{Appends}
use Rattle.std.proofs.KnownBytes.{Appends-trans}
use Rattle.petri_atom.specs.Atom.{definition_of}
use Rattle.petri_atom.specs.Definition.{variable_name}
use Rattle.text_io.proofs.Leading.{printed-last}
use Rattle.plant_drawing.proofs.atom.print_port.Goals as goal

pub returns : goal.returns
returns g c =
    let shaped = g.W.Write.contents c.print_text-2.new.writer in
    let named = g.W.Write.contents c.print_text-3.new.writer in
    let printed = g.W.Write.contents c.print_exports.new.output in
    let name : Appends shaped named c.args.made.now.name = subst (Appends shaped named) c.as_bytes.ensures c.in_ok-print_text-3.ensures in
    let atom = definition_of c.args.atom.now in
    let exports : Appends named printed (flat_map (λ v. codes " " ++ variable_name atom v) c.args.made.now.exports.items) =
    subst (λ (list : List ℕ). Appends named printed (flat_map (λ v. codes " " ++ variable_name atom v) list)) c.deref.ensures.value c.in_ok-print_exports.ensures in
    printed-last c.print_text-4.result (g.W.Write.contents c.args.output.now) printed (g.W.Write.contents c.print_text-4.new.writer) _ _
    (Appends-trans _ _ _ _ _ (Appends-trans _ _ _ _ _ (Appends-trans _ _ _ _ _ (Appends-trans _ _ _ _ _ (c.in_ok-print_text.ensures) c.in_ok-print_part.ensures) c.in_ok-print_text-2.ensures) name) exports) c.print_text-4.ensures
