use Rattle.std.proofs.Common.{◌≡◌, ◌∙◌, ◌++◌, ap, subst, codes, map}
use Rattle.std.specs.Prelude.{OnOk, flat_map}
use Rattle.std.specs.Io.KnownBytes.{Appends}
use Rattle.petri_atom.specs.Atom.{definition_of}
use Rattle.plant_model.specs.System.{plant_of}
use Rattle.plant_model.specs.Plant.{wire_name}
use Rattle.text_io.proofs.Leading.{printed-last}
use Rattle.run_text.specs.Line.{participant}
use Rattle.run_text.specs.Word.{separated_after}
use Rattle.run_text.proofs.Separating.{separated-each}
use Rattle.run_text.proofs.fired.print_interaction.Goals as goal

pub returns : goal.returns
returns g c =
    let plant = plant_of c.args.system.now in
    let moves = c.as_slice.result.now in
    let start = g.W.Write.contents c.args.output.now in
    let named = g.W.Write.contents c.print_text.new.writer in
    let same : separated_after (codes " ") (codes " ") (map (participant (map definition_of c.atoms.result.now)) moves) ≡ flat_map (λ m. codes " " ++ participant plant.atoms m) c.args.choice.now.moves =
    separated-each (codes " ") (participant (map definition_of c.atoms.result.now)) moves ∙
    ap (λ atoms. flat_map (λ m. codes " " ++ participant atoms m) moves) c.atoms.ensures ∙
    ap (flat_map (λ m. codes " " ++ participant plant.atoms m)) c.as_slice.ensures.moves in
    let begun : Appends start named (wire_name plant c.args.choice.now.connector) = subst (Appends start named) c.wire_name.ensures c.in_ok-print_text.ensures in
    printed-last c.print_moves.result _ _ _ _ _ begun
    (subst (λ text. OnOk c.print_moves.result (Appends named (g.W.Write.contents c.print_moves.new.output) text)) same c.print_moves.ensures)
