use Rattle.std.proofs.Common.{◌≡◌, ◌<◌, ◌∙◌, ◌++◌, ap, sym, subst, arith, codes, length, [], get_or}
use Rattle.std.specs.Option.{option_map_or}
use Rattle.std.specs.Io.KnownBytes.{Appends}
use Rattle.std.proofs.KnownBytes.{Appends-trans}
use Rattle.std.proofs.lemmas.List.{get_or-map, length-map}
use Rattle.petri_atom.specs.Atom.{definition_of}
use Rattle.plant_model.specs.System.{plant_of}
use Rattle.text_io.proofs.Leading.{leads-element}
use Rattle.run_text.specs.Format.{atom_text}
use Rattle.run_text.specs.Line.{state_text}
use Rattle.run_text.proofs.states.print_end.Goals as goal

pub loop-number-preserved : goal.loop-number-preserved
loop-number-preserved g c =
    let atoms = c.atoms-atom-items.result.now in
    let known = c.atoms-atom-items.ensures in
    let atom = c.atom-item.result in
    let i = c.loop-number.number in
    let start = g.W.Write.contents c.args.output.now in
    let now = g.W.Write.contents c.loop-number.output in
    let next = g.W.Write.contents c.end_line.new.writer in
    let within : i < length atoms = omega arith in
    let here : definition_of atom ≡ get_or (plant_of c.args.plant.now.system.now).atoms i (definition_of atom) =
    ap definition_of c.atom-item.is ∙ sym (get_or-map definition_of atoms i atom (definition_of atom) within) ∙ ap (λ xs. get_or xs i (definition_of atom)) known in
    let line : Appends now next (atom_text c.args.format (definition_of atom) c.state.result.now ++ codes "\n") =
    Appends-trans _ _ _ _ _ (c.in_ok-print_atom.ensures) (c.in_ok-end_line.ensures) in
    let piece : Appends now next (state_text (atom_text c.args.format) c.args.plant.now.states.now i (definition_of atom)) =
    subst (λ found. Appends now next (option_map_or (λ state. atom_text c.args.format (definition_of atom) state ++ codes "\n") found [])) (sym c.state.ensures) line in
    leads-element (state_text (atom_text c.args.format) c.args.plant.now.states.now) (plant_of c.args.plant.now.system.now).atoms i (definition_of atom) start now next _
    (subst (λ n. i < n) (sym (length-map atoms definition_of) ∙ ap length known) within) here c.loop-number.invariant piece
