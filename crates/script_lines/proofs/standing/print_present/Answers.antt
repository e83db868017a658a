use Rattle.std.proofs.Common.{◌≡◌, ◌<◌, ◌∙◌, ◌++◌, ap, sym, subst, arith, codes, length, [], get_or}
use Rattle.std.specs.Option.{option_map_or}
use Rattle.std.specs.Io.KnownBytes.{Appends}
use Rattle.std.proofs.lemmas.List.{get_or-map, length-map}
use Rattle.petri_atom.specs.Atom.{definition_of}
use Rattle.plant_model.specs.System.{plant_of}
use Rattle.plant_core.specs.Plants.{view_of}
use Rattle.text_io.proofs.Leading.{leads-element}
use Rattle.run_text.specs.Line.{state_line, state_text, states_text}
use Rattle.script_lines.proofs.standing.print_present.Goals as goal

pub loop-number-preserved : goal.loop-number-preserved
loop-number-preserved g c =
    let atoms = c.atoms-atom-items.result.now in
    let known = c.atoms-atom-items.ensures in
    let atom = c.atom-item.result in
    let i = c.loop-number.number in
    let states = (view_of c.args.plant.now).present in
    let now = g.W.Write.contents c.loop-number.output in
    let next = g.W.Write.contents c.print_line.new.output in
    let within : i < length atoms = omega arith in
    let here : definition_of atom ≡ get_or (plant_of c.args.system.now).atoms i (definition_of atom) =
    ap definition_of c.atom-item.is ∙ sym (get_or-map definition_of atoms i atom (definition_of atom) within) ∙ ap (λ xs. get_or xs i (definition_of atom)) known in
    let piece : Appends now next (state_text state_line states i (definition_of atom)) =
    subst (λ found. Appends now next (option_map_or (λ state. state_line (definition_of atom) state ++ codes "\n") found [])) c.look.ensures c.in_ok-print_line.ensures in
    leads-element (state_text state_line states) (plant_of c.args.system.now).atoms i (definition_of atom) (g.W.Write.contents c.args.output.now) now next (states_text (plant_of c.args.system.now) states)
    (subst (λ n. i < n) (sym (length-map atoms definition_of) ∙ ap length known) within) here c.loop-number.invariant piece
