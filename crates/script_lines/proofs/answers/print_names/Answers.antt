use Rattle.std.proofs.Common.{◌≡◌, ◌<◌, ◌∙◌, ◌++◌, ap, sym, subst, arith, codes, length, [], get_or, if◌then◌else◌}
use Rattle.std.specs.Io.KnownBytes.{Appends}
use Rattle.std.proofs.lemmas.List.{get_or-map, length-map}
use Rattle.petri_atom.specs.Atom.{definition_of}
use Rattle.plant_model.specs.System.{plant_of}
use Rattle.text_io.specs.Numbered.{numbered}
use Rattle.text_io.proofs.Leading.{leads-element}
use Rattle.script_lines.specs.Answers.{name_if_in}
use Rattle.script_lines.proofs.answers.print_names.Goals as goal

pub loop-number-preserved : goal.loop-number-preserved
loop-number-preserved g c =
    let atoms = c.atoms-atom-items.result.now in
    let known = c.atoms-atom-items.ensures in
    let atom = c.atom-item.result in
    let i = c.loop-number.number in
    let set = c.args.saved.atoms in
    let now = g.W.Write.contents c.loop-number.output in
    let next = g.W.Write.contents c.print_name_if.new.output in
    let within : i < length atoms = omega arith in
    let here : definition_of atom ≡ get_or (plant_of c.args.system.now).atoms i (definition_of atom) =
    ap definition_of c.atom-item.is ∙ sym (get_or-map definition_of atoms i atom (definition_of atom) within) ∙ ap (λ xs. get_or xs i (definition_of atom)) known in
    let piece : Appends now next (name_if_in set i (definition_of atom)) =
    subst (λ b. Appends now next (if b then codes " " ++ (definition_of atom).name else [])) c.has.ensures c.in_ok-print_name_if.ensures in
    leads-element (name_if_in set) (plant_of c.args.system.now).atoms i (definition_of atom) (g.W.Write.contents c.args.output.now) now next (numbered (name_if_in set) 0 (plant_of c.args.system.now).atoms)
    (subst (λ n. i < n) (sym (length-map atoms definition_of) ∙ ap length known) within) here c.loop-number.invariant piece
