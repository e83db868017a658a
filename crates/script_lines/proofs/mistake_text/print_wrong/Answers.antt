use Rattle.std.proofs.Common.{◌≡◌, ◌∙◌, ap, sym, subst, List, ℕ, map, codes}
use Rattle.std.specs.Prelude.{OnOk}
use Rattle.std.specs.Io.KnownBytes.{Appends}
use Rattle.petri_atom.specs.Atom.{definition_of}
use Rattle.petri_atom.specs.Definition.{AtomDefinition}
use Rattle.plant_model.specs.Plant.{WireDefinition}
use Rattle.plant_model.specs.System.{plant_of}
use Rattle.plant_model.specs.Wire.{wire_of}
use Rattle.plant_model.proofs.Initial.{map-map}
use Rattle.text_io.proofs.Leading.{printed-last}
use Rattle.recorded_picks.specs.Names.{atom_names, connector_names}
use Rattle.script_lines.specs.Mistakes.{listed_names, unknown_text, wrong_text}
use Rattle.script_lines.specs.declared.mistake.Wrong.{Wrong}
use Rattle.script_lines.proofs.mistake_text.print_wrong.Goals as goal

pub returns-in-UnknownConnector : goal.returns-in-UnknownConnector
returns-in-UnknownConnector g c =
    let plant = plant_of c.args.system.now in
    let old = g.W.Write.contents c.args.output.now in
    let new = g.W.Write.contents c.print_unknown.new.output in
    let names : map (λ w. (wire_of w).name) c.wires.result.now ≡ connector_names plant = map-map (λ (w : WireDefinition). w.name) wire_of c.wires.result.now ∙ ap (map (λ (w : WireDefinition). w.name)) c.wires.ensures in
    subst (λ (w : Wrong). OnOk c.print_unknown.result (Appends old new (wrong_text plant c.args.word.now w))) (sym c.in-UnknownConnector.is)
    (subst (λ (ns : List (List ℕ)). OnOk c.print_unknown.result (Appends old new (unknown_text (codes "the plant has no connector ") c.args.word.now ns))) names c.print_unknown.ensures)

pub returns-in-UnknownAtom : goal.returns-in-UnknownAtom
returns-in-UnknownAtom g c =
    let plant = plant_of c.args.system.now in
    let old = g.W.Write.contents c.args.output.now in
    let new = g.W.Write.contents c.print_unknown-in-UnknownAtom.new.output in
    let names : map (λ a. (definition_of a).name) c.atoms-in-UnknownAtom.result.now ≡ atom_names plant = map-map (λ (a : AtomDefinition). a.name) definition_of c.atoms-in-UnknownAtom.result.now ∙ ap (map (λ (a : AtomDefinition). a.name)) c.atoms-in-UnknownAtom.ensures in
    subst (λ (w : Wrong). OnOk c.print_unknown-in-UnknownAtom.result (Appends old new (wrong_text plant c.args.word.now w))) (sym c.in-UnknownAtom.is)
    (subst (λ (ns : List (List ℕ)). OnOk c.print_unknown-in-UnknownAtom.result (Appends old new (unknown_text (codes "the plant has no atom ") c.args.word.now ns))) names c.print_unknown-in-UnknownAtom.ensures)

pub returns-in_ok-print_text-in-NoName : goal.returns-in_ok-print_text-in-NoName
returns-in_ok-print_text-in-NoName g c =
    let plant = plant_of c.args.system.now in
    let old = g.W.Write.contents c.args.output.now in
    let mid = g.W.Write.contents c.print_text-in-NoName.new.writer in
    let new = g.W.Write.contents c.print_names.new.output in
    let names : map (λ a. (definition_of a).name) c.atoms.result.now ≡ atom_names plant = map-map (λ (a : AtomDefinition). a.name) definition_of c.atoms.result.now ∙ ap (map (λ (a : AtomDefinition). a.name)) c.atoms.ensures in
    subst (λ (w : Wrong). OnOk c.print_names.result (Appends old new (wrong_text plant c.args.word.now w))) (sym c.in-NoName.is)
    (printed-last c.print_names.result old mid new (codes "the name of an atom is missing; the plant has: ") (listed_names (atom_names plant)) c.in_ok-print_text-in-NoName.ensures
    (subst (λ (ns : List (List ℕ)). OnOk c.print_names.result (Appends mid new (listed_names ns))) names c.print_names.ensures))

pub returns-in-UnknownMove : goal.returns-in-UnknownMove
returns-in-UnknownMove g c =
    subst (λ (w : Wrong). OnOk c.print_of_word-in-UnknownMove.result (Appends (g.W.Write.contents c.args.output.now) (g.W.Write.contents c.print_of_word-in-UnknownMove.new.output) (wrong_text (plant_of c.args.system.now) c.args.word.now w)))
    (sym c.in-UnknownMove.is) c.print_of_word-in-UnknownMove.ensures

pub returns-in-NoInteraction : goal.returns-in-NoInteraction
returns-in-NoInteraction g c =
    subst (λ (w : Wrong). OnOk c.print_of_word-in-NoInteraction.result (Appends (g.W.Write.contents c.args.output.now) (g.W.Write.contents c.print_of_word-in-NoInteraction.new.output) (wrong_text (plant_of c.args.system.now) c.args.word.now w)))
    (sym c.in-NoInteraction.is) c.print_of_word-in-NoInteraction.ensures

pub returns-in-LeftOver : goal.returns-in-LeftOver
returns-in-LeftOver g c =
    subst (λ (w : Wrong). OnOk c.print_of_word-in-LeftOver.result (Appends (g.W.Write.contents c.args.output.now) (g.W.Write.contents c.print_of_word-in-LeftOver.new.output) (wrong_text (plant_of c.args.system.now) c.args.word.now w)))
    (sym c.in-LeftOver.is) c.print_of_word-in-LeftOver.ensures
