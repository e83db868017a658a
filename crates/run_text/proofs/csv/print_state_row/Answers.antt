use Rattle.std.proofs.Common.{◌≡◌, ◌∙◌, ◌++◌, ap, subst, codes}
use Rattle.std.specs.Prelude.{OnOk}
use Rattle.std.specs.Io.KnownBytes.{Appends}
use Rattle.std.proofs.KnownBytes.{Appends-trans}
use Rattle.petri_atom.specs.Atom.{definition_of}
use Rattle.text_io.specs.declared.format.Format.TheVariants.{Csv}
use Rattle.text_io.proofs.Leading.{printed-last}
use Rattle.run_text.specs.Line.{places_text, value_words}
use Rattle.run_text.specs.Word.{separated_by}
use Rattle.run_text.proofs.csv.print_state_row.Goals as goal

pub returns : goal.returns
returns g c =
    let atom = definition_of c.args.atom.now in
    let state = c.args.state.now in
    let start = g.W.Write.contents c.args.output.now in
    let now = g.W.Write.contents c.print_text-4.new.writer in
    let same : separated_by (codes " ") (value_words Csv c.values.result.now c.variables.result.now) ≡ separated_by (codes " ") (value_words Csv state.values atom.variables) =
    ap (λ values. separated_by (codes " ") (value_words Csv values c.variables.result.now)) c.values.ensures ∙
    ap (λ variables. separated_by (codes " ") (value_words Csv state.values variables)) c.variables.ensures in
    let named : Appends (g.W.Write.contents c.print_text.new.writer) (g.W.Write.contents c.print_text-2.new.writer) atom.name =
    subst (Appends _ _) (c.as_bytes.ensures ∙ c.name.ensures) c.in_ok-print_text-2.ensures in
    let placed : Appends (g.W.Write.contents c.print_text-3.new.writer) (g.W.Write.contents c.print_places.new.output) (places_text Csv state.marking atom.places) =
    subst (Appends _ _) (ap (places_text Csv c.places-2.result) c.places.ensures ∙ ap (λ marking. places_text Csv marking atom.places) c.places-2.ensures) c.in_ok-print_places.ensures in
    let begun : Appends start now (codes "state,," ++ atom.name ++ codes "," ++ places_text Csv state.marking atom.places ++ codes ",") =
    Appends-trans _ _ _ _ _ (Appends-trans _ _ _ _ _ (Appends-trans _ _ _ _ _ (Appends-trans _ _ _ _ _ c.in_ok-print_text.ensures named) c.in_ok-print_text-3.ensures) placed) c.in_ok-print_text-4.ensures in
    printed-last c.print_values.result _ _ _ _ _ begun
    (subst (λ text. OnOk c.print_values.result (Appends now (g.W.Write.contents c.print_values.new.output) text)) same c.print_values.ensures)
