use Rattle.std.proofs.Common.{◌≡◌, ◌∙◌, ◌++◌, ap, subst, codes}
use Rattle.std.specs.Prelude.{OnOk}
use Rattle.std.specs.Io.KnownBytes.{Appends}
use Rattle.std.proofs.KnownBytes.{Appends-trans}
use Rattle.petri_atom.specs.Atom.{definition_of}
use Rattle.petri_atom.specs.Local.{value_in}
use Rattle.text_io.specs.declared.format.Format.TheVariants.{Lines}
use Rattle.text_io.proofs.Leading.{printed-last}
use Rattle.run_text.specs.Line.{places_text, value_words, values_text}
use Rattle.run_text.specs.Word.{assigned_text, separated_after}
use Rattle.run_text.proofs.Separating.{separated-numbered}
use Rattle.run_text.proofs.states.print_state.Goals as goal

pub returns : goal.returns
returns g c =
    let atom = definition_of c.args.atom.now in
    let state = c.args.state.now in
    let start = g.W.Write.contents c.args.output.now in
    let now = g.W.Write.contents c.print_text-4.new.writer in
    let same : separated_after (codes " ") (codes " ") (value_words Lines c.values.result.now c.variables.result.now) ≡ values_text state.values atom.variables =
    separated-numbered (codes " ") (λ k v. assigned_text Lines v.name (value_in c.values.result.now k)) 0 c.variables.result.now ∙
    ap (λ values. values_text values c.variables.result.now) c.values.ensures ∙ ap (values_text state.values) c.variables.ensures in
    let named : Appends (g.W.Write.contents c.print_text.new.writer) (g.W.Write.contents c.print_text-2.new.writer) atom.name =
    subst (Appends _ _) (c.as_bytes.ensures ∙ c.name.ensures) c.in_ok-print_text-2.ensures in
    let placed : Appends (g.W.Write.contents c.print_text-3.new.writer) (g.W.Write.contents c.print_places.new.output) (places_text Lines state.marking atom.places) =
    subst (Appends _ _) (ap (places_text Lines c.places-2.result) c.places.ensures ∙ ap (λ marking. places_text Lines marking atom.places) c.places-2.ensures) c.in_ok-print_places.ensures in
    let begun : Appends start now (codes "state " ++ atom.name ++ codes " [" ++ places_text Lines state.marking atom.places ++ codes "]") =
    Appends-trans _ _ _ _ _ (Appends-trans _ _ _ _ _ (Appends-trans _ _ _ _ _ (Appends-trans _ _ _ _ _ c.in_ok-print_text.ensures named) c.in_ok-print_text-3.ensures) placed) c.in_ok-print_text-4.ensures in
    printed-last c.print_values.result _ _ _ _ _ begun
    (subst (λ text. OnOk c.print_values.result (Appends now (g.W.Write.contents c.print_values.new.output) text)) same c.print_values.ensures)
