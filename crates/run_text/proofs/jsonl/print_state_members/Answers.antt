use Rattle.std.proofs.Common.{◌∙◌, ◌++◌, ap, subst, codes}
use Rattle.std.specs.Io.KnownBytes.{Appends}
use Rattle.std.proofs.KnownBytes.{Appends-trans}
use Rattle.petri_atom.specs.Atom.{definition_of}
use Rattle.text_io.specs.declared.format.Format.TheVariants.{Jsonl}
use Rattle.text_io.proofs.Leading.{printed-last}
use Rattle.run_text.specs.Line.{places_text, value_words}
use Rattle.run_text.specs.Word.{quoted, separated_by}
use Rattle.run_text.proofs.jsonl.print_state_members.Goals as goal

pub returns : goal.returns
returns g c =
    let atom = definition_of c.args.atom.now in
    let state = c.args.state.now in
    let start = g.W.Write.contents c.args.output.now in
    let now = g.W.Write.contents c.print_values.new.output in
    let named : Appends (g.W.Write.contents c.print_text.new.writer) (g.W.Write.contents c.print_quoted.new.output) (quoted atom.name) =
    subst (Appends _ _) (ap quoted (c.as_bytes.ensures ∙ c.name.ensures)) c.in_ok-print_quoted.ensures in
    let placed : Appends (g.W.Write.contents c.print_text-2.new.writer) (g.W.Write.contents c.print_places.new.output) (places_text Jsonl state.marking atom.places) =
    subst (Appends _ _) (ap (places_text Jsonl c.places-2.result) c.places.ensures ∙ ap (λ marking. places_text Jsonl marking atom.places) c.places-2.ensures) c.in_ok-print_places.ensures in
    let valued : Appends (g.W.Write.contents c.print_text-3.new.writer) now (separated_by (codes ",") (value_words Jsonl state.values atom.variables)) =
    subst (Appends _ _) (ap (λ variables. separated_by (codes ",") (value_words Jsonl c.values.result.now variables)) c.variables.ensures ∙ ap (λ values. separated_by (codes ",") (value_words Jsonl values atom.variables)) c.values.ensures) c.in_ok-print_values.ensures in
    let begun : Appends start now
    (codes "\"atom\":" ++ quoted atom.name ++ codes ",\"places\":[" ++ places_text Jsonl state.marking atom.places ++ codes "],\"variables\":{" ++ separated_by (codes ",") (value_words Jsonl state.values atom.variables)) =
    Appends-trans _ _ _ _ _ (Appends-trans _ _ _ _ _ (Appends-trans _ _ _ _ _ (Appends-trans _ _ _ _ _ (Appends-trans _ _ _ _ _ c.in_ok-print_text.ensures named) c.in_ok-print_text-2.ensures) placed) c.in_ok-print_text-3.ensures) valued in
    printed-last c.print_text-4.result _ _ _ _ _ begun c.print_text-4.ensures
