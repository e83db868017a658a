use Rattle.std.proofs.Common.{◌≡◌, ◌∙◌, sym, ap, codes, drop}
use Rattle.std.proofs.lemmas.List.{drop-drop}
use Rattle.plant_words.specs.Reading.{first_keyword}
use Rattle.plant_words.proofs.Exits.{passes}
use Rattle.connector_lines.specs.Conditions.{rule_after}
use Rattle.connector_lines.specs.Sides.{side_in}
use Rattle.connector_lines.proofs.rule.read_priority.Goals as goal

pub returns : goal.returns
returns g c =
    let words = c.args.words.now in
    let named = g.C.Connectors.connector_named c.args.connectors.now in
    let has = g.C.Connectors.has_interaction c.args.connectors.now in
    let atoms = g.P.Places.atom_named c.args.places.now in
    let places = g.P.Places.place_named c.args.places.now in
    let second : drop 2 words ≡ c.next_keyword.new.words =
    sym (drop-drop 1 1 words) ∙ ap (drop 1) (sym c.read_side.ensures.taken) ∙ sym c.next_keyword.ensures.taken in
    let third : drop 3 words ≡ c.read_side-2.new.words =
    sym (drop-drop 1 2 words) ∙ ap (drop 1) second ∙ sym c.read_side-2.ensures.taken in
    sym (passes _ (sym c.in_ok-left.ensures.side)
    (passes _ (ap (first_keyword (codes "<")) (sym c.read_side.ensures.taken) ∙ sym c.in_ok-next_keyword.ensures.keyword)
    (passes _ (ap (side_in named has) second ∙ sym c.in_ok-right.ensures.side)
    (ap (rule_after atoms places c.in_ok-left.left c.in_ok-right.right) third ∙ sym c.read_behind.ensures))))
