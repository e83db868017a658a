use Rattle.std.proofs.Common.{◌≡◌, ◌∙◌, refl, sym, ap, codes, drop}
use Rattle.std.specs.Option.{ok_or}
use Rattle.std.proofs.lemmas.List.{drop-drop}
use Rattle.plant_words.specs.declared.line_fault.LineFault.TheVariants.{UnknownName}
use Rattle.plant_words.specs.Reading.{first_word, first_keyword, at_end}
use Rattle.plant_words.proofs.Exits.{passes}
use Rattle.connector_lines.proofs.condition.read_place.Goals as goal

pub returns : goal.returns
returns g c =
    let words = c.args.words.now in
    let second : drop 2 words ≡ c.next_keyword.new.words =
    sym (drop-drop 1 1 words) ∙ ap (drop 1) (sym c.next_word.ensures.taken) ∙ sym c.next_keyword.ensures.taken in
    let third : drop 3 words ≡ c.next_word-2.new.words =
    sym (drop-drop 1 2 words) ∙ ap (drop 1) second ∙ sym c.next_word-2.ensures.taken in
    sym (passes _ c.in_ok-atom_name.ensures.word
    (passes _ (ap (λ o. ok_or o UnknownName) (sym c.find_atom.ensures) ∙ sym c.in_ok-atom.ensures.value)
    (passes _ (ap (first_keyword (codes "at")) (sym c.next_word.ensures.taken) ∙ sym c.in_ok-next_keyword.ensures.keyword)
    (passes _ (ap first_word second ∙ c.in_ok-name.ensures.word)
    (passes _ (ap (λ o. ok_or o UnknownName) (sym c.find_place.ensures) ∙ sym c.in_ok-place.ensures.value)
    (passes _ (ap at_end third ∙ sym c.in_ok-end.ensures) refl))))))
