use Rattle.std.proofs.Common.{◌∙◌, refl, sym, ap}
use Rattle.std.specs.Option.{ok_or}
use Rattle.plant_words.specs.declared.line_fault.LineFault.TheVariants.{UnknownName}
use Rattle.plant_words.specs.Reading.{at_end}
use Rattle.plant_words.proofs.Exits.{passes}
use Rattle.connector_lines.proofs.rule.read_maximal.Goals as goal

pub returns : goal.returns
returns g c =
    sym (passes _ c.in_ok-word.ensures.word
    (passes _ (ap (λ o. ok_or o UnknownName) (sym c.find_connector.ensures) ∙ sym c.in_ok-connector.ensures.value)
    (passes _ (ap at_end (sym c.next_word.ensures.taken) ∙ sym c.in_ok-end.ensures) refl)))
