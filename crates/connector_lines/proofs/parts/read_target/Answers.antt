use Rattle.std.proofs.Common.{◌∙◌, ap, sym, refl, not}
use Rattle.std.specs.Option.{ok_or}
use Rattle.plant_words.specs.declared.line_fault.LineFault.TheVariants.{UnknownName, Twice}
use Rattle.plant_words.specs.Reading.{check}
use Rattle.plant_words.proofs.Exits.{passes}
use Rattle.connector_lines.proofs.Targets.{has_target_of}
use Rattle.connector_lines.proofs.parts.read_target.Goals as goal

pub returns-clause-target : goal.returns-clause-target
returns-clause-target g c =
    sym (passes _ c.in_ok-word.ensures.word
    (passes _ (ap (λ o. ok_or o UnknownName) (sym c.find.ensures) ∙ sym c.in_ok-target.ensures.value)
    (passes _ (ap (λ b. check (not b) Twice) (has_target_of c.args.transfers.now c.in_ok-target.target ∙ sym c.has_target.ensures) ∙ sym c.in_ok-check.ensures) refl)))
