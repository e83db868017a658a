use Rattle.std.proofs.Common.{◌∙◌, refl, sym, ap, ◌<◌, ◌^◌, arith}
use Rattle.std.specs.Prelude.{nat_le}
use Rattle.std.specs.Option.{ok_or}
use Rattle.std.proofs.lemmas.Bool.{lt-ltb, leb-true}
use Rattle.plant_words.specs.declared.line_fault.LineFault.TheVariants.{UnknownName, BadNumber}
use Rattle.plant_words.specs.Reading.{check}
use Rattle.plant_words.proofs.Exits.{passes}
use Rattle.plant_words.proofs.Steps.{passed}
use Rattle.connector_lines.specs.declared.side.TheConstants.{MAX_MASK}
use Rattle.connector_lines.proofs.side.read_one.Goals as goal

pub returns : goal.returns
returns g c =
    let number = c.in_ok-number.number in
    let fits = leb-true number MAX_MASK (passed (nat_le number MAX_MASK) UnknownName c.in_ok-check.field-0 (sym c.in_ok-check.ensures)) in
    let within : number < 2 ^ 16 = omega (arith, fits) in
    sym (passes _ (ap (λ o. ok_or o UnknownName) (sym c.find_connector.ensures) ∙ sym c.in_ok-connector.ensures.value)
    (passes _ (ap (λ o. ok_or o BadNumber) (sym c.read_decimal.ensures) ∙ sym c.in_ok-number.ensures.value)
    (passes _ (ap (λ b. check b UnknownName) (lt-ltb number (2 ^ 16) within))
    (passes _ (ap (λ b. check b UnknownName) (sym c.has_interaction.ensures) ∙ sym c.in_ok-check-2.ensures) refl))))
