use Rattle.std.proofs.Common.{◌≡◌, ◌∙◌, ◌+◌, ◌-◌, ap, sym, arith, ℕ, Option, length, map, min}
use Rattle.std.specs.List.{range_with_len}
use Rattle.plant_image.specs.Contents.{Contents}
use Rattle.plant_image.specs.Faults.{first_fault}
use Rattle.plant_image.specs.Reading.{contents_in}
use Rattle.plant_image.specs.declared.fault.ImageFault.{ImageFault}
use Rattle.image_inspection.specs.Verdicts.{bare_record_fault}
use Rattle.image_inspection.proofs.Ranges.{fault-here, fault-later}
use Rattle.image_inspection.proofs.bare.records_fault.Goals as goal

pub loop-number-init : goal.loop-number-init
loop-number-init c =
    let held : Contents = contents_in c.args.held.now in
    let at : ℕ → Option ImageFault = bare_record_fault c.args.cells.now c.args.atoms held.ring in
    let is : min held.ring (length held.records + 1) ≡ held.base + c.min-judged.result - held.base = omega (arith, c.min-judged.ensures) in
    ap (λ (m : ℕ). first_fault (map at (range_with_len held.base m))) is

pub returns-in-Some : goal.returns-in-Some
returns-in-Some c =
    let held : Contents = contents_in c.args.held.now in
    let at : ℕ → Option ImageFault = bare_record_fault c.args.cells.now c.args.atoms held.ring in
    sym (c.loop-number.invariant ∙ fault-here at c.loop-number.number (held.base + c.min-judged.result) c.in-Some.fault (omega arith) (sym c.bare_record_fault.ensures ∙ c.in-Some.is))

pub loop-number-preserved : goal.loop-number-preserved
loop-number-preserved c =
    let held : Contents = contents_in c.args.held.now in
    let at : ℕ → Option ImageFault = bare_record_fault c.args.cells.now c.args.atoms held.ring in
    c.loop-number.invariant ∙ fault-later at c.loop-number.number (held.base + c.min-judged.result) (omega arith) (sym c.bare_record_fault.ensures ∙ c.in_default.is)
