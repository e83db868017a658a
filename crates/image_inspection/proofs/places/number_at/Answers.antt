use Rattle.std.proofs.Common.{◌∙◌, ◌+◌, sym, arith}
use Rattle.std.specs.Prelude.{◌==◌}
use Rattle.record_codec.specs.Ring.{record_cell}
use Rattle.plant_image.specs.Contents.{Contents}
use Rattle.plant_image.specs.Reading.{contents_in}
use Rattle.image_inspection.proofs.Ranges.{find-later}
use Rattle.image_inspection.proofs.places.number_at.Goals as goal

pub loop-number-preserved : goal.loop-number-preserved
loop-number-preserved c =
    let held : Contents = contents_in c.args.held.now in
    c.loop-number.invariant
    ∙ find-later (λ n. record_cell c.args.atoms held.ring n == c.args.k) c.loop-number.number (held.base + held.ring) (omega arith) (sym c.has_cell.ensures ∙ c.if-has_cell.false)
