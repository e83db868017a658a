use Rattle.std.proofs.Common.{◌≡◌, ◌+◌, ◌-◌, map}
use Rattle.std.specs.List.{range_with_len}
use Rattle.plant_image.specs.Faults.{first_fault}
use Rattle.plant_image.specs.Reading.{contents_in}
use Rattle.image_inspection.specs.Verdicts.{bare_record_fault, judged_numbers}
use Rattle.image_inspection.proofs.bare.records_fault.Given as goal

abbrev pub invariant-loop-number : goal.invariant-loop-number
invariant-loop-number l =
    first_fault (map (bare_record_fault l.cells l.atoms l.held.ring) (judged_numbers (contents_in l.held)))
    ≡ first_fault (map (bare_record_fault l.cells l.atoms l.held.ring) (range_with_len l.number (l.held.base + l.judged - l.number)))
