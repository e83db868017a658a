use Rattle.std.proofs.Common.{◌≡◌, ◌+◌, ◌-◌}
use Rattle.std.specs.Prelude.{◌==◌, find}
use Rattle.std.specs.List.{range_with_len}
use Rattle.record_codec.specs.Ring.{record_cell}
use Rattle.plant_image.specs.Reading.{contents_in}
use Rattle.image_inspection.specs.Places.{number_at}
use Rattle.image_inspection.proofs.places.number_at.Given as goal

abbrev pub invariant-loop-number : goal.invariant-loop-number
invariant-loop-number l =
    number_at l.atoms (contents_in l.held) l.k
    ≡ find (λ n. record_cell l.atoms l.ring n == l.k) (range_with_len l.number (l.held.base + l.ring - l.number))
