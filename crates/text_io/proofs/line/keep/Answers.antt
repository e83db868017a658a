use Rattle.std.proofs.Common.{◌+◌, ◌≤◌, ◌∙◌, length, take, arith, length-take}
use Rattle.text_io.proofs.LineParts.{kept-as-far, well-done}
use Rattle.text_io.proofs.line.keep.Goals as goal

pub returns : goal.returns
returns g c =
    let items = c.args.line.now.items in
    let bytes = c.args.bytes.now in
    let room = c.remaining_capacity-room in
    let n = c.min.result in
    let fits : length items + length (take n bytes) ≤ g.row.KEPT = omega (arith, room.ensures, c.min.ensures, length-take n bytes) in
    well-done c.try_extend_from_slice.result (c.try_extend_from_slice.ensures.variant.1 fits) c.try_extend_from_slice.ensures.ok
    ∙ kept-as-far g.row.KEPT items bytes room.result n room.ensures c.min.ensures
