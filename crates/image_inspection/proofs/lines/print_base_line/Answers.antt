use Rattle.text_io.proofs.Leading.{printed-last}
use Rattle.image_inspection.specs.Lines.{base_words, room_words}
use Rattle.plant_image.specs.Reading.{contents_in}
use Rattle.image_inspection.proofs.lines.print_base_line.Goals as goal

pub returns : goal.returns
returns g c =
    let held = contents_in c.args.held.now in
    printed-last c.print_room.result (g.W.Write.contents c.args.output.now) (g.W.Write.contents c.print_base_words.new.output) (g.W.Write.contents c.print_room.new.output)
    (base_words c.args.base held) (room_words held) c.in_ok-print_base_words.ensures c.print_room.ensures
