use Rattle.std.proofs.Common.{◌≡◌, ◌+◌, subst, arith, ℕ, Bool}
use Rattle.std.specs.Io.KnownBytes.{Appends}
use Rattle.plant_image.specs.Contents.{Contents}
use Rattle.plant_image.specs.Reading.{contents_in}
use Rattle.image_inspection.specs.Open.{cell_line, is_cell_doubted, is_doubted, open_line}
use Rattle.image_inspection.proofs.Ranges.{any-more, leads-number}
use Rattle.image_inspection.proofs.open.print_open.Goals as goal

pub loop-number-preserved : goal.loop-number-preserved
loop-number-preserved g c =
    let held : Contents = contents_in c.args.held.now in
    let i : ℕ = c.loop-number.number in
    let n : ℕ = held.base + held.ring in
    let test : ℕ → Bool = is_doubted c.args.cells.now c.args.atoms held in
    let before = g.W.Write.contents c.loop-number.output in
    let after = g.W.Write.contents c.print_cell_line.new.output in
    let k_is = c.record_cell-k.ensures in
    let piece : Appends before after (open_line c.args.cells.now c.args.atoms held i) =
    subst (λ (k : ℕ). Appends before after (cell_line c.args.cells.now held.base k)) k_is c.in_ok-print_cell_line.ensures in
    let here : c.is_cell_doubted-doubted.result ≡ test i =
    subst (λ (k : ℕ). c.is_cell_doubted-doubted.result ≡ is_cell_doubted c.args.cells.now held.base k) k_is c.is_cell_doubted-doubted.ensures in
    record {
      printed = leads-number (open_line c.args.cells.now c.args.atoms held) i n _ _ _ _ (omega arith) c.loop-number.invariant.printed piece;
      doubted = any-more test i n _ c.loop-number.doubted c.is_cell_doubted-doubted.result (omega arith) c.loop-number.invariant.doubted here;
    }
