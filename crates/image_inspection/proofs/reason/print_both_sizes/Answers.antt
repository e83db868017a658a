use Rattle.std.proofs.Common.{◌≡◌, ap, refl, subst, ℕ}
use Rattle.std.specs.Prelude.{decimal, ◌*◌}
use Rattle.std.proofs.KnownBytes.{Appends-trans}
use Rattle.record_codec.specs.Ring.{device_cells}
use Rattle.plant_image.specs.Faults.{cell_bytes}
use Rattle.text_io.specs.Printing.{Prints}
use Rattle.text_io.proofs.Leading.{printed-last}
use Rattle.image_inspection.proofs.reason.print_both_sizes.Goals as goal

pub returns : goal.returns
returns g c =
    let told = g.W.Write.contents c.print_text-2.new.writer in
    let new = g.W.Write.contents c.print_number-2.new.writer in
    let identity = c.args.identity.now in
    let size : cell_bytes * c.device_cells.result ≡ cell_bytes * device_cells identity.atoms identity.ring = ap (λ (n : ℕ). cell_bytes * n) (rw (c.device_cells.ensures, c.atoms.ensures.value, c.ring.ensures.value) refl) in
    printed-last c.print_number-2.result (g.W.Write.contents c.args.output.now) told new _ _
    (Appends-trans _ _ _ _ _ (Appends-trans _ _ _ _ _ c.in_ok-print_text.ensures c.in_ok-print_number.ensures) c.in_ok-print_text-2.ensures)
    (subst (λ (n : ℕ). Prints c.print_number-2.result told new (decimal n)) size c.print_number-2.ensures)
