use Rattle.std.proofs.Common.{subst, ℕ}
use Rattle.std.specs.Prelude.{decimal}
use Rattle.std.specs.Io.KnownBytes.{Appends}
use Rattle.std.proofs.KnownBytes.{Appends-trans}
use Rattle.text_io.proofs.Leading.{printed-last}
use Rattle.image_inspection.proofs.places.print_not_enabled.Goals as goal

pub returns : goal.returns
returns g c =
    let comma = g.W.Write.contents c.print_text-2.new.writer in
    let numbered = g.W.Write.contents c.print_number-2.new.writer in
    let atom : Appends comma numbered (decimal c.args.atom) = subst (λ (n : ℕ). Appends comma numbered (decimal n)) c.from.ensures c.in_ok-print_number-2.ensures in
    printed-last c.print_text-3.result (g.W.Write.contents c.args.output.now) numbered (g.W.Write.contents c.print_text-3.new.writer) _ _
    (Appends-trans _ _ _ _ _ (Appends-trans _ _ _ _ _ (Appends-trans _ _ _ _ _ c.in_ok-print_text.ensures c.in_ok-print_number.ensures) c.in_ok-print_text-2.ensures) atom) c.print_text-3.ensures
