use Rattle.std.proofs.Common.{subst, codes, OnOk}
use Rattle.std.specs.Io.KnownBytes.{Appends}
use Rattle.plant_warnings.specs.Messages.{about}
use Rattle.plant_warnings.proofs.message.print_message.Goals as goal

pub returns-in-DeadSide : goal.returns-in-DeadSide
returns-in-DeadSide g c =
    rw c.in-DeadSide.is
    (subst (λ name. OnOk c.print_about-in-DeadSide.result (Appends (g.W.Write.contents c.args.output.now) (g.W.Write.contents c.print_about-in-DeadSide.new.output) (about (codes "rule orders nothing: connector ") name (codes " can't be fired"))))
    c.connector_name-in-DeadSide.ensures c.print_about-in-DeadSide.ensures)
