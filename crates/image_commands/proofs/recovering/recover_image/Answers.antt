-- The plant that was booted is the one whose state is printed.
use Rattle.std.proofs.Common.{List, ℕ, subst}
use Rattle.std.specs.Io.KnownBytes.{Appends}
use Rattle.plant_core.specs.Plants.{view_of}
use Rattle.image_commands.specs.Seen.{plant_of, digest_of}
use Rattle.image_commands.proofs.Appending.{standing_and_kept}
use Rattle.image_commands.proofs.Standing.{booted-text, recovered_stands}
use Rattle.image_commands.proofs.recovering.recover_image.Goals as goal

pub returns-clause-printed : goal.returns-clause-printed
returns-clause-printed g c = λ keeps.
    let v = view_of c.in-Ok.plant in
    subst (λ (text : List ℕ). Appends (g.W.Write.contents c.args.output.now) (g.W.Write.contents c.hand_on.new.writer) text)
    (booted-text (plant_of c.args.system.now) (digest_of c.args.system.now) (g.D.Disk.state c.args.disk) v (c.in-Ok.ensures.booted keeps))
    (standing_and_kept _ _ _ _ _ v c.in-Ok.ensures.plant c.in_ok-print_standing.ensures c.in_ok-hand_on.ensures)

pub returns-clause-shape : goal.returns-clause-shape
returns-clause-shape g c =
    let v = view_of c.in-Ok.plant in
    (v, standing_and_kept _ _ _ _ _ v c.in-Ok.ensures.plant c.in_ok-print_standing.ensures c.in_ok-hand_on.ensures)

pub returns-clause-stands : goal.returns-clause-stands
returns-clause-stands g c =
    recovered_stands _ _ _ _ (g.D.Disk.state c.args.disk) _ _ (view_of c.in-Ok.plant) c.in-Ok.ensures.plant c.in-Ok.ensures.digest c.into_disk.ensures c.in-Ok.ensures.keeps
    c.in-Ok.ensures.booted c.stands.ensures
