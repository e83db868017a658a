-- The plant that was booted is the one that was run, from empty hands.
use Rattle.std.proofs.Common.{◌∙◌}
use Rattle.plant_core.specs.Handed.{hands_of}
use Rattle.plant_core.specs.Plants.{device_of, view_of}
use Rattle.image_commands.proofs.Standing.{strict_run_stands}
use Rattle.image_commands.proofs.running.run_image_strictly.Goals as goal

pub returns-clause-ran : goal.returns-clause-ran
returns-clause-ran g c =
    let booted = c.in-Ok-booted.ensures in
    let ran = c.in_ok-stop.ensures in
    strict_run_stands _ _ _ _ _ _ (g.D.Disk.state c.args.disk) (device_of c.in-Ok-booted.plant) (device_of c.run_strictly.new.plant) _ _ _ (view_of c.in-Ok-booted.plant) (view_of c.run_strictly.new.plant) _ (hands_of c.run_strictly.new.hands) _ _ c.atoms.result.now
    booted.plant booted.digest (ran.plant ∙ booted.plant) (ran.digest ∙ booted.digest) c.into_disk.ensures booted.booted booted.keeps c.atoms.ensures c.in-Ok.ensures ran.run c.stands.ensures
