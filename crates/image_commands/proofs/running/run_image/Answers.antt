-- The plant that was booted is the one that was run, from empty hands.
use Rattle.std.proofs.Common.{◌∙◌, Bool, subst}
use Rattle.plant_model.specs.System.{digest_of, plant_of}
use Rattle.plant_core.specs.Handed.{hands_of}
use Rattle.plant_core.specs.Plants.{device_of, view_of}
use Rattle.image_commands.specs.Runs.{IsRunOn}
use Rattle.image_commands.proofs.Standing.{ran_on, run_stands}
use Rattle.image_commands.proofs.running.run_image.Goals as goal

pub returns-then-branch-clause-failed : goal.returns-then-branch-clause-failed
returns-then-branch-clause-failed g c = λ is.
    let booted = c.in-Ok-booted.ensures in
    let ran = c.in_ok-run_script.ensures in
    let on = ran_on _ _ _ _ (g.D.Disk.state c.args.disk) (device_of c.in-Ok-booted.plant) (device_of c.run_script.new.plant) _ _ (view_of c.in-Ok-booted.plant) (view_of c.run_script.new.plant) _ (hands_of c.run_script.new.hands) _ _ c.atoms.result.now
    booted.plant booted.digest booted.booted booted.keeps c.atoms.ensures c.in-Ok.ensures ran.run in
    (view_of c.run_script.new.plant, (device_of c.run_script.new.plant, subst (λ (failed : Bool). IsRunOn (plant_of c.args.system.now) (digest_of c.args.system.now) (g.D.Disk.state c.args.disk) c.args.events.now failed (view_of c.run_script.new.plant) (device_of c.run_script.new.plant) (g.W.Write.contents c.args.output.now) (g.W.Write.contents c.run_script.new.output)) c.if-branch.true on))

pub returns-clause-ran : goal.returns-clause-ran
returns-clause-ran g c =
    let booted = c.in-Ok-booted.ensures in
    let ran = c.in_ok-run_script.ensures in
    let on = ran_on _ _ _ _ (g.D.Disk.state c.args.disk) (device_of c.in-Ok-booted.plant) (device_of c.run_script.new.plant) _ _ (view_of c.in-Ok-booted.plant) (view_of c.run_script.new.plant) _ (hands_of c.run_script.new.hands) _ _ c.atoms.result.now
    booted.plant booted.digest booted.booted booted.keeps c.atoms.ensures c.in-Ok.ensures ran.run in
    run_stands _ _ _ _ _ _ _ _ _ _ _ _ (ran.plant ∙ booted.plant) (ran.digest ∙ booted.digest) c.into_disk.ensures c.if-branch.false on c.stands.ensures
