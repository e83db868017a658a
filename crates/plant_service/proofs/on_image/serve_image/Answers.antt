-- The plant that was booted is the one that was served.
use Rattle.std.proofs.Common.{◌∙◌}
use Rattle.plant_core.specs.Plants.{device_of, view_of}
use Rattle.plant_service.proofs.Imaging.{fails-on, serves-on}
use Rattle.plant_service.proofs.on_image.serve_image.Goals as goal

pub returns-then-branch-clause-failed : goal.returns-then-branch-clause-failed
returns-then-branch-clause-failed g c = λ is.
    let booted = c.in-Ok.ensures in
    fails-on _ _ _ _ c.args.rule_lines.now (g.D.Disk.state c.args.disk) (device_of c.in-Ok.plant) (device_of c.serve.new.plant) c.in_ok-serve.field-0 (view_of c.in-Ok.plant) (view_of c.serve.new.plant) _ _
    booted.plant booted.digest booted.booted booted.keeps c.if-branch.true (g.I.Read.remaining c.args.input.now) c.in_ok-serve.ensures.served

pub returns-clause-served : goal.returns-clause-served
returns-clause-served g c =
    let booted = c.in-Ok.ensures in
    let served = c.in_ok-serve.ensures in
    serves-on _ _ _ _ c.args.rule_lines.now (g.D.Disk.state c.args.disk) (device_of c.in-Ok.plant) (device_of c.serve.new.plant) c.in_ok-serve.field-0 (view_of c.in-Ok.plant) (view_of c.serve.new.plant) _ _
    booted.plant booted.digest booted.booted booted.keeps _ _ _ (served.plant ∙ booted.plant) (served.digest ∙ booted.digest) c.into_disk.ensures c.if-branch.false c.stands.ensures (g.I.Read.remaining c.args.input.now) served.served
