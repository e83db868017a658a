-- The plant that was booted is the one whose events were shared out.
use Rattle.std.proofs.Common.{◌∙◌, sym}
use Rattle.plant_model.specs.System.{digest_of, plant_of}
use Rattle.plant_core.specs.Plants.{definition_of, device_of, text_digest, view_of}
use Rattle.worker_runs.proofs.Standing.{run-by, stands-so}
use Rattle.worker_runs.proofs.running.run_by_workers.Goals as goal

pub returns-then-is_broken-clause-failed : goal.returns-then-is_broken-clause-failed
returns-then-is_broken-clause-failed g c = λ is.
    let shared = c.in-Ok-share_out.ensures in (
      view_of c.in-Ok-share_out.field-0.plant,
      sym c.is_broken.ensures ∙ c.if-is_broken.true,
      run-by (definition_of c.in-Ok.plant) (plant_of c.args.system.now) (definition_of c.in-Ok-share_out.field-0.plant) (digest_of c.args.system.now) (g.D.Disk.state c.args.disk)
          c.in-Ok-name.named.seats c.args.workers c.args.events.now (view_of c.in-Ok.plant) (view_of c.in-Ok-share_out.field-0.plant) c.in-Ok-share_out.field-0.fired _ _ _ _
          c.in-Ok.ensures.plant shared.plant c.in-Ok-name.ensures.seats c.in-Ok.ensures.booted shared.shared shared.fired c.in_ok-print_standing.ensures c.in_ok-print_fired.ensures c.in_ok-hand_on.ensures,
    )

pub returns-clause-ran : goal.returns-clause-ran
returns-clause-ran g c =
    let booted = c.in-Ok.ensures in
    let shared = c.in-Ok-share_out.ensures in
    let whole = sym c.is_broken.ensures ∙ c.if-is_broken.false in
    record {
      after = view_of c.in-Ok-share_out.field-0.plant;
      run = run-by (definition_of c.in-Ok.plant) (plant_of c.args.system.now) (definition_of c.in-Ok-share_out.field-0.plant) (digest_of c.args.system.now) (g.D.Disk.state c.args.disk)
          c.in-Ok-name.named.seats c.args.workers c.args.events.now (view_of c.in-Ok.plant) (view_of c.in-Ok-share_out.field-0.plant) c.in-Ok-share_out.field-0.fired _ _ _ _
          c.in-Ok.ensures.plant shared.plant c.in-Ok-name.ensures.seats c.in-Ok.ensures.booted shared.shared shared.fired c.in_ok-print_standing.ensures c.in_ok-print_fired.ensures c.in_ok-hand_on.ensures;
      whole = whole;
      stands = stands-so (definition_of c.in-Ok-share_out.field-0.plant) (plant_of c.args.system.now) (text_digest c.in-Ok-share_out.field-0.plant) (digest_of c.args.system.now)
          (g.D.Disk.state c.args.disk) (device_of c.in-Ok-share_out.field-0.plant) _ (view_of c.in-Ok-share_out.field-0.plant)
          (shared.plant ∙ booted.plant) (shared.digest ∙ booted.digest) (shared.keeps ∙ booted.keeps) c.into_disk.ensures whole c.stands.ensures;
    }
