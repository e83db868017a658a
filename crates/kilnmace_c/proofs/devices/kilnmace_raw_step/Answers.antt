use Rattle.std.proofs.Common.{◌∙◌, ap, sym, subst}
use Rattle.std.specs.Prelude.{None, Some}
use Rattle.plant_for_c.specs.Things.{IsDeviceOf, absent_of}
use Rattle.plant_for_c.specs.Statuses.{number_of}
use Rattle.kilnmace_c.specs.Devices.{IsHeldDevice}
use Rattle.kilnmace_c.proofs.Asked.{told-none, told-some}
use Rattle.kilnmace_c.proofs.devices.kilnmace_raw_step.Goals as goal
use Rattle.kilnmace_c.proofs.devices.kilnmace_raw_step.Goals.{in-Some, in-None}

pub returns-clause-told : goal.returns-clause-told
returns-clause-told c marked =
    let had = c.args.step.now in
    let room = c.args.bytes.now in
    let now = c.match-device in
    subst (λ held. IsHeldDevice held now.status had now.step room now.bytes) (sym c.in-Ok.ensures.taken) (elim c.match-device.branch [
      | in-Some w ↦ told-some now.status had now.step room now.bytes c.in-Ok.thing.value w.in-Some.disk (subst (λ t. IsDeviceOf t (Some w.in-Some.disk)) c.deref.ensures w.in-Some.ensures)
          (rw (w.status-is, w.step-is, w.bytes-is) w.take_step-status.ensures)
      | in-None w ↦ told-none now.status had now.step room now.bytes c.in-Ok.thing.value (subst (λ t. IsDeviceOf t None) c.deref.ensures w.in-None.ensures)
          (w.status-is ∙ w.number-status.ensures ∙ ap number_of (w.absent.ensures ∙ ap absent_of w.deref-in-None.ensures)) w.step-is w.bytes-is
    ])
