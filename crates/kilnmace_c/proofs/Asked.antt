-- The step that is told of a thing's device.
use Rattle.std.proofs.Common.{◌≡◌, ℕ, List, sym, subst}
use Rattle.std.specs.Prelude.{None, Some}
use Rattle.std.specs.Borrow.{Bor}
use Rattle.std.proofs.lemmas.Option.{none-some}
use Rattle.plant_for_c.specs.Statuses.{number_of}
use Rattle.plant_for_c.specs.Things.{IsDeviceOf, absent_of}
use Rattle.plant_for_c.specs.declared.thing.Thing.{Thing}
use Rattle.plant_for_c.specs.declared.thing.Thing.TheVariants.{Failed, Image, Plant, Text}
use Rattle.queued_disk.specs.QueuedDisk.{steps_of}
use Rattle.queued_disk.specs.declared.disk.QueuedDisk.{QueuedDisk}
use Rattle.kilnmace_c.specs.Devices.{IsHeldDevice, IsToldStep}
use Rattle.kilnmace_c.specs.declared.devices.DeviceStep.{DeviceStep}

module _ (status : ℕ) (had step : DeviceStep) (room bytes : List ℕ) where
  -- where there is one, a step of its
  pub told-some : (thing : Thing) (found : Bor QueuedDisk) → IsDeviceOf thing (Some found) → IsToldStep (steps_of found.now) status had step room bytes → IsHeldDevice (Some thing) status had step room bytes
  told-some (Text system) found none told = absurd (none-some found (sym none))
  told-some (Image disk) found is told = subst (λ d. IsToldStep (steps_of d) status had step room bytes) is told
  told-some (Plant p) found is told = (steps_of found.now, told)
  told-some Failed found none told = absurd (none-some found (sym none))

  -- where there is none, nothing
  pub told-none : (thing : Thing) → IsDeviceOf thing None → status ≡ number_of (absent_of thing) → step ≡ had → bytes ≡ room → IsHeldDevice (Some thing) status had step room bytes
  told-none (Text system) none why kept left = (why, kept, left)
  told-none (Image disk) none why kept left = absurd none
  told-none (Plant p) none why kept left = absurd none
  told-none Failed none why kept left = (why, kept, left)
