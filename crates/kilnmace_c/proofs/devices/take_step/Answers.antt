use Rattle.std.proofs.Common.{refl, inr, subst, arith}
use Rattle.queued_disk.specs.QueuedDisk.{steps_of}
use Rattle.queued_disk.specs.Steps.{IsToldOf}
use Rattle.kilnmace_c.proofs.devices.take_step.Goals as goal

pub returns-then-bytes-min : goal.returns-then-bytes-min
returns-then-bytes-min c = inr (
  c.number.ensures,
  (
    c.in-Some-Write.at,
    c.in-Some-Write.bytes.now,
    subst (IsToldOf (steps_of c.args.disk.now)) c.in-Some-Write.field-0-is c.in-Some-Write.ensures,
    omega (arith, c.min.ensures, c.if-bytes-min.true),
  ),
  refl,
  refl,
)
