-- The plant that was booted from the new device is at the number that was brought over, and is let go as it was booted.
use Rattle.std.proofs.Common.{◌∙◌, subst, ℕ}
use Rattle.std.specs.Io.KnownBytes.{Appends}
use Rattle.plant_model.specs.System.{plant_of}
use Rattle.plant_core.specs.Plants.{view_of}
use Rattle.image_commands.specs.Migrations.{held_by_old, migrated_line}
use Rattle.image_commands.proofs.Appending.{appended_and_kept}
use Rattle.image_commands.proofs.Migrated.{migrated_number, migrated_stands}
use Rattle.image_commands.proofs.Standing.{recovered_stands}
use Rattle.image_commands.proofs.migrating.migrate_image.Goals as goal

pub returns-clause-printed : goal.returns-clause-printed
returns-clause-printed g c old_keeps new_keeps =
    let number =
    migrated_number _ _ c.args.ring (held_by_old (plant_of c.args.system.now) (g.D1.Disk.state c.args.old)) (g.D2.Disk.state c.in-Ok.devices.1) (view_of c.in-Ok-booted.plant) (c.in-Ok.ensures.migrated old_keeps new_keeps)
    c.in-Ok-booted.ensures.booted (c.in-Ok.ensures.new_counts.keeps ∙ new_keeps) in
    subst (λ (n : ℕ). Appends (g.W.Write.contents c.args.output.now) (g.W.Write.contents c.hand_on.new.writer) (migrated_line n)) (c.front.ensures.acked ∙ number)
    (appended_and_kept _ _ _ _ c.in_ok-print_migrated.ensures c.in_ok-hand_on.ensures)

pub returns-clause-stands : goal.returns-clause-stands
returns-clause-stands g c old_keeps new_keeps =
    migrated_stands _ _ c.args.ring (held_by_old (plant_of c.args.system.now) (g.D1.Disk.state c.args.old)) (g.D2.Disk.state c.in-Ok.devices.1) (g.D2.Disk.state c.into_disk.result) (c.in-Ok.ensures.migrated old_keeps new_keeps)
    (recovered_stands _ _ _ _ (g.D2.Disk.state c.in-Ok.devices.1) _ _ (view_of c.in-Ok-booted.plant) c.in-Ok-booted.ensures.plant c.in-Ok-booted.ensures.digest
    c.into_disk.ensures c.in-Ok-booted.ensures.keeps c.in-Ok-booted.ensures.booted c.stands.ensures (c.in-Ok.ensures.new_counts.keeps ∙ new_keeps))
