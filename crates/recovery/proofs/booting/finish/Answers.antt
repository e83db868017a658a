use Rattle.std.proofs.Common.{◌≡◌, ◌+◌, sym, subst}
use Rattle.disk_model.specs.declared.cells.TheConstants.{BODY}
use Rattle.plant_core.specs.View.{View}
use Rattle.recovery.specs.Booting.{IsBooted, IsBooting}
use Rattle.recovery.specs.Seen.{plant_of, digest_of, DiskState, Leaves, seen_cells, size_of}
use Rattle.recovery.proofs.booting.finish.Goals as goal

-- the plant is made of the parts, and shows what they show
pub returns-in-Ok-clause-booted : goal.returns-in-Ok-clause-booted
returns-in-Ok-clause-booted g c = λ old synced keeps.
    subst (λ (v : View). IsBooted (plant_of c.args.system.now) (digest_of c.args.system.now) (size_of old) (seen_cells (BODY + 1) old) v) (sym c.of.ensures.view) (c.in-Ok.ensures.booted old synced keeps)

-- and its device is the one that was prepared
pub returns-in-Ok-clause-stops : goal.returns-in-Ok-clause-stops
returns-in-Ok-clause-stops g c = λ old synced keeps.
    subst (λ (s : DiskState). Leaves (BODY + 1) (IsBooting (plant_of c.args.system.now) (digest_of c.args.system.now) old) old s) (sym c.of.ensures.device) (c.in-Ok.ensures.stops old synced keeps)
