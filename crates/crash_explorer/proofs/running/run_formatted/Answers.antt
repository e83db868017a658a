use Rattle.std.proofs.Common.{◌+◌, ◌≡◌, ℕ, List, [], false, refl, sym, ◌∙◌, ap, subst, map, IfOk}
use Rattle.disk_model.specs.declared.cells.TheConstants.{BODY}
use Rattle.disk_model.specs.Cells.{MayBe, seen_cells}
use Rattle.disk_model.specs.DiskState.{DiskState, size_of}
use Rattle.disk_model.specs.MemDisk.{state_of}
use Rattle.disk_model.specs.Moments.{leaves_now, seen_may}
use Rattle.plant_core.specs.Plants.{text_digest, view_of}
use Rattle.plant_core.specs.View.{View}
use Rattle.recovery.specs.Booting.{IsBooting}
use Rattle.plant_model.specs.Chosen.{fired_of}
use Rattle.plant_model.specs.Plant.{PlantDefinition}
use Rattle.plant_model.specs.System.{digest_of, plant_of}
use Rattle.plant_model.specs.declared.fired.Firing.{Firing}
use Rattle.crash_explorer.specs.Running.{IsAt, IsFirstBoot, IsLived, device_in, fired_in}
use Rattle.crash_explorer.specs.declared.running.Ended.{Ended}
use Rattle.crash_explorer.specs.declared.running.Stage.TheVariants.{Booting}
use Rattle.crash_explorer.specs.declared.watched.Watched.{Watched}
use Rattle.crash_explorer.proofs.Stopped.{booted-at, booting-right, ended-first, first-right, made-none, made-running}
use Rattle.crash_explorer.proofs.running.run_formatted.Goals as goal

pub run_booted-requires : goal.run_booted-requires
run_booted-requires c =
    let plant : PlantDefinition = plant_of c.args.system.now in
    let digest : List ℕ = digest_of c.args.system.now in
    let s : DiskState = state_of c.args.disk.disk in
    subst (λ (p : PlantDefinition). IsAt p (map fired_of c.new.result.items) (view_of c.in-Ok.plant)) (sym c.in-Ok.ensures.system.0)
    (subst (λ (l : List Firing). IsAt plant (map fired_of l) (view_of c.in-Ok.plant)) (sym c.new.ensures.items)
    (booted-at plant digest (size_of s) [] (seen_cells (BODY + 1) s) (view_of c.in-Ok.plant) refl (c.in-Ok.ensures.booted refl) (c.requires (seen_cells (BODY + 1) s) (seen_may (BODY + 1) s))))

pub returns-in-Ok-clause-made : goal.returns-in-Ok-clause-made
returns-in-Ok-clause-made c =
    let plant : PlantDefinition = plant_of c.args.system.now in
    let digest : List ℕ = digest_of c.args.system.now in
    let s : DiskState = state_of c.args.disk.disk in
    let v : View = view_of c.in-Ok.plant in
    let first : IsFirstBoot plant digest (size_of s) v = record {
      cells = seen_cells (BODY + 1) s;
      stood = c.requires (seen_cells (BODY + 1) s) (seen_may (BODY + 1) s);
      booted = c.in-Ok.ensures.booted refl;
    } in
    made-running plant digest (size_of s) c.args.events.now v c.run_booted.result first
    (subst (λ (l : List Firing). IfOk c.run_booted.result (λ (e : Ended). IsLived plant digest c.args.events.now v (map fired_of l) (fired_in e) e.acked (device_in e))) c.new.ensures.items
    (subst (λ (d : List ℕ). IfOk c.run_booted.result (λ (e : Ended). IsLived plant d c.args.events.now v (map fired_of c.new.result.items) (fired_in e) e.acked (device_in e))) c.in-Ok.ensures.system.1
    (subst (λ (p : PlantDefinition). IfOk c.run_booted.result (λ (e : Ended). IsLived p (text_digest c.in-Ok.plant) c.args.events.now v (map fired_of c.new.result.items) (fired_in e) e.acked (device_in e))) c.in-Ok.ensures.system.0
    c.run_booted.ensures.lived)))
    c.run_booted.ensures.stage

pub returns-in-Image : goal.returns-in-Image
returns-in-Image c =
    let plant : PlantDefinition = plant_of c.args.system.now in
    let digest : List ℕ = digest_of c.args.system.now in
    let s : DiskState = state_of c.args.disk.disk in
    let left : DiskState = state_of c.in-Err.refused.disk.disk in
    let ended : Ended = c.before_the_first.result in
    let device : device_in ended ≡ left = ap (λ (w : Watched). state_of w.disk) c.before_the_first.ensures.disk in
    let size : size_of left ≡ size_of s = c.in-Err.ensures.cause.size in
    record {
      ended =
          ended-first plant digest (size_of s) ended Booting c.before_the_first.ensures.fired c.before_the_first.ensures.acked c.before_the_first.ensures.stage
          (ap (λ (d : DiskState). size_of d) device ∙ size)
          (λ cells may. first-right plant digest (size_of s) false cells
          (booting-right plant digest s cells c.requires (leaves_now (BODY + 1) (IsBooting plant digest s) s left (c.in-Err.ensures.stops refl) cells (subst (λ (d : DiskState). MayBe (BODY + 1) d cells) device may))));
      made = made-none plant digest (size_of s) c.args.events.now ended Booting c.before_the_first.ensures.fired c.before_the_first.ensures.stage refl c.before_the_first.ensures.acked;
    }
