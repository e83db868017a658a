use Rattle.std.proofs.Common.{◌+◌, ◌≡◌, ℕ, List, refl, ◌∙◌, ap, subst, replicate}
use Rattle.std.proofs.lemmas.List.{length-replicate}
use Rattle.disk_model.specs.declared.cells.TheConstants.{BODY}
use Rattle.disk_model.specs.Cells.{MayBe}
use Rattle.disk_model.specs.DiskState.{DiskState, size_of}
use Rattle.disk_model.specs.MemDisk.{fresh, state_of}
use Rattle.disk_model.specs.Moments.{leaves_now}
use Rattle.disk_model.specs.declared.memory.MemDisk.{MemDisk}
use Rattle.recovery.specs.Formatting.{IsFormatting, formatted_size}
use Rattle.plant_model.specs.Plant.{PlantDefinition}
use Rattle.plant_model.specs.System.{digest_of, plant_of}
use Rattle.crash_explorer.specs.Running.{device_in}
use Rattle.crash_explorer.specs.declared.running.Ended.{Ended}
use Rattle.crash_explorer.specs.declared.running.Stage.TheVariants.{Formatting}
use Rattle.crash_explorer.specs.declared.watched.Watched.{Watched}
use Rattle.crash_explorer.proofs.Stopped.{ended-first, formatting-right, made-none}
use Rattle.crash_explorer.proofs.running.run.Goals as goal

pub returns-in-WrongSize : goal.returns-in-WrongSize
returns-in-WrongSize c =
    let plant : PlantDefinition = plant_of c.args.system.now in
    let digest : List ℕ = digest_of c.args.system.now in
    let bytes : ℕ = formatted_size plant c.args.ring in
    let old : DiskState = state_of c.over.result.disk in
    let zeros : old ≡ fresh (replicate bytes 0) = ap (λ (m : MemDisk). state_of m) c.over.ensures ∙ c.requires.zeros in
    let left : DiskState = state_of c.in-Err.refused.disk.disk in
    let ended : Ended = c.before_the_first.result in
    let device : device_in ended ≡ left = ap (λ (w : Watched). state_of w.disk) c.before_the_first.ensures.disk in
    let size : size_of left ≡ bytes = c.in-Err.ensures.counts.size ∙ ap (λ (d : DiskState). size_of d) zeros ∙ length-replicate bytes 0 in
    record {
      ended =
          ended-first plant digest bytes ended Formatting c.before_the_first.ensures.fired c.before_the_first.ensures.acked c.before_the_first.ensures.stage
          (ap (λ (d : DiskState). size_of d) device ∙ size)
          (λ cells may. formatting-right plant digest c.args.ring old cells zeros
          (leaves_now (BODY + 1) (IsFormatting plant digest old) old left (c.in-Err.ensures.stops refl) cells (subst (λ (d : DiskState). MayBe (BODY + 1) d cells) device may)));
      made = made-none plant digest bytes c.args.events.now ended Formatting c.before_the_first.ensures.fired c.before_the_first.ensures.stage refl c.before_the_first.ensures.acked;
    }
