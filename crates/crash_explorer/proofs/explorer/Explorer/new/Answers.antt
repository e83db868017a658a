use Rattle.std.proofs.Common.{rules, ◌≡◌, ℕ, List, None, ◌∙◌, ap, subst}
use Rattle.disk_model.specs.MemDisk.{changes_of}
use Rattle.disk_model.specs.declared.memory.MemDisk.{MemDisk}
use Rattle.recovery.specs.Formatting.{formatted_size}
use Rattle.plant_model.specs.Plant.{PlantDefinition}
use Rattle.plant_model.specs.System.{digest_of, plant_of}
use Rattle.crash_explorer.specs.Judging.{IsRightStop}
use Rattle.crash_explorer.specs.Running.{IsMadeUntil, acked_in, device_in, fired_in, is_formatting, tail_in}
use Rattle.crash_explorer.specs.Watching.{IsWhole}
use Rattle.crash_explorer.specs.declared.running.Ended.{Ended}
use Rattle.crash_explorer.specs.declared.running.Stage.{Stage}
use Rattle.crash_explorer.specs.declared.running.Stage.TheVariants.{Running}
use Rattle.crash_explorer.proofs.GoneOn.{right-running}
use Rattle.crash_explorer.proofs.explorer.Explorer.new.Goals as goal

pub returns-clause-stops : goal.returns-clause-stops
returns-clause-stops c =
    let plant : PlantDefinition = plant_of c.args.system.now in
    let digest : List ℕ = digest_of c.args.system.now in
    let bytes : ℕ = formatted_size plant c.args.ring in
    let whole : Ended = c.in_ok-whole.whole in
    let is = c.in_ok-whole.ensures.ended in
    let none : whole.disk.cut ≡ None = search rules in
    let stage : whole.stage ≡ Running = search rules in
    let unfailed : IsWhole whole.disk.disk = whole.disk.whole none in
    let made : IsMadeUntil plant digest bytes c.args.events.now Running (fired_in whole) whole.acked (device_in whole) =
    subst (λ (s : Stage). IsMadeUntil plant digest bytes c.args.events.now s (fired_in whole) whole.acked (device_in whole)) stage c.in_ok-whole.ensures.made in
    let asked : c.changes-stops.result ≡ changes_of whole.disk.disk = c.changes-stops.ensures ∙ ap (λ (m : MemDisk). changes_of m) c.into_memory.ensures in
    record {
      opened = made.0;
      first = made.1;
      fired = fired_in whole;
      acked = whole.acked;
      lived = made.2;
      device = whole.disk.disk;
      size = is.size;
      unfailed = unfailed.unfailed;
      asked = asked;
      made = asked ∙ unfailed.counted;
      all_right = λ cells may.
          right-running plant digest bytes (acked_in whole) (tail_in whole) cells
          (subst (λ (s : Stage). IsRightStop plant digest bytes (acked_in whole) (tail_in whole) (is_formatting s) cells) stage (is.stops cells may));
    }
