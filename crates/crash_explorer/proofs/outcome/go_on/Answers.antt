use Rattle.std.proofs.Common.{◌+◌, ◌≡◌, ◌<◌, ◌≤◌, inl, ℕ, ℤ, List, [], ◌∷◌, length, map, slice_index, ◌∙◌, ap, subst, arith}
use Rattle.std.proofs.lemmas.List.{length-append, length-map}
use Rattle.disk_model.specs.declared.cells.TheConstants.{BODY}
use Rattle.disk_model.specs.Cells.{Cell, MayBe, cells_of}
use Rattle.disk_model.specs.DiskState.{DiskState, Moment, MayLeave, is_pending, size_of}
use Rattle.disk_model.specs.MemDisk.{cell_of, state_of, synced_of}
use Rattle.disk_model.specs.Moments.{left_may}
use Rattle.disk_model.specs.Recording.{byte_left}
use Rattle.disk_model.specs.declared.memory.MemDisk.{MemDisk}
use Rattle.plant_core.specs.Events.{all_fired}
use Rattle.plant_core.specs.Plants.{definition_of, device_of, text_digest, view_of}
use Rattle.plant_core.specs.View.{View}
use Rattle.plant_core.specs.declared.events.Event.TheVariants.{Fire, Flush}
use Rattle.plant_model.specs.Firing.{FiringDefinition}
use Rattle.plant_model.specs.Chosen.{fired_of}
use Rattle.plant_model.specs.Plant.{PlantDefinition}
use Rattle.plant_model.specs.System.{digest_of, plant_of}
use Rattle.plant_model.specs.declared.fired.Firing.{Firing}
use Rattle.crash_explorer.specs.Judging.{IsRight, IsRightStop}
use Rattle.crash_explorer.specs.Running.{IsLived, acked_in, device_in, fired_in, is_formatting, tail_in}
use Rattle.crash_explorer.specs.Verdicts.{IsFound, IsVerdict}
use Rattle.crash_explorer.specs.declared.booting.Found.{Found}
use Rattle.crash_explorer.specs.declared.judging.Verdict.{Verdict}
use Rattle.crash_explorer.specs.Outcomes.{next_events}
use Rattle.crash_explorer.specs.declared.running.Ended.{Ended}
use Rattle.crash_explorer.specs.declared.running.Stage.{Stage}
use Rattle.crash_explorer.proofs.GoneOn.{right-all, right-running}
use Rattle.crash_explorer.proofs.outcome.go_on.Goals as goal

pub returns : goal.returns
returns c =
    let plant : PlantDefinition = definition_of c.args.plant in
    let digest : List ℕ = text_digest c.args.plant in
    let bytes : ℕ = size_of (device_of c.args.plant) in
    let v : View = view_of c.args.plant in
    let behind : List FiringDefinition = map fired_of c.args.behind.items in
    let ended : Ended = c.in_ok-ended.ended in
    let is = c.in_ok-ended.ensures.ended in
    let lived = c.in_ok-ended.ensures.lived in
    let fired : List FiringDefinition = fired_in ended in
    let long : length fired ≡ length ended.fired.items = length-map ended.fired.items fired_of in
    let many : ended.acked ≡ length fired = omega (arith, c.if-ended-len.false, c.len.ensures, ended.fired.ok.0, long) in
    let all : length fired ≤ ended.acked = omega (arith, many) in
    let device : MemDisk = ended.disk.disk in
    let same : c.into_memory.result ≡ device = c.into_memory.ensures in
    let of_device : state_of c.into_memory.result ≡ device_in ended = ap (λ (m : MemDisk). state_of m) same in
    let s : DiskState = state_of c.stop-left.result in
    let left : List ℕ = s.now.seen in
    let may : MayLeave (device_in ended).now left = subst (λ (d : DiskState). MayLeave d.now left) of_device c.stop-left.ensures.left in
    let size : length left ≡ bytes = may.size ∙ is.size in
    let verdict : Verdict = c.in_ok-verdict.verdict in
    let judged_by : IsVerdict plant (digest_of c.system-system.result.now) (length left) (map fired_of c.deref.result.now) [] (cells_of (BODY + 1) left) verdict =
    subst (λ (p : PlantDefinition). IsVerdict p (digest_of c.system-system.result.now) (length left) (map fired_of c.deref.result.now) [] (cells_of (BODY + 1) left) verdict) c.system-system.ensures.plant c.in_ok-verdict.ensures.verdict in
    let judged_digest : IsVerdict plant digest (length left) (map fired_of c.deref.result.now) [] (cells_of (BODY + 1) left) verdict =
    subst (λ (d : List ℕ). IsVerdict plant d (length left) (map fired_of c.deref.result.now) [] (cells_of (BODY + 1) left) verdict) c.system-system.ensures.digest judged_by in
    let judged_fired : IsVerdict plant digest (length left) fired [] (cells_of (BODY + 1) left) verdict =
    subst (λ (l : List Firing). IsVerdict plant digest (length left) (map fired_of l) [] (cells_of (BODY + 1) left) verdict) c.deref.ensures.value judged_digest in
    let judged : IsVerdict plant digest bytes fired [] (cells_of (BODY + 1) left) verdict = subst (λ (n : ℕ). IsVerdict plant digest n fired [] (cells_of (BODY + 1) left) verdict) size judged_fired in
    let found : Found = c.in_ok-found.found in
    let found_there : IsFound (plant_of c.system-system.result.now) (digest_of c.system-system.result.now) (length left) (cells_of (BODY + 1) left) found =
    subst (λ (m : Moment). IsFound (plant_of c.system-system.result.now) (digest_of c.system-system.result.now) (length m.seen) (cells_of (BODY + 1) m.seen) found) c.verdict_on.ensures.kept.same.now c.in_ok-found.ensures in
    let found_by : IsFound plant (digest_of c.system-system.result.now) (length left) (cells_of (BODY + 1) left) found =
    subst (λ (p : PlantDefinition). IsFound p (digest_of c.system-system.result.now) (length left) (cells_of (BODY + 1) left) found) c.system-system.ensures.plant found_there in
    let found_digest : IsFound plant digest (length left) (cells_of (BODY + 1) left) found = subst (λ (d : List ℕ). IsFound plant d (length left) (cells_of (BODY + 1) left) found) c.system-system.ensures.digest found_by in
    let found_is : IsFound plant digest bytes (cells_of (BODY + 1) left) found = subst (λ (n : ℕ). IsFound plant digest n (cells_of (BODY + 1) left) found) size found_digest in
    let iff = c.is_right.ensures plant digest bytes fired [] (cells_of (BODY + 1) left) judged found_is in
    let all_right : (cells : List Cell) → MayBe (BODY + 1) (device_in ended) cells → IsRight plant digest bytes fired [] cells = λ cells left_by.
    right-all plant digest bytes ended.acked fired cells all
    (right-running plant digest bytes (acked_in ended) (tail_in ended) cells
    (subst (λ (st : Stage). IsRightStop plant digest bytes (acked_in ended) (tail_in ended) (is_formatting st) cells) c.in_ok-ended.ensures.stage (is.stops cells left_by))) in
    let right = all_right (cells_of (BODY + 1) left) (left_may (BODY + 1) (device_in ended) left may) in
    record {
      fired = fired;
      lived = subst (λ (n : ℕ). IsLived plant digest next_events v behind fired n (device_in ended)) many
          (subst (λ (values : List ℤ). IsLived plant digest (Fire 0 values ∷ Flush ∷ []) v behind fired ended.acked (device_in ended)) c.none.ensures lived);
      fired_more = omega (arith, c.len-2.ensures, c.len-before.ensures, ended.fired.ok.0, c.args.behind.ok.0, long, length-map c.args.behind.items fired_of, ap (λ (cs : List FiringDefinition). length cs) lived.fired_are, length-append behind (all_fired lived.happened));
      device = device;
      size = is.size;
      all_right = all_right;
      left = left;
      torn = record {
        size = may.size;
        each = λ i inside.
            subst (λ (n : ℕ). slice_index left i ≡ byte_left c.args.tear n (is_pending (state_of device).now i) i (slice_index (state_of device).now.seen i) (slice_index (synced_of device) i)) ended.disk.cells
            (subst (λ (d : MemDisk). i < size_of (state_of d) → slice_index left i ≡ byte_left c.args.tear (cell_of d) (is_pending (state_of d).now i) i (slice_index (state_of d).now.seen i) (slice_index (synced_of d) i)) same (c.stop-left.ensures.each i) inside);
      };
      found_is = found_is;
      right_where = (λ yes. right-running plant digest bytes fired [] (cells_of (BODY + 1) left) (iff.0 yes), λ is_right. iff.1 (inl is_right));
      right_is = iff.1 (inl right);
    }
