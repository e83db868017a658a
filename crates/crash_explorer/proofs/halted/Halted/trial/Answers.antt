use Rattle.std.proofs.Common.{◌+◌, ◌≡◌, ◌<◌, ◌≤◌, ℕ, List, length, map, slice_index, refl, sym, ◌∙◌, ap, subst, arith}
use Rattle.std.proofs.lemmas.List.{length-map}
use Rattle.disk_model.specs.declared.cells.TheConstants.{BODY}
use Rattle.disk_model.specs.Cells.{cells_of}
use Rattle.disk_model.specs.DiskState.{DiskState, MayLeave, is_pending, size_of}
use Rattle.disk_model.specs.MemDisk.{cell_of, state_of, synced_of}
use Rattle.disk_model.specs.Recording.{byte_left}
use Rattle.disk_model.specs.Moments.{left_may}
use Rattle.disk_model.specs.declared.memory.MemDisk.{MemDisk}
use Rattle.recovery.specs.Formatting.{formatted_size}
use Rattle.plant_model.specs.Chosen.{fired_of}
use Rattle.plant_model.specs.Firing.{FiringDefinition}
use Rattle.plant_model.specs.Plant.{PlantDefinition}
use Rattle.plant_model.specs.System.{digest_of, plant_of}
use Rattle.plant_model.specs.declared.fired.Firing.{Firing}
use Rattle.crash_explorer.specs.Exploring.{IsTrial}
use Rattle.crash_explorer.specs.Halting.{HaltedRun}
use Rattle.crash_explorer.specs.Outcomes.{IsNextOf, IsOutcome}
use Rattle.crash_explorer.specs.Running.{fired_in, is_formatting}
use Rattle.crash_explorer.specs.declared.explorer.Trial.{Trial}
use Rattle.crash_explorer.specs.declared.outcome.Outcome.{Outcome}
use Rattle.crash_explorer.specs.declared.running.Ended.{Ended}
use Rattle.crash_explorer.proofs.GoneOn.{next-right}
use Rattle.crash_explorer.proofs.halted.Halted.trial.Goals as goal

pub returns : goal.returns
returns c =
    let inside = c.self.inside in
    let is = c.self.invariant in
    let plant : PlantDefinition = plant_of inside.system.now in
    let digest : List ℕ = digest_of inside.system.now in
    let ring : ℕ = inside.ring in
    let bytes : ℕ = formatted_size plant ring in
    let ended : Ended = inside.ended in
    let device : MemDisk = ended.disk.disk in
    let same : c.memory.result.now ≡ device = c.memory.ensures in
    let s : DiskState = state_of c.in_ok-left.left in
    let left : List ℕ = s.now.seen in
    let may : MayLeave (state_of device).now left = subst (λ (d : MemDisk). MayLeave (state_of d).now left) same c.in_ok-left.ensures.left in
    let size : length left ≡ bytes = may.size ∙ is.ended.size in
    let outcome : Outcome = c.in_ok-outcome.outcome in
    let fired : map fired_of c.deref.result.now ≡ fired_in ended = ap (λ (l : List Firing). map fired_of l) c.deref.ensures.value in
    let of_firings : IsOutcome plant digest (length left) c.args.tear (fired_in ended) ended.acked (is_formatting ended.stage) (cells_of (BODY + 1) left) outcome =
    subst (λ (cs : List FiringDefinition). IsOutcome plant digest (length left) c.args.tear cs ended.acked (is_formatting ended.stage) (cells_of (BODY + 1) left) outcome) fired c.in_ok-outcome.ensures in
    let become : IsOutcome plant digest bytes c.args.tear (fired_in ended) ended.acked (is_formatting ended.stage) (cells_of (BODY + 1) left) outcome =
    subst (λ (n : ℕ). IsOutcome plant digest n c.args.tear (fired_in ended) ended.acked (is_formatting ended.stage) (cells_of (BODY + 1) left) outcome) size of_firings in
    let right = is.ended.stops (cells_of (BODY + 1) left) (left_may (BODY + 1) (state_of device) left may) in
    let next : IsNextOf plant digest bytes c.args.tear (fired_in ended) (cells_of (BODY + 1) left) outcome.found outcome.next = become.next_is right in
    let many : c.len.result ≡ length (fired_in ended) = omega (arith, c.len.ensures, ended.fired.ok.0, length-map ended.fired.items fired_of) in
    let made : Trial = record { stop = inside.stop; cut = inside.cut; tear = c.args.tear; stage = ended.stage; fired = c.len.result; acked = ended.acked; found = outcome.found; next = outcome.next; right = outcome.right } in
    subst (λ (h : HaltedRun). IsTrial (plant_of h.system) (digest_of h.system) h.ring h.events h.stop c.args.tear made) c.self.view_is (record {
      stop_is = refl;
      tear_is = refl;
      stopped = is.stopped;
      fired = fired_in ended;
      made = is.made;
      run = is.ended.run;
      fired_many = many;
      acked_many = subst (λ (n : ℕ). ended.acked ≤ n) (sym many) is.ended.acked;
      device = device;
      size = is.ended.size;
      all_right = is.ended.stops;
      left = left;
      torn = record {
        size = may.size;
        each = λ i inside.
            subst (λ (n : ℕ). slice_index left i ≡ byte_left c.args.tear n (is_pending (state_of device).now i) i (slice_index (state_of device).now.seen i) (slice_index (synced_of device) i)) ended.disk.cells
            (subst (λ (d : MemDisk). i < size_of (state_of d) → slice_index left i ≡ byte_left c.args.tear (cell_of d) (is_pending (state_of d).now i) i (slice_index (state_of d).now.seen i) (slice_index (synced_of d) i)) same (c.in_ok-left.ensures.each i) inside);
      };
      found_is = become.found_is;
      next_is = next;
      right_where = become.right_where;
      right_is = become.right_where.1 (right, next-right plant digest bytes c.args.tear (fired_in ended) (cells_of (BODY + 1) left) outcome.found outcome.next next);
    })
