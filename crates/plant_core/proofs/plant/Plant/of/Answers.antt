use Rattle.std.proofs.Common.{◌≡◌, ◌+◌, ◌-◌, ◌≤◌, ℕ, arith, List, [], length, false, refl, sym, ◌∙◌, ap, subst, rules, Option}
use Rattle.std.proofs.lemmas.List.{take_all}
use Rattle.std.proofs.lemmas.Option.{none-some}
use Rattle.petri_atom.specs.Local.{Local}
use Rattle.disk_model.specs.Cells.{seen_cells}
use Rattle.disk_model.specs.declared.cells.TheConstants.{BODY}
use Rattle.record_codec.specs.Saved.{SavedFields}
use Rattle.record_replay.specs.Records.{count_of}
use Rattle.step_executor.proofs.Standing.{states-many}
use Rattle.step_executor.specs.Executing.{committed_in, jobs_in, plant_in, states_in, system_in}
use Rattle.plant_model.specs.System.{digest_of}
use Rattle.plant_model.specs.declared.limits.TheConstants.{MAX_ATOMS}
use Rattle.plant_core.specs.Invariant.{FitsTogether, IsAtRest}
use Rattle.plant_core.specs.Snapshots.{held_at}
use Rattle.plant_core.specs.View.{view_by}
use Rattle.plant_core.proofs.AtRest.{rest-front}
use Rattle.plant_core.proofs.Flushing.{none-held, nothing-fired}
use Rattle.plant_core.proofs.NextSlots.{none-known}
use Rattle.plant_core.proofs.plant.Plant.of.Goals as goal

pub invariant_of-result : goal.invariant_of-result
invariant_of-result g c =
    let parts = c.args.parts in
    let plant = plant_in parts.executor in
    let states = states_in parts.executor in
    let number = c.last-number.result in
    let long : length parts.counts ≡ MAX_ATOMS = search rules in
    let fits = nothing-fired plant states parts.counts number parts.journal (states-many parts.executor) parts.executor.fits long
    (subst (λ (n : ℕ). (atom : ℕ) → count_of parts.counts atom ≤ n) (sym c.last-number.ensures.number) c.requires.counts) c.last-number.ensures.in_range (sym c.last-number.ensures.number) parts.marks.items (c.requires.marks ∙ ap (λ (n : ℕ). n + 1) (sym c.last-number.ensures.number)) parts.snapshots (jobs_in parts.executor) c.requires.known c.requires.known_within c.requires.none_asked in
    record {
      fits_together = subst (λ bs. FitsTogether plant (view_by (committed_in parts.executor) parts.counts number parts.tail.items states parts.counts parts.journal parts.marks.items parts.snapshots (jobs_in parts.executor) false) bs) (sym c.requires.room.bodies)
          (subst (λ cs. FitsTogether plant (view_by (committed_in parts.executor) parts.counts number cs states parts.counts parts.journal parts.marks.items parts.snapshots (jobs_in parts.executor) false) []) (sym c.requires.room.tail)
          (subst (λ (ss : List Local). FitsTogether plant (view_by ss parts.counts number [] states parts.counts parts.journal parts.marks.items parts.snapshots (jobs_in parts.executor) false) []) c.requires.same fits));
      room_of_tail = c.requires.room.room_of_tail;
      room_of_bodies = c.requires.room.room_of_bodies;
      room_of_marks = c.requires.room_of_marks;
      of_journal = record { atoms = c.requires.atoms; last = sym c.last-number.ensures.number; inside = c.requires.inside };
      at_rest = λ keeps whole. subst (λ (n : ℕ). IsAtRest plant (digest_of (system_in parts.executor)) parts.journal (committed_in parts.executor) parts.counts n parts.snapshots.saved c.args.cells) (sym c.last-number.ensures.number) (c.requires.rests keeps);
      slots_known = λ keeps whole. none-known plant parts.snapshots.next_slots (length parts.snapshots.saved) (seen_cells (BODY + 1) c.args.cells) c.requires.none_written;
      marked = λ keeps whole. take_all (number + 1 - parts.journal.base) parts.marks.items (omega (arith, c.requires.marks, c.last-number.ensures.number)) ∙ c.requires.marked keeps;
      on_the_way = λ keeps whole atom saved a there at. absurd (none-some saved (sym (ap (λ (held : List (Option SavedFields)). held_at held atom) c.requires.none_asked ∙ none-held (length parts.snapshots.saved) atom) ∙ there));
      at_a_stop = λ keeps image may. rest-front plant (digest_of (system_in parts.executor)) parts.journal (committed_in parts.executor) parts.counts parts.journal.last parts.snapshots.saved c.args.cells (c.requires.rests keeps)
          (view_by (committed_in parts.executor) parts.counts number parts.tail.items states parts.counts parts.journal parts.marks.items parts.snapshots (jobs_in parts.executor) false) refl c.last-number.ensures.number image may;
    }
