use Rattle.std.proofs.Common.{◌≡◌, ◌+◌, ℕ, List, length, sym, subst, arith}
use Rattle.disk_model.specs.declared.cells.TheConstants.{BODY}
use Rattle.disk_model.specs.DiskState.{DiskState}
use Rattle.disk_model.specs.Cells.{Leaves, EmptyOrNew, Filled}
use Rattle.disk_model.specs.Moments.{on_ok}
use Rattle.disk_model.specs.Steps.{AreInside, AreClosed, AllDiffer}
use Rattle.gated_journal.specs.declared.ring.Ring.{Ring}
use Rattle.gated_journal.specs.Stops.{HasAppendedAll}
use Rattle.gated_journal.proofs.Places.{places, places_inside, places_all_differ}
use Rattle.gated_journal.proofs.AppendedCells.{append_leaves, has_appended_all, places_closed}
use Rattle.gated_journal.proofs.appending.append.Goals as goal

pub set_run-requires-clause-differ : goal.set_run-requires-clause-differ
set_run-requires-clause-differ g c =
    let j : Ring = c.args.ring in
    subst (λ (ks : List ℕ). AllDiffer ks) (sym c.write_places.ensures) (places_all_differ j (j.last + 1) (length c.args.room.now) (omega arith))

pub set_run-requires-clause-inside : goal.set_run-requires-clause-inside
set_run-requires-clause-inside g c =
    let j : Ring = c.args.ring in
    let s : DiskState = c.args.cells.now in
    subst (λ (ks : List ℕ). AreInside (BODY + 1) s ks) (sym c.write_places.ensures) (places_inside (BODY + 1) j (j.last + 1) (length c.args.room.now) s c.requires.ring.some c.requires.inside)

pub set_run-requires-clause-closed : goal.set_run-requires-clause-closed
set_run-requires-clause-closed g c keeps =
    let j : Ring = c.args.ring in
    let s : DiskState = c.args.cells.now in
    subst (λ (ks : List ℕ). AreClosed (BODY + 1) s ks) (sym c.write_places.ensures) (places_closed j (length c.args.room.now) s (c.requires.ready keeps) (omega arith))

-- what holds of the cells that were written down holds of the places of the new records
at_places : (j : Ring) (ks : List ℕ) (many count : ℕ) (P : List ℕ → Type 0) → ks ≡ places j (j.last + 1) many → many ≡ count → P ks → P (places j (j.last + 1) count)
at_places j ks many count P written as_many held = subst (λ (n : ℕ). P (places j (j.last + 1) n)) as_many (subst P written held)

pub returns-clause-leaves : goal.returns-clause-leaves
returns-clause-leaves g c keeps news are =
    append_leaves c.args.ring c.args.bodies.now news c.args.cells.now c.set_run.new.self c.requires.ring (c.requires.ready keeps) are c.requires.room
    (at_places c.args.ring c.write_places.new.places _ _ (λ ks. Leaves (BODY + 1) (EmptyOrNew (BODY + 1) c.args.cells.now ks c.args.bodies.now) c.args.cells.now c.set_run.new.self) c.write_places.ensures c.requires.as_many (c.set_run.ensures.leaves keeps))

pub returns-clause-appended : goal.returns-clause-appended
returns-clause-appended g c keeps news are =
    let old : DiskState = c.args.cells.now in
    let new : DiskState = c.set_run.new.self in
    let bodies : List (List ℕ) = c.args.bodies.now in
    on_ok c.set_run.result (Filled (BODY + 1) c.write_places.new.places bodies old new) (HasAppendedAll c.args.ring news old new)
    (λ filled. has_appended_all c.args.ring bodies news old new c.requires.ring (c.requires.ready keeps) are c.requires.room c.set_run.ensures.counts.size
    (at_places c.args.ring c.write_places.new.places _ _ (λ ks. Filled (BODY + 1) ks bodies old new) c.write_places.ensures c.requires.as_many filled))
    (c.set_run.ensures.filled keeps)
