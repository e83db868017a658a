use Rattle.std.proofs.Common.{◌≡◌, ◌+◌, ◌≤◌, ℕ, List, length, Some, sym, ◌∙◌, ap, subst, is_err, is_ok, true}
use Rattle.disk_model.specs.declared.cells.TheConstants.{BODY}
use Rattle.disk_model.specs.DiskState.{DiskState}
use Rattle.disk_model.specs.Counting.{up_to_one, up_to_then}
use Rattle.disk_model.specs.Cells.{cells_in, cell_count, seen_cells, Leaves, OldOrEmpty, OldOrEmptyAt, Erased, Replaced}
use Rattle.disk_model.specs.Moments.{on_ok, old_or_empty_seen, seen_after}
use Rattle.disk_model.specs.Steps.{AreInside}
use Rattle.record_codec.specs.Base.{base_in}
use Rattle.gated_journal.specs.declared.ring.Ring.{Ring}
use Rattle.gated_journal.specs.Bases.{other_cell}
use Rattle.gated_journal.specs.Rings.{cells_of_ring}
use Rattle.gated_journal.specs.Stops.{HasMoved}
use Rattle.gated_journal.proofs.Places.{places, places_inside}
use Rattle.gated_journal.proofs.MovedCells.{set_leaves, drop_leaves, has_moved}
use Rattle.gated_journal.proofs.moving.move_base.Goals as goal

-- the body that is written holds the base
holds : (g : _) (c : goal.After-erase_run g) → base_in c.to_body.result ≡ Some c.args.base
holds g c = c.to_body.ensures.reads_back ∙ ap (λ (n : ℕ). Some n) c.new.ensures

pub returns-in_err-replace-clause-leaves : goal.returns-in_err-replace-clause-leaves
returns-in_err-replace-clause-leaves g c keeps =
    set_leaves c.args.ring c.requires.ring c.args.base c.requires.above c.requires.within c.args.cells.now (c.requires.read keeps) c.to_body.result
    (c.to_body.ensures.reads_back ∙ ap (λ (n : ℕ). Some n) c.new.ensures) c.replace.new.self (c.replace.ensures.leaves keeps)

pub erase_run-requires : goal.erase_run-requires
erase_run-requires g c =
    let j : Ring = c.args.ring in
    let mid : DiskState = c.replace.new.self in
    let inside : cells_of_ring j ≤ cell_count (BODY + 1) mid = subst (λ (n : ℕ). cells_of_ring j ≤ cells_in (BODY + 1) n) (sym c.in_ok-replace.ensures.counts.size) c.requires.inside in
    record { inside = subst (λ (ks : List ℕ). AreInside (BODY + 1) mid ks) (sym c.write_places.ensures) (places_inside (BODY + 1) j j.base (length c.args.room.now) mid c.requires.ring.some inside) }

pub returns-clause-counts : goal.returns-clause-counts
returns-clause-counts g c =
    up_to_then (is_err c.erase_run.result) 3 1 c.args.cells.now c.replace.new.self c.erase_run.new.self c.in_ok-replace.ensures.counts
    (up_to_one (is_err c.erase_run.result) (is_ok c.erase_run.result) c.replace.new.self c.erase_run.new.self c.erase_run.ensures.counts)

-- what a stop inside the last call leaves
dropping : (g : _) (c : goal.After-erase_run g) → c.args.cells.now.keeps ≡ true → Leaves (BODY + 1) (OldOrEmpty (BODY + 1) c.replace.new.self (places c.args.ring c.args.ring.base (length c.args.room.now))) c.replace.new.self c.erase_run.new.self
dropping g c keeps =
    let mid : DiskState = c.replace.new.self in
    let new : DiskState = c.erase_run.new.self in
    subst (λ (ks : List ℕ). Leaves (BODY + 1) (OldOrEmpty (BODY + 1) mid ks) mid new) c.write_places.ensures (c.erase_run.ensures.leaves (c.in_ok-replace.ensures.counts.keeps ∙ keeps))

pub returns-clause-leaves : goal.returns-clause-leaves
returns-clause-leaves g c keeps =
    let old : DiskState = c.args.cells.now in
    drop_leaves c.args.ring c.requires.ring c.args.base c.requires.above c.requires.within old (c.requires.read keeps) c.to_body.result (holds g c) c.replace.new.self (c.in_ok-replace.ensures.replaced keeps) (length c.args.room.now) c.requires.as_many c.erase_run.new.self
    (set_leaves c.args.ring c.requires.ring c.args.base c.requires.above c.requires.within old (c.requires.read keeps) c.to_body.result (holds g c) c.replace.new.self (c.in_ok-replace.ensures.leaves keeps)) (dropping g c keeps)

pub returns-clause-moved : goal.returns-clause-moved
returns-clause-moved g c keeps =
    let j : Ring = c.args.ring in
    let old : DiskState = c.args.cells.now in
    let mid : DiskState = c.replace.new.self in
    let new : DiskState = c.erase_run.new.self in
    let row : List ℕ = places j j.base (length c.args.room.now) in
    let set : Replaced (BODY + 1) (other_cell j) c.to_body.result old mid = c.in_ok-replace.ensures.replaced keeps in
    let left : OldOrEmptyAt row (seen_cells (BODY + 1) mid) (seen_cells (BODY + 1) new) = old_or_empty_seen (BODY + 1) mid row (seen_cells (BODY + 1) new) set.settled (seen_after (BODY + 1) (OldOrEmpty (BODY + 1) mid row) mid new (dropping g c keeps)) in
    on_ok c.erase_run.result (Erased (BODY + 1) c.write_places.new.places mid new) (HasMoved c.args.base j old new)
    (λ erased. has_moved j c.requires.ring c.args.base c.requires.above c.requires.within old (c.requires.read keeps) c.to_body.result (holds g c) mid set (length c.args.room.now) c.requires.as_many new c.erase_run.ensures.counts.size
    (subst (λ (ks : List ℕ). Erased (BODY + 1) ks mid new) c.write_places.ensures erased) left)
    (c.erase_run.ensures.erased (c.in_ok-replace.ensures.counts.keeps ∙ keeps))
