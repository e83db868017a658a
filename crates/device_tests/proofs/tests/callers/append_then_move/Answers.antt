use Rattle.std.proofs.Common.{◌≡◌, ◌+◌, ℕ, List, length, sym, ◌∙◌, ap, subst}
use Rattle.disk_model.specs.declared.cells.TheConstants.{BODY}
use Rattle.disk_model.specs.DiskState.{DiskState}
use Rattle.disk_model.specs.Cells.{seen_cells, Leaves}
use Rattle.disk_model.specs.Moments.{on_ok}
use Rattle.record_codec.specs.Fired.{FiredFields}
use Rattle.gated_journal.specs.declared.ring.Ring.{Ring}
use Rattle.gated_journal.specs.Live.{AreRecords, records_length}
use Rattle.gated_journal.specs.Rings.{IsReadFor, appended}
use Rattle.gated_journal.specs.Stops.{IsReady, HasMoved, IsMovedOrNot, moved}
use Rattle.device_tests.proofs.AppendThenMove.{append_leaves, read_for_all, move_leaves}
use Rattle.device_tests.proofs.tests.callers.append_then_move.Goals as goal

-- the journal behind the batch
journal_is : (g : _) (c : goal.After-move_base g) (news : List FiredFields) → AreRecords (c.args.journal.now.last + 1) c.args.bodies.now news → appended (length news) c.args.journal.now ≡ c.append_run.new.self
journal_is g c news are = ap (λ (n : ℕ). appended n c.args.journal.now) (sym (records_length (c.args.journal.now.last + 1) c.args.bodies.now news are)) ∙ sym c.in_ok-append_run.ensures.journal

pub returns-in_err-append_run-clause-leaves : goal.returns-in_err-append_run-clause-leaves
returns-in_err-append_run-clause-leaves g c keeps news are =
    append_leaves c.args.journal.now c.args.base news c.args.cells.now (c.requires.based keeps) c.append_run.new.cells (c.append_run.ensures.leaves keeps news are)

pub move_base-requires-clause-settled : goal.move_base-requires-clause-settled
move_base-requires-clause-settled g c still =
    let keeps = sym c.in_ok-append_run.ensures.counts.keeps ∙ still in
    let records = c.requires.records keeps in
    (c.in_ok-append_run.ensures.appended keeps records.0 records.1).ready.settled

pub move_base-requires-clause-read : goal.move_base-requires-clause-read
move_base-requires-clause-read g c still =
    let j : Ring = c.args.journal.now in
    let mid : DiskState = c.append_run.new.cells in
    let keeps = sym c.in_ok-append_run.ensures.counts.keeps ∙ still in
    let records = c.requires.records keeps in
    let same : appended (length records.0) j ≡ c.append_run.new.self = ap (λ (n : ℕ). appended n j) (sym (records_length (j.last + 1) c.args.bodies.now records.0 records.1)) ∙ sym c.in_ok-append_run.ensures.journal in
    subst (λ (m : Ring). IsReadFor m (seen_cells (BODY + 1) mid)) same
    (read_for_all j c.args.base records.0 c.args.cells.now (c.requires.based keeps) mid (c.in_ok-append_run.ensures.appended keeps records.0 records.1))

pub returns-clause-leaves : goal.returns-clause-leaves
returns-clause-leaves g c keeps news are =
    let j : Ring = c.args.journal.now in
    let old : DiskState = c.args.cells.now in
    let mid : DiskState = c.append_run.new.cells in
    let new : DiskState = c.move_base.new.cells in
    let second : Leaves (BODY + 1) (IsMovedOrNot c.args.base (appended (length news) j) (seen_cells (BODY + 1) mid)) mid new =
    subst (λ (m : Ring). Leaves (BODY + 1) (IsMovedOrNot c.args.base m (seen_cells (BODY + 1) mid)) mid new) (sym (journal_is g c news are)) (c.move_base.ensures.leaves (c.in_ok-append_run.ensures.counts.keeps ∙ keeps)) in
    move_leaves j c.args.base news old (c.requires.based keeps) mid (c.in_ok-append_run.ensures.appended keeps news are) new (c.in_ok-append_run.ensures.leaves keeps news are) second

pub returns-clause-ready : goal.returns-clause-ready
returns-clause-ready g c keeps =
    let j : Ring = c.args.journal.now in
    let mid : DiskState = c.append_run.new.cells in
    let new : DiskState = c.move_base.new.cells in
    let m : Ring = c.append_run.new.self in
    let records = c.requires.records keeps in
    let ready : IsReady m mid = subst (λ (r : Ring). IsReady r mid) (journal_is g c records.0 records.1) (c.in_ok-append_run.ensures.appended keeps records.0 records.1).ready in
    on_ok c.move_base.result (HasMoved c.args.base m mid new) (IsReady (moved c.args.base (appended (length c.args.bodies.now) j)) new)
    (λ (is : HasMoved c.args.base m mid new). subst (λ (r : Ring). IsReady (moved c.args.base r) new) c.in_ok-append_run.ensures.journal (is.ready ready))
    (c.move_base.ensures.moved (c.in_ok-append_run.ensures.counts.keeps ∙ keeps))
