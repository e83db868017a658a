use Rattle.std.proofs.Common.{◌≡◌, ℕ, ◌+◌, ◌*◌, ◌<◌, Bool, true, eqb, [], ◌∷◌, None, inl, inr, sym, ◌∙◌, refl, get_or, arith}
use Rattle.disk_model.specs.DiskState.{DiskState, IsUnchanged, FailsToWrite}
use Rattle.disk_model.specs.Cells.{cell, cell_count, seen_cells}
use Rattle.disk_model.specs.Steps.{Steps, IsAsBeforeOrEmpty}
use Rattle.disk_model.proofs.CallLemmas.{steps_unchanged, steps_close, seen_close, seen_shut, fails_from, writes_from, gate_from_test, not_empty}
use Rattle.disk_model.proofs.calls.close_gate.Goals as goal

pub returns-in_err-gate_is_open-clause-steps : goal.returns-in_err-gate_is_open-clause-steps
returns-in_err-gate_is_open-clause-steps g c keeps =
    steps_unchanged (g.row.B + 1) c.args.k (omega arith) IsAsBeforeOrEmpty (g.D.Disk.state c.args.disk.now) (g.D.Disk.state c.gate_is_open.new.disk) (λ image left. inl refl) (c.gate_is_open.ensures.same keeps)

pub returns-else-branch-clause-steps : goal.returns-else-branch-clause-steps
returns-else-branch-clause-steps g c keeps =
    steps_unchanged (g.row.B + 1) c.args.k (omega arith) IsAsBeforeOrEmpty (g.D.Disk.state c.args.disk.now) (g.D.Disk.state c.gate_is_open.new.disk) (λ image left. inl refl) (c.gate_is_open.ensures.same keeps)

pub returns-else-branch-clause-seen : goal.returns-else-branch-clause-seen
returns-else-branch-clause-seen g c keeps =
    let gate = c.in_ok-gate_is_open.ensures.gate keeps in
    seen_shut (g.row.B + 1) c.args.k (g.D.Disk.state c.args.disk.now) (g.D.Disk.state c.gate_is_open.new.disk) c.requires.inside (sym gate ∙ c.if-branch.false) (c.gate_is_open.ensures.same keeps)

-- a gate that was found open is closed, or the write of it failed
shut : (size k : ℕ) (old mid new : DiskState) (found : Bool) → 0 < size → k < cell_count size old → found ≡ true → found ≡ eqb (get_or old.now.seen (size * k) 0) 165 → IsUnchanged old mid → FailsToWrite (size * k) (0 ∷ []) mid new
    → Steps size k IsAsBeforeOrEmpty old new
shut size k old mid new found some inside is_open gate same fails =
    steps_close size k some (0 ∷ []) old new inside refl (gate_from_test found (get_or old.now.seen (size * k) 0) is_open gate) (fails_from (size * k) (0 ∷ []) old mid new same fails)

pub returns-in_err-write_at-clause-steps : goal.returns-in_err-write_at-clause-steps
returns-in_err-write_at-clause-steps g c keeps =
    shut (g.row.B + 1) c.args.k (g.D.Disk.state c.args.disk.now) (g.D.Disk.state c.gate_is_open.new.disk) (g.D.Disk.state c.write_at.new.self) c.in_ok-gate_is_open.field-0 (omega arith) c.requires.inside c.if-branch.true
    (c.in_ok-gate_is_open.ensures.gate keeps) (c.gate_is_open.ensures.same keeps) (c.in_err-write_at.ensures.err (c.gate_is_open.ensures.counts.keeps ∙ keeps))

pub returns-in_ok-write_at-clause-steps : goal.returns-in_ok-write_at-clause-steps
returns-in_ok-write_at-clause-steps g c keeps =
    shut (g.row.B + 1) c.args.k (g.D.Disk.state c.args.disk.now) (g.D.Disk.state c.gate_is_open.new.disk) (g.D.Disk.state c.write_at.new.self) c.in_ok-gate_is_open.field-0 (omega arith) c.requires.inside c.if-branch.true
    (c.in_ok-gate_is_open.ensures.gate keeps) (c.gate_is_open.ensures.same keeps) (inr (0 ∷ [], refl, c.in_ok-write_at.ensures.ok (c.gate_is_open.ensures.counts.keeps ∙ keeps)))

pub returns-in_ok-write_at-clause-seen : goal.returns-in_ok-write_at-clause-seen
returns-in_ok-write_at-clause-seen g c keeps =
    let old = g.D.Disk.state c.args.disk.now in
    let mid = g.D.Disk.state c.gate_is_open.new.disk in
    let new = g.D.Disk.state c.write_at.new.self in
    seen_close (g.row.B + 1) c.args.k (omega arith) old new c.requires.inside
    (writes_from ((g.row.B + 1) * c.args.k) (0 ∷ []) old mid new (c.gate_is_open.ensures.same keeps) (c.in_ok-write_at.ensures.ok (c.gate_is_open.ensures.counts.keeps ∙ keeps)))

-- a cell that reads empty has no open gate
not_open : (size k : ℕ) (old : DiskState) (found : Bool) → k < cell_count size old → found ≡ true → found ≡ eqb (get_or old.now.seen (size * k) 0) 165 → cell (seen_cells size old) k ≡ None → ⊥
not_open size k old found inside is_open gate = not_empty size k old inside (gate_from_test found (get_or old.now.seen (size * k) 0) is_open gate)

pub returns-in_err-write_at-clause-untouched : goal.returns-in_err-write_at-clause-untouched
returns-in_err-write_at-clause-untouched g c keeps none =
    absurd (not_open (g.row.B + 1) c.args.k (g.D.Disk.state c.args.disk.now) c.in_ok-gate_is_open.field-0 c.requires.inside c.if-branch.true (c.in_ok-gate_is_open.ensures.gate keeps) none)

pub returns-in_ok-write_at-clause-untouched : goal.returns-in_ok-write_at-clause-untouched
returns-in_ok-write_at-clause-untouched g c keeps none =
    absurd (not_open (g.row.B + 1) c.args.k (g.D.Disk.state c.args.disk.now) c.in_ok-gate_is_open.field-0 c.requires.inside c.if-branch.true (c.in_ok-gate_is_open.ensures.gate keeps) none)
