use Rattle.std.proofs.Common.{◌+◌, ◌≡◌, ◌*◌, ℕ, [], ◌∷◌, refl, arith}
use Rattle.disk_model.specs.DiskState.{Writes}
use Rattle.disk_model.specs.Cells.{body_at, seen_cells}
use Rattle.disk_model.specs.Steps.{ChangesOne, HasBody}
use Rattle.disk_model.specs.Moments.{on_ok}
use Rattle.disk_model.proofs.CallLemmas.{steps_open, firm_open, seen_open, bodies_open, written_or_failed}
use Rattle.disk_model.proofs.calls.open_gate.Goals as goal

pub returns-clause-steps : goal.returns-clause-steps
returns-clause-steps g c keeps body firm =
    let old = g.D.Disk.state c.args.disk.now in
    let new = g.D.Disk.state c.write_at.new.self in
    steps_open (g.row.B + 1) c.args.k (omega arith) (165 ∷ []) body old new c.requires.inside refl firm
    (written_or_failed c.write_at.result ((g.row.B + 1) * c.args.k) (165 ∷ []) old new (c.write_at.ensures.ok keeps) (c.write_at.ensures.err keeps))

pub returns-clause-firm : goal.returns-clause-firm
returns-clause-firm g c keeps =
    let old = g.D.Disk.state c.args.disk.now in
    let new = g.D.Disk.state c.write_at.new.self in
    firm_open (g.row.B + 1) c.args.k (omega arith) (165 ∷ []) old new c.requires.inside refl
    (written_or_failed c.write_at.result ((g.row.B + 1) * c.args.k) (165 ∷ []) old new (c.write_at.ensures.ok keeps) (c.write_at.ensures.err keeps))

pub returns-clause-seen : goal.returns-clause-seen
returns-clause-seen g c keeps =
    let old = g.D.Disk.state c.args.disk.now in
    let new = g.D.Disk.state c.write_at.new.self in
    on_ok c.write_at.result (Writes ((g.row.B + 1) * c.args.k) (165 ∷ []) old new) (ChangesOne c.args.k (HasBody (body_at (g.row.B + 1) old.now.seen c.args.k)) (seen_cells (g.row.B + 1) old) (seen_cells (g.row.B + 1) new))
    (λ w. seen_open (g.row.B + 1) c.args.k (omega arith) old new c.requires.inside w) (c.write_at.ensures.ok keeps)

pub returns-clause-bodies : goal.returns-clause-bodies
returns-clause-bodies g c keeps =
    let old = g.D.Disk.state c.args.disk.now in
    let new = g.D.Disk.state c.write_at.new.self in
    on_ok c.write_at.result (Writes ((g.row.B + 1) * c.args.k) (165 ∷ []) old new) ((j : ℕ) → body_at (g.row.B + 1) new.now.seen j ≡ body_at (g.row.B + 1) old.now.seen j)
    (λ w. bodies_open (g.row.B + 1) c.args.k (omega arith) old new c.requires.inside w) (c.write_at.ensures.ok keeps)
