use Rattle.std.proofs.Common.{◌≡◌, ◌≢◌, ◌+◌, ◌*◌, ℕ, arith}
use Rattle.disk_model.specs.DiskState.{Writes}
use Rattle.disk_model.specs.Cells.{body_at, seen_cells}
use Rattle.disk_model.specs.Steps.{ChangesOne, IsAsBefore}
use Rattle.disk_model.specs.Moments.{on_ok}
use Rattle.disk_model.proofs.CallLemmas.{steps_body, seen_body, others_written, written_or_failed}
use Rattle.disk_model.proofs.calls.write_body.Goals as goal

pub returns-clause-steps : goal.returns-clause-steps
returns-clause-steps g c keeps =
    let old = g.D.Disk.state c.args.disk.now in
    let new = g.D.Disk.state c.write_at.new.self in
    steps_body (g.row.B + 1) c.args.k (omega arith) c.args.body.now old new c.requires.inside (omega arith) (c.requires.closed keeps)
    (written_or_failed c.write_at.result ((g.row.B + 1) * c.args.k + 1) c.args.body.now old new (c.write_at.ensures.ok keeps) (c.write_at.ensures.err keeps))

pub returns-clause-seen : goal.returns-clause-seen
returns-clause-seen g c keeps =
    let old = g.D.Disk.state c.args.disk.now in
    let new = g.D.Disk.state c.write_at.new.self in
    on_ok c.write_at.result (Writes ((g.row.B + 1) * c.args.k + 1) c.args.body.now old new) (ChangesOne c.args.k IsAsBefore (seen_cells (g.row.B + 1) old) (seen_cells (g.row.B + 1) new))
    (λ w. seen_body (g.row.B + 1) c.args.k (omega arith) c.args.body.now old new c.requires.inside (omega arith) (c.requires.closed keeps) w) (c.write_at.ensures.ok keeps)

pub returns-clause-others : goal.returns-clause-others
returns-clause-others g c keeps =
    let old = g.D.Disk.state c.args.disk.now in
    let new = g.D.Disk.state c.write_at.new.self in
    on_ok c.write_at.result (Writes ((g.row.B + 1) * c.args.k + 1) c.args.body.now old new) ((j : ℕ) → j ≢ c.args.k → body_at (g.row.B + 1) new.now.seen j ≡ body_at (g.row.B + 1) old.now.seen j)
    (λ w. others_written (g.row.B + 1) c.args.k (omega arith) c.args.body.now old new c.requires.inside (omega arith) w) (c.write_at.ensures.ok keeps)
