use Rattle.std.proofs.Common.{◌+◌, refl, arith}
use Rattle.disk_model.specs.DiskState.{Syncs}
use Rattle.disk_model.specs.Cells.{MayBe, Settles}
use Rattle.disk_model.specs.Moments.{on_ok}
use Rattle.disk_model.proofs.CallLemmas.{only_sync}
use Rattle.disk_model.proofs.RunLemmas.{leaves_sync_or_not, stage_start, settles}
use Rattle.disk_model.proofs.run.sync_all.Goals as goal

pub returns-clause-leaves : goal.returns-clause-leaves
returns-clause-leaves g c keeps =
    let old = g.D.Disk.state c.args.disk.now in
    let new = g.D.Disk.state c.sync.new.self in
    leaves_sync_or_not (g.row.B + 1) c.sync.result (MayBe (g.row.B + 1) old) old old new (omega arith) (stage_start (g.row.B + 1) old) (c.sync.ensures.ok keeps) (c.sync.ensures.err keeps)

pub returns-clause-settles : goal.returns-clause-settles
returns-clause-settles g c keeps =
    let old = g.D.Disk.state c.args.disk.now in
    let new = g.D.Disk.state c.sync.new.self in
    on_ok c.sync.result (Syncs old new) (Settles (g.row.B + 1) old new) (λ s. settles (g.row.B + 1) old new s) (c.sync.ensures.ok keeps)

pub returns-clause-syncs : goal.returns-clause-syncs
returns-clause-syncs g c keeps =
    let old = g.D.Disk.state c.args.disk.now in
    only_sync c.sync.result old old (g.D.Disk.state c.sync.new.self) (record { now = refl; past = refl }) (c.sync.ensures.ok keeps) (c.sync.ensures.err keeps)
