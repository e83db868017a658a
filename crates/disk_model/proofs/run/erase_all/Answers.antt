use Rattle.std.proofs.Common.{◌+◌, ◌∙◌, arith}
use Rattle.disk_model.specs.DiskState.{Syncs}
use Rattle.disk_model.specs.Cells.{OldOrEmpty, Erased}
use Rattle.disk_model.specs.Moments.{on_ok}
use Rattle.disk_model.proofs.CallLemmas.{only_sync}
use Rattle.disk_model.proofs.RunLemmas.{leaves_sync_or_not, erased}
use Rattle.disk_model.proofs.run.erase_all.Goals as goal

pub returns-clause-leaves : goal.returns-clause-leaves
returns-clause-leaves g c keeps =
    let old = g.D.Disk.state c.args.disk.now in
    let mid = g.D.Disk.state c.close_gates.new.disk in
    let new = g.D.Disk.state c.sync.new.self in
    let still = c.in_ok-close_gates.ensures.counts.keeps ∙ keeps in
    leaves_sync_or_not (g.row.B + 1) c.sync.result (OldOrEmpty (g.row.B + 1) old c.args.ks.now) old mid new (omega arith) (c.close_gates.ensures.leaves keeps) (c.sync.ensures.ok still) (c.sync.ensures.err still)

pub returns-clause-erased : goal.returns-clause-erased
returns-clause-erased g c keeps =
    let old = g.D.Disk.state c.args.disk.now in
    let mid = g.D.Disk.state c.close_gates.new.disk in
    let new = g.D.Disk.state c.sync.new.self in
    on_ok c.sync.result (Syncs mid new) (Erased (g.row.B + 1) c.args.ks.now old new)
    (λ s. erased (g.row.B + 1) old mid new c.args.ks.now (c.in_ok-close_gates.ensures.seen keeps) s) (c.sync.ensures.ok (c.in_ok-close_gates.ensures.counts.keeps ∙ keeps))

pub returns-clause-only_syncs : goal.returns-clause-only_syncs
returns-clause-only_syncs g c keeps empty =
    let still = c.in_ok-close_gates.ensures.counts.keeps ∙ keeps in
    only_sync c.sync.result (g.D.Disk.state c.args.disk.now) (g.D.Disk.state c.close_gates.new.disk) (g.D.Disk.state c.sync.new.self) (c.close_gates.ensures.untouched keeps empty) (c.sync.ensures.ok still) (c.sync.ensures.err still)
