use Rattle.std.proofs.Common.{◌+◌, ◌≡◌, true, ◌∙◌, arith}
use Rattle.disk_model.specs.DiskState.{Syncs}
use Rattle.disk_model.specs.Cells.{EmptyOrNew, Filled, Leaves}
use Rattle.disk_model.specs.Moments.{on_ok}
use Rattle.disk_model.proofs.RunLemmas.{leaves_sync_or_not, leaves_failed, leaves_staged, leaves_filling, filled}
use Rattle.disk_model.proofs.run.set_all.Goals as goal

pub returns-in_err-write_bodies-clause-leaves : goal.returns-in_err-write_bodies-clause-leaves
returns-in_err-write_bodies-clause-leaves g c keeps =
    leaves_staged (g.row.B + 1) (g.D.Disk.state c.args.disk.now) (g.D.Disk.state c.write_bodies.new.disk) c.args.ks.now c.args.bodies.now (c.requires.closed keeps) (c.write_bodies.ensures.leaves keeps)

pub returns-in_err-sync-clause-leaves : goal.returns-in_err-sync-clause-leaves
returns-in_err-sync-clause-leaves g c keeps =
    let old = g.D.Disk.state c.args.disk.now in
    let staged = g.D.Disk.state c.write_bodies.new.disk in
    let run = leaves_staged (g.row.B + 1) old staged c.args.ks.now c.args.bodies.now (c.requires.closed keeps) (c.write_bodies.ensures.leaves keeps) in
    leaves_failed (g.row.B + 1) (EmptyOrNew (g.row.B + 1) old c.args.ks.now c.args.bodies.now) old staged (g.D.Disk.state c.sync.new.self) run (c.in_err-sync.ensures.err (c.in_ok-write_bodies.ensures.counts.keeps ∙ keeps))

pub returns-in_err-open_gates-clause-leaves : goal.returns-in_err-open_gates-clause-leaves
returns-in_err-open_gates-clause-leaves g c keeps =
    let at_stage : (g.D.Disk.state c.write_bodies.new.disk).keeps ≡ true = c.in_ok-write_bodies.ensures.counts.keeps ∙ keeps in
    leaves_filling (g.row.B + 1) (g.D.Disk.state c.args.disk.now) (g.D.Disk.state c.write_bodies.new.disk) (g.D.Disk.state c.sync.new.self) (g.D.Disk.state c.open_gates.new.disk) c.args.ks.now c.args.bodies.now (omega arith)
    (c.requires.closed keeps) (c.write_bodies.ensures.leaves keeps) (c.in_ok-write_bodies.ensures.seen keeps) (c.in_ok-sync.ensures.ok at_stage)
    (c.open_gates.ensures.leaves (c.in_ok-sync.ensures.counts.keeps ∙ at_stage) c.args.bodies.now)

pub returns-clause-leaves : goal.returns-clause-leaves
returns-clause-leaves g c keeps =
    let old = g.D.Disk.state c.args.disk.now in
    let gates = g.D.Disk.state c.open_gates.new.disk in
    let size = (g.row.B + 1) in
    let at_stage : (g.D.Disk.state c.write_bodies.new.disk).keeps ≡ true = c.in_ok-write_bodies.ensures.counts.keeps ∙ keeps in
    let at_sync : (g.D.Disk.state c.sync.new.self).keeps ≡ true = c.in_ok-sync.ensures.counts.keeps ∙ at_stage in
    let at_gates : (g.D.Disk.state c.open_gates.new.disk).keeps ≡ true = c.in_ok-open_gates.ensures.counts.keeps ∙ at_sync in
    let opened : Leaves size (EmptyOrNew size old c.args.ks.now c.args.bodies.now) old gates =
    leaves_filling size old (g.D.Disk.state c.write_bodies.new.disk) (g.D.Disk.state c.sync.new.self) gates c.args.ks.now c.args.bodies.now (omega arith)
    (c.requires.closed keeps) (c.write_bodies.ensures.leaves keeps) (c.in_ok-write_bodies.ensures.seen keeps) (c.in_ok-sync.ensures.ok at_stage) (c.open_gates.ensures.leaves at_sync c.args.bodies.now) in
    leaves_sync_or_not size c.sync-2.result (EmptyOrNew size old c.args.ks.now c.args.bodies.now) old gates (g.D.Disk.state c.sync-2.new.self) (omega arith) opened (c.sync-2.ensures.ok at_gates) (c.sync-2.ensures.err at_gates)

pub returns-clause-filled : goal.returns-clause-filled
returns-clause-filled g c keeps =
    let old = g.D.Disk.state c.args.disk.now in
    let staged = g.D.Disk.state c.write_bodies.new.disk in
    let settled = g.D.Disk.state c.sync.new.self in
    let gates = g.D.Disk.state c.open_gates.new.disk in
    let new = g.D.Disk.state c.sync-2.new.self in
    let at_stage : (g.D.Disk.state c.write_bodies.new.disk).keeps ≡ true = c.in_ok-write_bodies.ensures.counts.keeps ∙ keeps in
    let at_sync : (g.D.Disk.state c.sync.new.self).keeps ≡ true = c.in_ok-sync.ensures.counts.keeps ∙ at_stage in
    let at_gates : (g.D.Disk.state c.open_gates.new.disk).keeps ≡ true = c.in_ok-open_gates.ensures.counts.keeps ∙ at_sync in
    on_ok c.sync-2.result (Syncs gates new) (Filled (g.row.B + 1) c.args.ks.now c.args.bodies.now old new)
    (λ last. filled (g.row.B + 1) old staged settled gates new c.args.ks.now c.args.bodies.now (c.in_ok-write_bodies.ensures.seen keeps) (c.in_ok-sync.ensures.ok at_stage) (c.in_ok-open_gates.ensures.seen at_sync) last) (c.sync-2.ensures.ok at_gates)
