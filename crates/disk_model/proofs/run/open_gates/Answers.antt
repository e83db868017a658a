use Rattle.std.proofs.Common.{false, ◌+◌, ◌<◌, [], ◌∙◌, length, get_or, refl, arith}
use Rattle.disk_model.proofs.RunLemmas.{open_start, open_more, opened_none, opened_more}
use Rattle.disk_model.proofs.run.open_gates.Goals as goal
use Rattle.disk_model.specs.Moments.{counts_then}

pub loop-k-init : goal.loop-k-init
loop-k-init g c = record {
  counts = record { size = refl; keeps = refl; failures = refl; syncs = refl };
  firm = λ keeps j body firm. firm;
  leaves = λ keeps bodies firm closed. open_start (g.row.B + 1) (g.D.Disk.state c.args.disk.now) c.args.ks.now bodies closed;
  seen = λ keeps. opened_none (g.row.B + 1) (g.D.Disk.state c.args.disk.now) c.args.ks.now;
}

pub returns-in_err-open_gate-clause-leaves : goal.returns-in_err-open_gate-clause-leaves
returns-in_err-open_gate-clause-leaves g c keeps bodies firm closed =
    let old = g.D.Disk.state c.args.disk.now in
    let mid = g.D.Disk.state c.loop-k.disk in
    let new = g.D.Disk.state c.open_gate.new.disk in
    let k = get_or c.args.ks.now c.loop-k.k-index 0 in
    let inside : c.loop-k.k-index < length c.args.ks.now = omega arith in
    let body = get_or bodies c.loop-k.k-index [] in
    open_more (g.row.B + 1) old mid new c.args.ks.now bodies c.loop-k.k-index k c.requires.differ inside refl (c.loop-k.invariant.leaves keeps bodies firm closed)
    (c.open_gate.ensures.steps (c.loop-k.invariant.counts.keeps ∙ keeps) body (c.loop-k.invariant.firm keeps k body (firm c.loop-k.k-index inside)))

pub loop-k-preserved : goal.loop-k-preserved
loop-k-preserved g c =
    let old = g.D.Disk.state c.args.disk.now in
    let mid = g.D.Disk.state c.loop-k.disk in
    let new = g.D.Disk.state c.open_gate.new.disk in
    let k = get_or c.args.ks.now c.loop-k.k-index 0 in
    let inside : c.loop-k.k-index < length c.args.ks.now = omega arith in
    record {
      counts = counts_then false false old mid new c.loop-k.invariant.counts c.in_ok-open_gate.ensures.counts;
      firm = λ keeps j body firm. c.open_gate.ensures.firm (c.loop-k.invariant.counts.keeps ∙ keeps) j body (c.loop-k.invariant.firm keeps j body firm);
      leaves = λ keeps bodies firm closed.
          open_more (g.row.B + 1) old mid new c.args.ks.now bodies c.loop-k.k-index k c.requires.differ inside refl (c.loop-k.invariant.leaves keeps bodies firm closed)
          (c.open_gate.ensures.steps (c.loop-k.invariant.counts.keeps ∙ keeps) (get_or bodies c.loop-k.k-index []) (c.loop-k.invariant.firm keeps k (get_or bodies c.loop-k.k-index []) (firm c.loop-k.k-index inside)));
      seen = λ keeps.
          let still = c.loop-k.invariant.counts.keeps ∙ keeps in
          opened_more (g.row.B + 1) old mid new c.args.ks.now c.loop-k.k-index k inside refl (c.loop-k.invariant.seen keeps) (c.in_ok-open_gate.ensures.seen still) (c.in_ok-open_gate.ensures.bodies still);
    }
