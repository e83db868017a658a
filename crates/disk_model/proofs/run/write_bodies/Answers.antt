use Rattle.std.proofs.Common.{false, ◌+◌, ◌<◌, [], ◌∙◌, length, get_or, refl, arith}
use Rattle.std.proofs.lemmas.List.{get_or_read}
use Rattle.disk_model.proofs.RunLemmas.{stage_more, staged_more}
use Rattle.disk_model.proofs.run.write_bodies.Goals as goal
use Rattle.disk_model.specs.Moments.{counts_then}

pub returns-in_err-write_body-clause-leaves : goal.returns-in_err-write_body-clause-leaves
returns-in_err-write_body-clause-leaves g c keeps =
    stage_more (g.row.B + 1) (g.D.Disk.state c.args.disk.now) (g.D.Disk.state c.loop-i.disk) (g.D.Disk.state c.write_body.new.disk) (get_or c.args.ks.now c.loop-i.i 0)
    (c.loop-i.invariant.leaves keeps) (c.write_body.ensures.steps (c.loop-i.invariant.counts.keeps ∙ keeps))

pub loop-i-preserved : goal.loop-i-preserved
loop-i-preserved g c =
    let old = g.D.Disk.state c.args.disk.now in
    let mid = g.D.Disk.state c.loop-i.disk in
    let new = g.D.Disk.state c.write_body.new.disk in
    let k = get_or c.args.ks.now c.loop-i.i 0 in
    let inside : c.loop-i.i < length c.args.ks.now = omega arith in
    let in_bodies : c.loop-i.i < length c.args.bodies.now = omega (arith, c.requires.as_many) in
    record {
      counts = counts_then false false old mid new c.loop-i.invariant.counts c.in_ok-write_body.ensures.counts;
      leaves = λ keeps. stage_more (g.row.B + 1) old mid new k (c.loop-i.invariant.leaves keeps) (c.write_body.ensures.steps (c.loop-i.invariant.counts.keeps ∙ keeps));
      seen = λ keeps.
          let still = c.loop-i.invariant.counts.keeps ∙ keeps in
          staged_more (g.row.B + 1) old mid new c.args.ks.now c.args.bodies.now c.loop-i.i k c.index-bodies-i.result c.requires.differ inside refl (get_or_read c.args.bodies.now c.loop-i.i c.index-bodies-i.result in_bodies c.index-bodies-i.is []) (c.loop-i.invariant.seen keeps)
          (c.in_ok-write_body.ensures.seen still) (c.in_ok-write_body.ensures.written still) (c.in_ok-write_body.ensures.others still);
    }
