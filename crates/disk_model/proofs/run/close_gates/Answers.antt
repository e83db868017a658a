use Rattle.std.proofs.Common.{false, ◌+◌, ◌∙◌, get_or, refl, arith}
use Rattle.disk_model.proofs.CallLemmas.{reads_same}
use Rattle.disk_model.proofs.RunLemmas.{erase_start, erase_more, full_after, seen_none, seen_emptied_more}
use Rattle.disk_model.proofs.run.close_gates.Goals as goal
use Rattle.disk_model.specs.Moments.{counts_then, unchanged_from}

pub loop-k-init : goal.loop-k-init
loop-k-init g c = record {
  counts = record { size = refl; keeps = refl; failures = refl; syncs = refl };
  full = λ keeps known i from lt. c.requires.full keeps known i lt;
  leaves = λ keeps. erase_start (g.row.B + 1) (g.D.Disk.state c.args.disk.now) c.args.ks.now;
  seen = λ keeps. seen_none (g.row.B + 1) (g.D.Disk.state c.args.disk.now) c.args.ks.now;
  untouched = λ keeps empty. record { now = refl; past = refl };
}

pub returns-in_err-close_gate-clause-leaves : goal.returns-in_err-close_gate-clause-leaves
returns-in_err-close_gate-clause-leaves g c keeps =
    erase_more (g.row.B + 1) (g.D.Disk.state c.args.disk.now) (g.D.Disk.state c.loop-k.disk) (g.D.Disk.state c.close_gate.new.disk) c.args.ks.now c.loop-k.k-index (get_or c.args.ks.now c.loop-k.k-index 0) (omega arith) refl
    (c.loop-k.invariant.leaves keeps) (c.close_gate.ensures.steps (c.loop-k.invariant.counts.keeps ∙ keeps))

pub loop-k-preserved : goal.loop-k-preserved
loop-k-preserved g c = record {
  counts = counts_then false false (g.D.Disk.state c.args.disk.now) (g.D.Disk.state c.loop-k.disk) (g.D.Disk.state c.close_gate.new.disk) c.loop-k.invariant.counts c.in_ok-close_gate.ensures.counts;
  full = λ keeps known. full_after (g.row.B + 1) (g.D.Disk.state c.loop-k.disk) (g.D.Disk.state c.close_gate.new.disk) c.args.ks.now c.loop-k.k-index (get_or c.args.ks.now c.loop-k.k-index 0) (c.requires.differ known) (omega arith) refl
      (c.loop-k.invariant.full keeps known) (c.in_ok-close_gate.ensures.seen (c.loop-k.invariant.counts.keeps ∙ keeps));
  leaves = λ keeps. erase_more (g.row.B + 1) (g.D.Disk.state c.args.disk.now) (g.D.Disk.state c.loop-k.disk) (g.D.Disk.state c.close_gate.new.disk) c.args.ks.now c.loop-k.k-index (get_or c.args.ks.now c.loop-k.k-index 0) (omega arith) refl
      (c.loop-k.invariant.leaves keeps) (c.close_gate.ensures.steps (c.loop-k.invariant.counts.keeps ∙ keeps));
  seen = λ keeps. seen_emptied_more (g.row.B + 1) (g.D.Disk.state c.args.disk.now) (g.D.Disk.state c.loop-k.disk) (g.D.Disk.state c.close_gate.new.disk) c.args.ks.now c.loop-k.k-index (get_or c.args.ks.now c.loop-k.k-index 0) (omega arith) refl
      (c.loop-k.invariant.seen keeps) (c.in_ok-close_gate.ensures.seen (c.loop-k.invariant.counts.keeps ∙ keeps));
  untouched = λ keeps empty. unchanged_from (g.D.Disk.state c.args.disk.now) (g.D.Disk.state c.loop-k.disk) (g.D.Disk.state c.close_gate.new.disk) (c.loop-k.invariant.untouched keeps empty)
      (c.close_gate.ensures.untouched (c.loop-k.invariant.counts.keeps ∙ keeps) (reads_same (g.row.B + 1) (get_or c.args.ks.now c.loop-k.k-index 0) (g.D.Disk.state c.args.disk.now) (g.D.Disk.state c.loop-k.disk) (c.loop-k.invariant.untouched keeps empty) (empty c.loop-k.k-index (omega arith))));
}

pub returns-in_err-close_gate-clause-untouched : goal.returns-in_err-close_gate-clause-untouched
returns-in_err-close_gate-clause-untouched g c keeps empty =
    unchanged_from (g.D.Disk.state c.args.disk.now) (g.D.Disk.state c.loop-k.disk) (g.D.Disk.state c.close_gate.new.disk) (c.loop-k.invariant.untouched keeps empty)
    (c.close_gate.ensures.untouched (c.loop-k.invariant.counts.keeps ∙ keeps) (reads_same (g.row.B + 1) (get_or c.args.ks.now c.loop-k.k-index 0) (g.D.Disk.state c.args.disk.now) (g.D.Disk.state c.loop-k.disk) (c.loop-k.invariant.untouched keeps empty) (empty c.loop-k.k-index (omega arith))))
