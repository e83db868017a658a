use Rattle.std.proofs.Common.{◌/◌, Bool, false, List, length, get_or, ap, ◌∙◌, arith}
use Rattle.disk_model.specs.MemDisk.{state_of}
use Rattle.disk_model.proofs.MemoryLemmas.{marked, writes_whole, writes_part}
use Rattle.disk_model.proofs.memory.MemDiskDisk.write_at.Goals as goal

pub returns-then-burnt-clause-err : goal.returns-then-burnt-clause-err
returns-then-burnt-clause-err c keeps =
    let w = c.write.ensures in
    writes_part c.args.at (length c.args.from.now / 2) c.args.from.now (state_of c.args.self.now) _ w.marks c.requires (omega arith) w.seen w.pending w.past

pub returns-clause-ok : goal.returns-clause-ok
returns-clause-ok c keeps =
    let w = c.write-2.ensures in
    writes_whole c.args.at c.args.from.now (state_of c.args.self.now) _ w.marks c.requires w.seen w.pending w.past

pub returns-then-burnt-clause-half : goal.returns-then-burnt-clause-half
returns-then-burnt-clause-half c made =
    let w = c.write.ensures in
    let old = (state_of c.args.self.now).now in
    record {
      seen = w.seen;
      pending = λ i. ap (λ (l : List Bool). get_or l i false) w.pending ∙ marked c.args.at (length c.args.from.now) old.pending i (omega (arith, w.marks, c.requires));
      past = w.past;
    }
