use Rattle.std.proofs.Common.{◌+◌, ℕ, List, length, Some, sym, ◌∙◌, ap, arith}
use Rattle.disk_model.proofs.CallLemmas.{read_empty, read_full}
use Rattle.disk_model.proofs.calls.read_full.Goals as goal

pub returns-then-whole-clause-cell : goal.returns-then-whole-clause-cell
returns-then-whole-clause-cell g c keeps =
    read_empty (g.row.B + 1) c.args.k (length c.args.whole.now) (g.D.Disk.state c.args.disk.now) c.read_at.new.into (omega arith) c.requires.inside c.requires.room (c.in_ok-read_at.ensures.bytes keeps) c.if-whole.true

pub returns-clause-cell : goal.returns-clause-cell
returns-clause-cell g c keeps =
    read_full (g.row.B + 1) c.args.k (length c.args.whole.now) (g.D.Disk.state c.args.disk.now) c.read_at.new.into (omega arith) c.requires.inside c.requires.room (c.in_ok-read_at.ensures.bytes keeps) c.if-whole.false
    ∙ ap (λ (l : List ℕ). Some l) (sym c.copy_from_slice.ensures.after)
