use Rattle.std.proofs.Common.{◌≡◌, ◌+◌, ◌-◌, List, ℕ, Some, drop, length, take, sym, ◌∙◌, ap, arith, rules}
use Rattle.disk_model.specs.declared.cells.TheConstants.{BODY}
use Rattle.disk_model.proofs.CallLemmas.{read_empty, read_full}
use Rattle.disk_model.specs.MemDisk.{state_of}
use Rattle.crash_explorer.proofs.loading.load_cell.Goals as goal

pub returns-then-whole-clause-cell : goal.returns-then-whole-clause-cell
returns-then-whole-clause-cell c =
    sym (read_empty (BODY + 1) c.args.k (BODY + 1) (state_of c.args.disk.now) c.read.new.into (omega arith) c.requires.inside (omega arith) c.read.ensures.bytes c.if-whole.true)

pub returns-clause-cell : goal.returns-clause-cell
returns-clause-cell c =
    let whole : List ℕ = c.read.new.into in
    let long : length whole ≡ BODY + 1 = search rules in
    let rest : length whole - 1 ≡ BODY = omega (arith, long) in
    sym (read_full (BODY + 1) c.args.k (BODY + 1) (state_of c.args.disk.now) whole (omega arith) c.requires.inside (omega arith) c.read.ensures.bytes c.if-whole.false
    ∙ (ap (λ (n : ℕ). Some (take n (drop 1 whole))) rest ∙ ap (λ (l : List ℕ). Some l) (sym c.copy_from_slice.ensures.after)))
