use Rattle.std.proofs.Common.{◌≡◌, ◌+◌, ◌-◌, ℕ, List, ◌∙◌, ap, subst, is_err, is_ok, true, false, arith}
use Rattle.std.specs.List.{range_with_len}
use Rattle.disk_model.specs.declared.cells.TheConstants.{BODY}
use Rattle.disk_model.specs.DiskState.{DiskState}
use Rattle.disk_model.specs.Cells.{cell_count, cells_in, Erased, Leaves, OldOrEmpty}
use Rattle.disk_model.specs.Counting.{up_to_one, up_to_then}
use Rattle.disk_model.specs.Moments.{on_ok}
use Rattle.recovery.specs.Writing.{IsBlank}
use Rattle.recovery.proofs.WrittenCells.{first_leaves, is_blank, others_inside, others_leave}
use Rattle.recovery.proofs.writing.empty_cells.Goals as goal

pub returns-in_err-erase-clause-stops : goal.returns-in_err-erase-clause-stops
returns-in_err-erase-clause-stops g c keeps = first_leaves c.args.cells.now c.erase.new.self (c.erase.ensures.leaves keeps)

pub erase_run-requires : goal.erase_run-requires
erase_run-requires g c =
    let same : cell_count (BODY + 1) c.erase.new.self ≡ cell_count (BODY + 1) c.args.cells.now = ap (λ (n : ℕ). cells_in (BODY + 1) n) c.in_ok-erase.ensures.counts.size in
    let n : ℕ = cell_count (BODY + 1) c.args.cells.now - 1 in
    record { inside = others_inside c.erase.new.self c.args.others.now n c.requires.others (omega (arith, same, c.requires.some)) }

pub returns-clause-counts : goal.returns-clause-counts
returns-clause-counts g c =
    up_to_then (is_err c.erase_run.result) 1 1 c.args.cells.now c.erase.new.self c.erase_run.new.self
    (up_to_one false true c.args.cells.now c.erase.new.self c.in_ok-erase.ensures.counts)
    (up_to_one (is_err c.erase_run.result) (is_ok c.erase_run.result) c.erase.new.self c.erase_run.new.self c.erase_run.ensures.counts)

pub returns-clause-stops : goal.returns-clause-stops
returns-clause-stops g c keeps =
    let old : DiskState = c.args.cells.now in
    let mid : DiskState = c.erase.new.self in
    let new : DiskState = c.erase_run.new.self in
    let n : ℕ = cell_count (BODY + 1) old - 1 in
    let run : Leaves (BODY + 1) (OldOrEmpty (BODY + 1) mid (range_with_len 1 n)) mid new = subst (λ (ks : List ℕ). Leaves (BODY + 1) (OldOrEmpty (BODY + 1) mid ks) mid new) c.requires.others (c.erase_run.ensures.leaves (c.in_ok-erase.ensures.counts.keeps ∙ keeps)) in
    others_leave old mid new n (c.in_ok-erase.ensures.erased keeps) (first_leaves old mid (c.in_ok-erase.ensures.leaves keeps)) run

pub returns-clause-blank : goal.returns-clause-blank
returns-clause-blank g c keeps =
    let old : DiskState = c.args.cells.now in
    let mid : DiskState = c.erase.new.self in
    let new : DiskState = c.erase_run.new.self in
    let n : ℕ = cell_count (BODY + 1) old - 1 in
    let same : cell_count (BODY + 1) new ≡ cell_count (BODY + 1) old = ap (λ (b : ℕ). cells_in (BODY + 1) b) (c.erase_run.ensures.counts.size ∙ c.in_ok-erase.ensures.counts.size) in
    on_ok c.erase_run.result (Erased (BODY + 1) c.args.others.now mid new) (IsBlank new)
    (λ erased. is_blank old mid new n (c.in_ok-erase.ensures.erased keeps) (omega (arith, same)) (subst (λ (ks : List ℕ). Erased (BODY + 1) ks mid new) c.requires.others erased))
    (c.erase_run.ensures.erased (c.in_ok-erase.ensures.counts.keeps ∙ keeps))
