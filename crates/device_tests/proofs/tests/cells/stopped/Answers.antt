use Rattle.std.proofs.Common.{◌+◌, ◌≡◌, true, ◌∷◌, [], ap, ◌∙◌, rules, sym, subst}
use Rattle.disk_model.specs.declared.cells.TheConstants.{BODY}
use Rattle.disk_model.specs.DiskState.{DiskState, size_of}
use Rattle.disk_model.specs.Cells.{IsClosed}
use Rattle.disk_model.specs.Steps.{AreClosed}
use Rattle.device_tests.proofs.FiveCells.{one_of_five, closed_after_erase, three_differ, three_inside}
use Rattle.device_tests.proofs.tests.cells.stopped.Goals as goal

pub set-requires-clause-inside : goal.set-requires-clause-inside
set-requires-clause-inside c =
    let old = c.new-cells-in-Set.result in
    let s = c.erase-in-Set.new.self in
    let same : c.new-cells-in-Set-2.result ≡ s = c.new-cells-in-Set-2.ensures ∙ c.fuse_dead-in-Set.ensures.state ∙ c.into_disk-disk.ensures in
    let size : size_of s ≡ 5120 = c.in_ok-erase-in-Set.ensures.counts.size ∙ ap (λ (s : DiskState). size_of s) c.new-cells-in-Set.ensures ∙ c.requires in
    one_of_five c.new-cells-in-Set-2.result 2 (ap (λ (s : DiskState). size_of s) same ∙ size) (search rules)

pub set-requires-clause-closed : goal.set-requires-clause-closed
set-requires-clause-closed c still =
    let old = c.new-cells-in-Set.result in
    let s = c.erase-in-Set.new.self in
    let keeps : old.keeps ≡ true = ap (λ (s : DiskState). s.keeps) c.new-cells-in-Set.ensures in
    let same : c.new-cells-in-Set-2.result ≡ s = c.new-cells-in-Set-2.ensures ∙ c.fuse_dead-in-Set.ensures.state ∙ c.into_disk-disk.ensures in
    subst (λ (s : DiskState). IsClosed (BODY + 1) s 2) (sym same) (closed_after_erase old s (2 ∷ []) (c.in_ok-erase-in-Set.ensures.erased keeps) 0 (search rules))

pub set_run-requires-clause-differ : goal.set_run-requires-clause-differ
set_run-requires-clause-differ c = three_differ

pub set_run-requires-clause-inside : goal.set_run-requires-clause-inside
set_run-requires-clause-inside c =
    let old = c.new-cells-in-SetRun.result in
    let s = c.erase_run-in-SetRun.new.self in
    let same : c.new-cells-in-SetRun-2.result ≡ s = c.new-cells-in-SetRun-2.ensures ∙ c.fuse_dead-in-SetRun.ensures.state ∙ c.into_disk-disk-in-SetRun.ensures in
    let size : size_of s ≡ 5120 = c.in_ok-erase_run-in-SetRun.ensures.counts.size ∙ ap (λ (s : DiskState). size_of s) c.new-cells-in-SetRun.ensures ∙ c.requires in
    three_inside c.new-cells-in-SetRun-2.result (ap (λ (s : DiskState). size_of s) same ∙ size)

pub set_run-requires-clause-closed : goal.set_run-requires-clause-closed
set_run-requires-clause-closed c still =
    let old = c.new-cells-in-SetRun.result in
    let s = c.erase_run-in-SetRun.new.self in
    let keeps : old.keeps ≡ true = ap (λ (s : DiskState). s.keeps) c.new-cells-in-SetRun.ensures in
    let same : c.new-cells-in-SetRun-2.result ≡ s = c.new-cells-in-SetRun-2.ensures ∙ c.fuse_dead-in-SetRun.ensures.state ∙ c.into_disk-disk-in-SetRun.ensures in
    subst (λ (s : DiskState). AreClosed (BODY + 1) s (1 ∷ 2 ∷ 3 ∷ [])) (sym same) (closed_after_erase old s (1 ∷ 2 ∷ 3 ∷ []) (c.in_ok-erase_run-in-SetRun.ensures.erased keeps))
