use Rattle.std.proofs.Common.{◌≡◌, ◌<◌, ◌++◌, ◌∷◌, [], List, ℕ, Some, ap, sym, ◌∙◌, subst, arith, ⊎_elim}
use Rattle.std.specs.Prelude.{slice_get}
use Rattle.snapshot_writer.specs.Batches.{SlottedFields}
use Rattle.plant_core.proofs.SavedAll.{last-or-before}
use Rattle.plant_core.proofs.saving.add_if_behind.Goals as goal

pub returns-clause-small : goal.returns-clause-small
returns-clause-small g c i s at =
    let last : SlottedFields = record { slot = c.in_ok-free.free.slot; full = c.in_ok-free.free.full; saved = c.committed_copy.result } in
    ⊎_elim
    (λ before. c.requires.small i s before)
    (λ is. subst (λ (t : SlottedFields). t.slot < 2) is c.in_ok-free.ensures.in_range)
    (last-or-before c.args.batch.now last s i (ap (λ (b : List SlottedFields). slice_get b i) (sym c.push.ensures) ∙ at))
