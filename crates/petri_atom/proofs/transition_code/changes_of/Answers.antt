use Rattle.std.proofs.Common.{◌+◌, ◌∙◌, refl, sym, map, subst}
use Rattle.std.proofs.lemmas.Option.{same_Some}
use Rattle.petri_atom.specs.StraightCode.{IsChangeOf, is_codable_update}
use Rattle.petri_atom.specs.Update.{update_of}
use Rattle.petri_atom.specs.declared.transition_code.Change.{Change}
use Rattle.petri_atom.proofs.Coded.{AreFirst, first-more}
use Rattle.petri_atom.proofs.Fitting.{all_get}
use Rattle.petri_atom.proofs.Lists.{mapped-at}
use Rattle.petri_atom.proofs.transition_code.changes_of.Goals as goal

pub of-requires : goal.of-requires
of-requires c =
    let updates = c.args.updates.now in
    let n = c.loop-update.update-index in
    let update = c.update-item.result in
    all_get is_codable_update (map update_of updates) n (update_of update) c.requires
    (mapped-at update_of updates updates n n update refl refl c.loop-update-test.true c.update-item.is)

pub loop-update-preserved : goal.loop-update-preserved
loop-update-preserved c =
    let updates = c.args.updates.now in
    let n = c.loop-update.update-index in
    let update = c.update-item.result in
    let change : Change = record { variable = update.variable; value = c.in_ok-of.field-0 } in
    let here = mapped-at update_of updates updates n n update refl refl c.loop-update-test.true c.update-item.is in
    subst (λ items. AreFirst IsChangeOf (n + 1) items (map update_of updates)) (sym c.in_ok-push.ensures.items)
    (first-more IsChangeOf n c.loop-update.changes.items (map update_of updates) change c.loop-update.invariant
    (λ u at. subst (IsChangeOf change) (same_Some (update_of update) u (sym here ∙ at)) (refl, c.in_ok-of.ensures)))
