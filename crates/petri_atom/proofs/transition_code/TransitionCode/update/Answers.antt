use Rattle.std.proofs.Common.{◌<◌, ◌∙◌, List, refl, ap, arith, length, subst, get_or, slice_set, rules, w64, SFits}
use Rattle.std.proofs.lemmas.Int.{to_z-of_z}
use Rattle.std.proofs.lemmas.Option.{slice_get_read}
use Rattle.petri_atom.specs.Expression.{value_of}
use Rattle.petri_atom.specs.Local.{value_in}
use Rattle.petri_atom.specs.declared.transition_code.Change.{Change}
use Rattle.petri_atom.proofs.Coded.{after_one, element-at}
use Rattle.petri_atom.proofs.transition_code.TransitionCode.update.Goals as goal

pub loop-change-preserved : goal.loop-change-preserved
loop-change-preserved c =
    let changes = c.args.self.now.changes.items in
    let n = c.loop-change.change-index in
    let change = c.change-item.result in
    let values = c.loop-change.state.values in
    let lent = c.deref-change-items.ensures.value in
    let within : n < length changes = subst (λ (cs : List Change). n < length cs) lent c.loop-change-test.true in
    let fits : SFits w64 c.value-value.result = search rules in
    let there = slice_get_read changes (length changes) n change refl within (c.change-item.is ∙ ap (λ (cs : List Change). get_or cs n change) lent) in (
      c.assign.ensures.marking ∙ c.loop-change.invariant.0,
      λ us are. element-at us n (omega (arith, within, are.0)) (λ u at.
          let is = are.1 n change u there at in
          after_one us n u values c.assign.new.self.values _ at
          (c.assign.ensures.values ∙ ap (slice_set values change.variable) (to_z-of_z w64 c.value-value.result fits ∙ c.value-value.ensures u.value is.1) ∙ ap (λ v. slice_set values v (value_of (value_in values) u.value)) is.0)
          (c.loop-change.invariant.1 us are)),
    )
