use Rattle.std.proofs.Common.{ℕ, ◌+◌, drop, get_or, ap, ◌∙◌, subst}
use Rattle.std.proofs.lemmas.Bool.{or_parts}
use Rattle.std.proofs.lemmas.List.{drop_more, drop_all}
use Rattle.petri_atom.specs.Local.{is_in}
use Rattle.plant_model.specs.Sights.{AreSeenBut}
use Rattle.plant_model.proofs.Sighted.{after-sight}
use Rattle.step_core.proofs.sights.see_again.Goals as goal

pub returns-then-not-has_conditions-clause-seen : goal.returns-then-not-has_conditions-clause-seen
returns-then-not-has_conditions-clause-seen g c = λ left right at there. absurd (c.has_conditions.ensures c.if-not-has_conditions.true left right at there)

pub loop-atom-preserved : goal.loop-atom-preserved
loop-atom-preserved g c =
    let changed = c.args.changed.now in
    let index : ℕ = c.loop-atom.atom-index in
    let rules = c.args.order.now.rules in
    let marked = g.S.Sights.marked c.args.states.now in
    let old = c.loop-atom.seen in
    let one = c.see_one-is_new.ensures in
    record {
      others = after-sight (get_or changed index 0) (drop (index + 1) changed) rules marked old c.see_one-is_new.new.seen one.here one.others
          (subst (λ left. AreSeenBut left rules marked old) (drop_more changed index 0 c.loop-atom-test.true) c.loop-atom.invariant.others);
      same = λ none left right at there.
          let parts = or_parts c.loop-atom.is_new c.see_one-is_new.result none in
          one.same parts.1 left right at there ∙ c.loop-atom.invariant.same parts.0 left right at there;
    }

pub returns-clause-seen : goal.returns-clause-seen
returns-clause-seen g c = λ left right at there.
    c.loop-atom.invariant.others left right at there (ap (λ ks. is_in ks at.atom) (drop_all c.loop-atom.atom-index c.args.changed.now c.loop-atom-test.false))
