use Rattle.std.proofs.Common.{◌∙◌, ap}
use Rattle.std.specs.FinSet.{contains}
use Rattle.priority_filter.specs.Active.{may_be_marked}
use Rattle.priority_filter.specs.Members.{has_bit}
use Rattle.plant_model.proofs.BitsLeft.{no-bit}
use Rattle.step_core.proofs.Renewed.{all-still, by-connectors}
use Rattle.step_core.proofs.renewal.Renewal.keep_again.Goals as goal

pub returns-then-not-has_conditions-clause-kept : goal.returns-then-not-has_conditions-clause-kept
returns-then-not-has_conditions-clause-kept c =
    let r = c.args.self.now in
    let kept = c.keep_connectors in
    by-connectors r.system.now r.affected r.is_seen_new (may_be_marked r.seen.now) (contains r.possible.now) (contains r.rivals.now) c.args.kept.now c.requires.behind c.requires.past
    (c.has_conditions.ensures c.if-not-has_conditions.true) kept.new.kept kept.ensures.kept kept.ensures.others kept.ensures.past

pub returns-then-not-self-clause-kept : goal.returns-then-not-self-clause-kept
returns-then-not-self-clause-kept c =
    let r = c.args.self.now in
    all-still r.system.now r.affected r.is_seen_new (may_be_marked r.seen.now) (contains r.possible.now) (contains r.rivals.now) c.args.kept.now c.requires.behind c.requires.past
    (λ k. ap (λ w. has_bit w k) c.if-self-eq0.true ∙ no-bit k) c.if-not-self.true
