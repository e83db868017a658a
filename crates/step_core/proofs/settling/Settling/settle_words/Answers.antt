use Rattle.std.proofs.Common.{◌∙◌, sym}
use Rattle.std.specs.FinSet.{contains}
use Rattle.std.proofs.lemmas.Bool.{and_parts}
use Rattle.plant_model.specs.ConnectorRows.{is_of_connector}
use Rattle.plant_model.specs.System.{interactions_in, plant_of}
use Rattle.step_core.proofs.BoundedWeights.{weight-same}
use Rattle.step_core.proofs.settling.Settling.settle_words.Goals as goal

pub weigh_one-requires-clause-possible : goal.weigh_one-requires-clause-possible
weigh_one-requires-clause-possible c n yes_ =
    let s = c.args.self.now in
    let its = and_parts (contains c.keep_one-is_new.new.kept n) (is_of_connector (interactions_in s.system.now) c.args.connector n) yes_ in
    sym (s.can n) ∙ (and_parts (contains s.possible.now n) _ (sym (c.keep_one-is_new.ensures.kept n its.1) ∙ its.0)).0

pub returns-then-is_new-clause-weight : goal.returns-then-is_new-clause-weight
returns-then-is_new-clause-weight c = c.weigh_one.ensures.weight

pub returns-else-is_heavy-clause-weight : goal.returns-else-is_heavy-clause-weight
returns-else-is_heavy-clause-weight c =
    let s = c.args.self.now in
    c.requires.weight c.if-is_heavy.false ∙
    sym (weight-same (plant_of s.system.now).atoms s.states.now (interactions_in s.system.now) (contains c.args.kept.now) (contains c.keep_one-is_new.new.kept) c.args.connector
    (λ n _. c.keep_one-is_new.ensures.same c.if-is_new.false n))
