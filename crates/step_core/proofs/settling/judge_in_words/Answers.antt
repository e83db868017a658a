use Rattle.std.proofs.Common.{◌∙◌, ap, sym, subst}
use Rattle.std.specs.FinSet.{contains}
use Rattle.plant_model.specs.System.{interactions_in}
use Rattle.step_core.specs.Standing.{IsRivalry}
use Rattle.step_core.proofs.settling.judge_in_words.Goals as goal

pub rivalry_of-requires-clause-others : goal.rivalry_of-requires-clause-others
rivalry_of-requires-clause-others c n out = c.judge_connector.ensures.others n out ∙ sym (ap (λ set. contains set n) c.copy-before.ensures)

pub returns-clause-some : goal.returns-clause-some
returns-clause-some c =
    subst (λ set. IsRivalry (interactions_in c.args.system.now) c.args.system.now.ranks c.args.connector (contains set) (contains c.judge_connector.new.possible) c.rivalry_of.result) c.copy-before.ensures c.rivalry_of.ensures
