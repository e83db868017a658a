use Rattle.std.proofs.Common.{ap, sym, ◌∙◌}
use Rattle.std.specs.FinSet.{contains}
use Rattle.plant_model.proofs.Noting.{put-here, put-other}
use Rattle.step_core.proofs.opening.put.Goals as goal

pub returns-then-is_in-clause-here : goal.returns-then-is_in-clause-here
returns-then-is_in-clause-here c =
    ap (λ s. contains s c.args.number) (c.insert.ensures.within c.requires) ∙ put-here c.args.set.now c.args.number ∙ sym c.if-is_in.true

pub returns-then-is_in-clause-others : goal.returns-then-is_in-clause-others
returns-then-is_in-clause-others c n other =
    ap (λ s. contains s n) (c.insert.ensures.within c.requires) ∙ put-other c.args.set.now c.args.number n other
