use Rattle.std.proofs.Common.{◌∙◌, ap}
use Rattle.std.specs.Prelude.{slice_set}
use Rattle.plant_model.proofs.state.PlantState.set.Goals as goal

pub returns : goal.returns
returns c =
    ap (λ k. slice_set c.self.inside.states.items k c.args.state) c.from.ensures ∙
    ap (λ all. slice_set all c.args.atom c.args.state) c.self.view_is
