use Rattle.std.proofs.Common.{◌∙◌, ap}
use Rattle.std.specs.Prelude.{slice_set}
use Rattle.plant_model.proofs.state.PlantState.copy_into.Goals as goal

pub returns : goal.returns
returns c =
    ap (slice_set c.self.inside.states.items c.from.result) c.copy_from.ensures ∙
    ap (λ k. slice_set c.self.inside.states.items k c.args.state.now) c.from.ensures ∙
    ap (λ all. slice_set all c.args.atom c.args.state.now) c.self.view_is
