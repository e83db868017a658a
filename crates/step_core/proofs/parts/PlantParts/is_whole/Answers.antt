use Rattle.std.proofs.Common.{◌∙◌, ap}
use Rattle.std.specs.Prelude.{is_some}
use Rattle.std.specs.List.{list_all}
use Rattle.step_core.proofs.PartsKept.{whole-told}
use Rattle.step_core.proofs.parts.PlantParts.is_whole.Goals as goal

pub returns : goal.returns
returns c =
    whole-told c.self.inside.away c.self.inside.states c.self.invariant ∙ ap (list_all is_some) c.self.view_is
