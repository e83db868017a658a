use Rattle.std.proofs.Common.{◌∙◌, ap, sym, refl, arith, length}
use Rattle.std.specs.Prelude.{slice_get}
use Rattle.std.proofs.lemmas.Option.{slice_get_read}
use Rattle.plant_model.proofs.state.PlantState.state.Goals as goal

pub returns : goal.returns
returns c =
    let states = c.self.inside.states.items in
    ap (λ all. slice_get all c.args.atom) (sym c.self.view_is) ∙
    ap (slice_get states) (sym c.from.ensures) ∙
    slice_get_read states (length states) c.from.result c.index.result.now refl (omega (arith, c.from.ensures, c.requires, ap length c.self.view_is)) c.index.ensures
