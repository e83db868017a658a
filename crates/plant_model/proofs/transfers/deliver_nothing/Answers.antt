use Rattle.std.proofs.Common.{◌∙◌, ap, arith, set, ⊎_elim}
use Rattle.std.specs.Prelude.{Some, slice_get}
use Rattle.std.proofs.lemmas.Bool.{cases_eq}
use Rattle.std.proofs.lemmas.List.{length-set}
use Rattle.std.proofs.lemmas.Option.{slice_get_within}
use Rattle.plant_model.proofs.ValueRows.{set-here, set-other}
use Rattle.plant_model.proofs.transfers.deliver_nothing.Goals as goal

pub loop-place-preserved : goal.loop-place-preserved
loop-place-preserved c =
    let row = c.loop-place.delivered in
    let place = c.loop-place.place in
    let long = c.loop-place.invariant.0 in (
      length-set row place c.clear.new.self ∙ long,
      λ n below.
          ⊎_elim
          (λ here. ap (slice_get (set row place c.clear.new.self)) here ∙ set-here row place c.clear.new.self (omega (arith, long, c.requires, c.told-delivered, c.loop-place-test.true)) ∙ ap Some c.clear.ensures)
          (λ other. set-other row place c.clear.new.self n other ∙ c.loop-place.invariant.1 n (omega (arith, below, other)))
          (cases_eq n place),
    )

pub returns : goal.returns
returns c place m there =
    c.loop-place.invariant.1 place (omega (arith, slice_get_within c.args.moves.now place m there, c.loop-place-test.false))
