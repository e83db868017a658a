use Rattle.std.proofs.Common.{◌≡◌, ◌<◌, ◌+◌, ◌∷◌, [], ℕ, None, sym, ◌∙◌, ap, subst, length, get_or, arith}
use Rattle.std.proofs.Math.ListN.{length-map}
use Rattle.std.proofs.lemmas.List.{length-append}
use Rattle.std.proofs.lemmas.Option.{slice_get_within}
use Rattle.petri_atom.specs.Atom.{definition_of}
use Rattle.plant_model.specs.Plant.{PlantDefinition}
use Rattle.plant_model.specs.System.{plant_of}
use Rattle.plant_image.specs.Reading.{contents_in}
use Rattle.parallel_replay.specs.Shares.{IsPlaced}
use Rattle.parallel_replay.proofs.Placing.{one_more}
use Rattle.parallel_replay.proofs.share.replay_share.Goals as goal

pub loop-number-preserved : goal.loop-number-preserved
loop-number-preserved g c =
    let k : ℕ = c.loop-number.number in
    let places = c.loop-number.places.items in
    let held = contents_in c.args.held.now in
    record {
      room = c.push_reserved.ensures.capacity ∙ c.loop-number.invariant.room;
      many = ap length c.push_reserved.ensures.items ∙ length-append places (c.replay_own.result ∷ []) ∙ ap (λ (n : ℕ). n + 1) c.loop-number.invariant.many;
      placed = λ n a below at own. subst (λ l. IsPlaced held n a (get_or l n None)) (sym c.push_reserved.ensures.items)
          (one_more held (plant_of c.args.system.now).atoms c.args.workers c.args.worker k places c.replay_own.result c.loop-number.invariant.many c.loop-number.invariant.placed c.replay_own.ensures n a below at own);
    }

pub returns : goal.returns
returns g c =
    let plant : PlantDefinition = plant_of c.args.system.now in
    let many : length c.atoms-atoms.result.now ≡ length plant.atoms = sym (length-map c.atoms-atoms.result.now definition_of) ∙ ap length c.atoms-atoms.ensures in
    let all : c.loop-number.number ≡ length plant.atoms = omega (arith, c.loop-number-test.false, c.loop-number.auto.number-end, many) in
    record {
      places = c.loop-number.invariant.many ∙ all;
      placed = λ n a at own. c.loop-number.invariant.placed n a (subst (λ l. n < l) (sym all) (slice_get_within plant.atoms n a at)) at own;
    }
