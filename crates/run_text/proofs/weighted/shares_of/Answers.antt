use Rattle.std.proofs.Common.{◌≡◌, ◌<◌, ◌∙◌, arith, length, set, subst, sym}
use Rattle.std.proofs.lemmas.List.{length-set}
use Rattle.std.proofs.lemmas.List.Edits.{fill_by_more}
use Rattle.plant_model.specs.declared.limits.TheConstants.{MAX_WIRES}
use Rattle.step_core.specs.Running.{plant_in, states_in}
use Rattle.run_text.specs.Weights.{weight_in}
use Rattle.run_text.proofs.Shares.{more-shares, own-weight}
use Rattle.run_text.proofs.weighted.shares_of.Goals as goal

pub loop-connector-preserved : goal.loop-connector-preserved
loop-connector-preserved c =
    let plant = plant_in c.args.run.now in
    let states = states_in c.args.run.now in
    let l = c.loop-connector in
    let below : l.connector < MAX_WIRES = omega (arith, c.loop-connector-test.true) in
    record {
      long = length-set l.shares l.connector c.share.result ∙ l.invariant.long;
      so_far = more-shares plant states c.args.weights.now l.shares l.connector c.share.result (omega (arith, below, l.invariant.long)) l.invariant.so_far
          (own-weight plant states c.args.weights.now l.connector c.share.result _ (c.requires l.connector _ below) c.share.ensures);
    }
