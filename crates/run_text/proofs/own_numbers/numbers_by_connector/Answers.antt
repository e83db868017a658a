use Rattle.std.proofs.Common.{◌≡◌, ◌+◌, ◌<◌, ◌∙◌, arith, length, set}
use Rattle.std.proofs.lemmas.List.{length-set}
use Rattle.plant_model.specs.Choice.{choices}
use Rattle.plant_model.specs.declared.limits.TheConstants.{MAX_WIRES}
use Rattle.step_core.specs.Running.{plant_in, states_in}
use Rattle.run_text.specs.OwnNumbers.{AreOwn}
use Rattle.run_text.specs.declared.own_numbers.OwnNumbers.{OwnNumbers}
use Rattle.run_text.proofs.ByConnector.{between-ends, one-more}
use Rattle.run_text.proofs.own_numbers.numbers_by_connector.Goals as goal

pub loop-connector-preserved : goal.loop-connector-preserved
loop-connector-preserved c =
    let plant = plant_in c.args.run.now in
    let states = states_in c.args.run.now in
    let l = c.loop-connector in
    let end = c.first_from-end.result in
    let own : OwnNumbers = record { first = l.first; end = end } in
    let below : l.connector < MAX_WIRES = omega (arith, c.loop-connector-test.true) in
    let within : l.connector < length l.numbers = omega (arith, below, l.invariant.long) in
    let are : AreOwn plant states l.connector own = record {
      numbers = between-ends l.connector (choices plant states) l.first end c.first_from-end.ensures.within l.invariant.within l.invariant.before l.invariant.after
          (λ place d low. omega (arith, c.first_from-end.ensures.before place d low))
          (λ place d from inside. omega (arith, c.first_from-end.ensures.from_there place d from inside));
      there = c.first_from-end.ensures.within;
    } in
    record {
      long = length-set l.numbers l.connector own ∙ l.invariant.long;
      within = c.first_from-end.ensures.within;
      before = λ place d low. omega (arith, c.first_from-end.ensures.before place d low);
      after = λ place d from inside. omega (arith, c.first_from-end.ensures.from_there place d from inside);
      so_far = one-more plant states l.numbers l.connector own within l.invariant.so_far are;
    }

pub returns : goal.returns
returns c = λ k other below. c.loop-connector.invariant.so_far k other (omega (arith, below, c.loop-connector-test.false))
