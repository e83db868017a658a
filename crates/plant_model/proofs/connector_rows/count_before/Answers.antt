use Rattle.std.proofs.Common.{◌≡◌, ◌∙◌, ap, sym, map, length, nat_lt, arith}
use Rattle.std.proofs.lemmas.List.{length-map}
use Rattle.plant_model.specs.Interaction.{interaction_of}
use Rattle.plant_model.proofs.ByConnector.{before-all, before-more, before-stop, kept-at}
use Rattle.plant_model.proofs.connector_rows.count_before.Goals as goal

pub returns-then-interaction-connector-clause-before : goal.returns-then-interaction-connector-clause-before
returns-then-interaction-connector-clause-before c =
    let items = c.args.interactions.now in
    let item = c.index-interactions-number.result in
    before-stop (map interaction_of items) c.args.connector c.requires c.loop-number.number (interaction_of item)
    (kept-at items c.loop-number.number item c.loop-number-test.true c.index-interactions-number.is) c.if-interaction-connector.true c.loop-number.invariant

pub loop-number-preserved : goal.loop-number-preserved
loop-number-preserved c =
    let items = c.args.interactions.now in
    let item = c.index-interactions-number.result in
    before-more (map interaction_of items) c.args.connector c.loop-number.number (interaction_of item)
    (kept-at items c.loop-number.number item c.loop-number-test.true c.index-interactions-number.is) c.if-interaction-connector.false c.loop-number.invariant

pub returns-clause-before : goal.returns-clause-before
returns-clause-before c n =
    let items = c.args.interactions.now in
    let all : length items ≡ c.loop-number.number = omega (arith, c.loop-number-test.false, c.loop-number.auto.number-end) in
    before-all (map interaction_of items) c.args.connector c.loop-number.number (omega (arith, length-map items interaction_of, c.loop-number-test.false)) c.loop-number.invariant n ∙
    sym (ap (nat_lt n) all)
