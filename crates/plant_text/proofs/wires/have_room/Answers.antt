use Rattle.std.proofs.Common.{◌≡◌, ap, arith, ◌+◌, length, drop, map}
use Rattle.std.proofs.lemmas.List.{at_drop_all}
use Rattle.std.specs.Prelude.{nat_le}
use Rattle.plant_model.specs.declared.limits.TheConstants.{MAX_INTERACTIONS}
use Rattle.plant_text.specs.Interactions.{interactions_of}
use Rattle.plant_text.specs.Parts.{wire_listed}
use Rattle.plant_text.proofs.Counts.{count_of, count_is}
use Rattle.plant_text.proofs.wires.have_room.Goals as goal

pub returns : goal.returns
returns c =
    let wires = c.args.wires.now in
    let all : count_of wires ≡ length (interactions_of (map wire_listed wires)) = count_is 0 wires in
    let none : count_of (drop c.loop-wire.wire-index wires) ≡ 0 = at_drop_all count_of wires c.loop-wire.wire-index c.loop-wire-test.false in
    let total : c.loop-wire.total ≡ length (interactions_of (map wire_listed wires)) + c.args.more = omega (arith, c.loop-wire.invariant.counted, none, all) in
    ap (λ n. nat_le n MAX_INTERACTIONS) total
