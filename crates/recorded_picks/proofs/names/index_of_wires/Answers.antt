use Rattle.std.proofs.Common.{◌∙◌, ap}
use Rattle.recorded_picks.specs.Names.{place_of}
use Rattle.recorded_picks.proofs.Apart.{new-name}
use Rattle.recorded_picks.proofs.names.index_of_wires.Goals as goal

pub add-requires : goal.add-requires
add-requires c =
    ap (place_of c.loop-wire.names) c.as_bytes.ensures
    ∙ new-name (λ w. w.name) c.args.wires.now c.loop-wire.wire-index c.wire-item.result c.loop-wire-test.true c.wire-item.is c.loop-wire.names c.loop-wire.invariant c.requires
