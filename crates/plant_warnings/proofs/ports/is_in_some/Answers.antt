use Rattle.std.proofs.Common.{◌∙◌, sym, arith}
use Rattle.plant_model.specs.Wire.{wire_of}
use Rattle.plant_warnings.specs.Ports.{has_leaf}
use Rattle.plant_warnings.proofs.Leaves.{few-leaves_at}
use Rattle.plant_warnings.proofs.Mapped.{any-now, any-later}
use Rattle.plant_warnings.proofs.ports.is_in_some.Goals as goal

pub has_leaf-requires : goal.has_leaf-requires
has_leaf-requires c = few-leaves_at c.args.wires.now c.loop-wire.wire-index c.wire-item.result c.requires (omega arith) c.wire-item.is

pub returns-then-has_leaf : goal.returns-then-has_leaf
returns-then-has_leaf c =
    any-now (has_leaf c.args.atom c.args.port) wire_of c.args.wires.now c.loop-wire.wire-index c.wire-item.result _ (omega arith) c.wire-item.is c.loop-wire.invariant
    (sym c.has_leaf.ensures ∙ c.if-has_leaf.true)

pub loop-wire-preserved : goal.loop-wire-preserved
loop-wire-preserved c =
    any-later (has_leaf c.args.atom c.args.port) wire_of c.args.wires.now c.loop-wire.wire-index c.wire-item.result _ (omega arith) c.wire-item.is c.loop-wire.invariant
    (sym c.has_leaf.ensures ∙ c.if-has_leaf.false)
