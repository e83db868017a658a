use Rattle.std.proofs.Common.{◌∙◌, sym, arith}
use Rattle.petri_atom.specs.Atom.{definition_of}
use Rattle.plant_model.specs.Wire.{wire_of}
use Rattle.plant_warnings.specs.Reads.{is_read_in}
use Rattle.plant_warnings.proofs.Leaves.{few-leaves_at}
use Rattle.plant_warnings.proofs.Mapped.{any-now, any-later}
use Rattle.plant_warnings.proofs.reads.is_read_in_some.Goals as goal

pub is_read_in-requires : goal.is_read_in-requires
is_read_in-requires c = few-leaves_at c.args.wires.now c.loop-wire.wire-index c.wire-item.result c.requires (omega arith) c.wire-item.is

pub returns-then-is_read_in : goal.returns-then-is_read_in
returns-then-is_read_in c =
    any-now (is_read_in c.args.number (definition_of c.args.atom.now) c.args.variable) wire_of c.args.wires.now c.loop-wire.wire-index c.wire-item.result _ (omega arith) c.wire-item.is c.loop-wire.invariant
    (sym c.is_read_in.ensures ∙ c.if-is_read_in.true)

pub loop-wire-preserved : goal.loop-wire-preserved
loop-wire-preserved c =
    any-later (is_read_in c.args.number (definition_of c.args.atom.now) c.args.variable) wire_of c.args.wires.now c.loop-wire.wire-index c.wire-item.result _ (omega arith) c.wire-item.is c.loop-wire.invariant
    (sym c.is_read_in.ensures ∙ c.if-is_read_in.false)
