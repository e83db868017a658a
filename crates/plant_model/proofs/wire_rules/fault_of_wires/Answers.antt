use Rattle.std.proofs.Common.{◌∙◌, refl, ap, sym, length, map}
use Rattle.std.specs.Prelude.{option_map}
use Rattle.std.proofs.lemmas.Option.{slice_get_read, slice_get-map}
use Rattle.petri_atom.specs.Atom.{definition_of}
use Rattle.plant_model.specs.Rules.{first_fault_in, wire_fault}
use Rattle.plant_model.specs.Wire.{wire_of}
use Rattle.plant_model.proofs.FirstFault.{told-now, told-later}
use Rattle.plant_model.proofs.TreeRules.{few_leaves}
use Rattle.plant_model.proofs.wire_rules.fault_of_wires.Goals as goal

pub of-row-requires : goal.of-row-requires
of-row-requires c =
    let wires = c.args.wires.now in
    let n = c.loop-number.number in
    let w = c.index-wires-number.result in
    few_leaves (map wire_of wires) c.requires.trees n (wire_of w)
    (slice_get-map wire_of wires n ∙ ap (option_map wire_of) (slice_get_read wires (length wires) n w refl c.loop-number-test.true c.index-wires-number.is))

pub wire_fault-requires : goal.wire_fault-requires
wire_fault-requires c = record {
  few = c.requires.few;
  there = c.loop-number-test.true;
  ports = c.as_slice.ensures ∙ c.of-row.ensures;
}

pub returns-in-Some : goal.returns-in-Some
returns-in-Some c =
    let tell = wire_fault (map definition_of c.args.atoms.now) (map wire_of c.args.wires.now) in
    told-now tell wire_of c.args.wires.now c.loop-number.number c.index-wires-number.result c.loop-number-test.true c.index-wires-number.is (first_fault_in tell 0 (map wire_of c.args.wires.now)) c.loop-number.invariant c.in-Some.fault (sym c.wire_fault.ensures ∙ c.in-Some.is)

pub loop-number-preserved : goal.loop-number-preserved
loop-number-preserved c =
    let tell = wire_fault (map definition_of c.args.atoms.now) (map wire_of c.args.wires.now) in
    told-later tell wire_of c.args.wires.now c.loop-number.number c.index-wires-number.result c.loop-number-test.true c.index-wires-number.is (first_fault_in tell 0 (map wire_of c.args.wires.now)) c.loop-number.invariant (sym c.wire_fault.ensures ∙ c.in_default.is)
