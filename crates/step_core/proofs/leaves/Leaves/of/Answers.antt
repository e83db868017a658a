use Rattle.std.proofs.Common.{◌<◌, ◌≤◌, ◌∙◌, ap, sym, length, arith, subst}
use Rattle.std.specs.Prelude.{slice_get}
use Rattle.plant_model.specs.System.{plant_of}
use Rattle.step_core.specs.Leaves.{is_many, is_none}
use Rattle.step_core.proofs.LeafStates.{no-connector, next-connector, all-connectors}
use Rattle.step_core.proofs.OfSystem.{connector-there, its-leaves, as-many-connectors, few-its-leaves}
use Rattle.step_core.proofs.leaves.Leaves.of.Goals as goal

pub loop-connector-init : goal.loop-connector-init
loop-connector-init c =
    let wires = (plant_of c.args.system.now).wires in
    let counts = c.args.offers.now.counts in
    record { off = no-connector wires counts is_none 64; many = no-connector wires counts is_many 64 }

pub set_connector-requires-clause-ports : goal.set_connector-requires-clause-ports
set_connector-requires-clause-ports c =
    let s = c.args.system.now in
    let n = c.loop-connector.connector in
    let within : n < length s.ports.items = omega (arith, c.loop-connector-test.true, c.len-connector-end.ensures, s.ports.ok.0) in
    let w = connector-there s n within in
    omega (arith, ap length (c.deref.ensures.value ∙ its-leaves s n within c.index.result.now c.index.ensures w.0 w.1), few-its-leaves s n w.0 w.1)

pub loop-connector-preserved : goal.loop-connector-preserved
loop-connector-preserved c =
    let s = c.args.system.now in
    let wires = (plant_of s).wires in
    let counts = c.args.offers.now.counts in
    let n = c.loop-connector.connector in
    let within : n < length s.ports.items = omega (arith, c.loop-connector-test.true, c.len-connector-end.ensures, s.ports.ok.0) in
    let w = connector-there s n within in
    let same = c.deref.ensures.value ∙ its-leaves s n within c.index.result.now c.index.ensures w.0 w.1 in
    let told = c.set_connector.ensures in
    record {
      off = next-connector wires counts is_none n w.0 w.1 _ _ c.loop-connector.invariant.off
          (λ leaf p there. told.off leaf p (ap (λ ps. slice_get ps leaf) same ∙ there))
          (λ k leaf past. told.others_off k leaf (λ its. subst (λ ps. length ps ≤ leaf) (sym same) (past its)));
      many = next-connector wires counts is_many n w.0 w.1 _ _ c.loop-connector.invariant.many
          (λ leaf p there. told.many leaf p (ap (λ ps. slice_get ps leaf) same ∙ there))
          (λ k leaf past. told.others_many k leaf (λ its. subst (λ ps. length ps ≤ leaf) (sym same) (past its)));
    }

pub returns : goal.returns
returns c =
    let s = c.args.system.now in
    let wires = (plant_of s).wires in
    let counts = c.args.offers.now.counts in
    let over : length wires ≤ c.loop-connector.connector = omega (arith, as-many-connectors s, c.loop-connector-test.false, c.len-connector-end.ensures, s.ports.ok.0) in
    record {
      off = all-connectors wires counts is_none c.loop-connector.connector over _ c.loop-connector.invariant.off;
      many = all-connectors wires counts is_many c.loop-connector.connector over _ c.loop-connector.invariant.many;
    }
