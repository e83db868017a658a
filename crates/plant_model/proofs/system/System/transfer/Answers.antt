use Rattle.std.proofs.Common.{◌∙◌, ◌++◌, ap, arith}
use Rattle.plant_model.specs.BoundExpressions.{deliveries_in, deliveries_with, given_for, inputs_of}
use Rattle.plant_model.specs.Chosen.{firing_of}
use Rattle.plant_model.proofs.Delivering.{given-there, given-past}
use Rattle.plant_model.proofs.system.System.transfer.Goals as goal

pub returns-in-Some : goal.returns-in-Some
returns-in-Some c =
    let lookup = c.in-Some.ensures.lookup in
    c.add_inputs.ensures c.args.states.now _ c.given_for-delivered.ensures ∙
    ap (λ is. given_for c.args.states.now (deliveries_in c.in-Some.bound.now.deliveries ++ deliveries_with (inputs_of is) c.args.inputs.now) c.args.choice.now.mask c.args.atom) c.deref-in-Some.ensures.value ∙
    given-there c.args.self.now c.args.states.now (firing_of c.args.choice.now c.args.inputs.now) (omega arith) c.from.result c.from.ensures c.args.atom _ c.deref.ensures.value c.in-Some.bound.now lookup.3.0 lookup.1

pub returns-in-None : goal.returns-in-None
returns-in-None c =
    c.nothing_delivered.ensures ∙
    given-past c.args.self.now c.args.states.now (firing_of c.args.choice.now c.args.inputs.now) (omega arith) c.from.result c.from.ensures c.args.atom _ c.deref.ensures.value c.in-None.ensures.lookup.3
