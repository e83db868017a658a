use Rattle.petri_atom.proofs.Giving.{kept_row, nothing_else}
use Rattle.petri_atom.proofs.state.Delivered.of.Goals as goal

pub invariant_of-result : goal.invariant_of-result
invariant_of-result c = nothing_else c.args.values c.delivered_values.ensures.four c.delivered_mask.result c.delivered_values.result c.delivered_mask.ensures c.delivered_values.ensures.values

pub returns : goal.returns
returns c = kept_row c.args.values c.delivered_values.ensures.four c.delivered_mask.result c.delivered_values.result c.delivered_mask.ensures c.delivered_values.ensures.values
