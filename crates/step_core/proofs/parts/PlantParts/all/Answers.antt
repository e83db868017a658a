use Rattle.std.proofs.Common.{◌∙◌, sym}
use Rattle.std.proofs.lemmas.Bool.{false≢true}
use Rattle.step_core.proofs.PartsKept.{all-present, none-away}
use Rattle.step_core.proofs.parts.PlantParts.all.Goals as goal

pub invariant_of-result : goal.invariant_of-result
invariant_of-result c = record {
  few = c.requires;
  hidden = λ n gone. absurd (false≢true (sym (none-away n) ∙ gone));
}

pub returns : goal.returns
returns c = all-present c.args.states
