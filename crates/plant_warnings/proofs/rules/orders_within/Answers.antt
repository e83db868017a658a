use Rattle.std.proofs.Common.{◌∙◌, ap, sym}
use Rattle.plant_warnings.specs.Rules.{has_one_within}
use Rattle.plant_warnings.proofs.Within.{one-within}
use Rattle.plant_warnings.proofs.rules.orders_within.Goals as goal

pub returns : goal.returns
returns c =
    c.has_one_within.ensures ∙ sym (one-within c.args.connector c.interactions.result.now) ∙ ap (λ all. has_one_within all c.args.connector) c.interactions.ensures
