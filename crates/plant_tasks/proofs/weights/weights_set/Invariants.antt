use Rattle.std.proofs.Common.{◌≡◌, drop, replicate}
use Rattle.plant_model.specs.System.{plant_of}
use Rattle.plant_model.specs.declared.limits.TheConstants.{MAX_WIRES}
use Rattle.run_text.specs.declared.weights.TheConstants.{USUAL_WEIGHT}
use Rattle.plant_tasks.specs.Weights.{with_weights}
use Rattle.plant_tasks.proofs.weights.weights_set.Given as goal

-- with the words that are left these weights come to those of all words
abbrev pub invariant-loop-one : goal.invariant-loop-one
invariant-loop-one l = with_weights (plant_of l.system) l.weights (drop l.one-index l.words) ≡ with_weights (plant_of l.system) (replicate MAX_WIRES USUAL_WEIGHT) l.words
