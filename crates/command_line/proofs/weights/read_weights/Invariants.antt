use Rattle.std.proofs.Common.{◌≡◌, ℕ, List, map, drop, IfOk}
use Rattle.command_line.specs.Weights.{weights_after, weights_in, weights_of}
use Rattle.command_line.proofs.weights.read_weights.Given as goal

-- what is left to read leads to the same end as all of it, after weights that were kept where there was memory for them
abbrev pub invariant-loop-word : goal.invariant-loop-word
invariant-loop-word l = record {
  before : List (List ℕ × ℕ);
  kept : IfOk l.weights (λ weights. weights_of weights.items ≡ before);
  so_far : weights_after before (map (λ word. word.now) (drop l.word-index l.words)) ≡ weights_in (map (λ word. word.now) l.words);
}
