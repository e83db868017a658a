-- The leaves that were counted are none too many.
use Rattle.std.proofs.Common.{length, ◌≤◌}
use Rattle.connector_tree.specs.declared.tree.TheConstants.{MAX_LEAVES}
use Rattle.plant_text.proofs.marks.from_leaf_past_the_limit.Given as goal

abbrev pub invariant-loop-word : goal.invariant-loop-word
invariant-loop-word l = l.leaves ≤ MAX_LEAVES

abbrev pub decreases-loop-word : goal.decreases-loop-word
decreases-loop-word l = length l.words
