-- The level is none too deep.
use Rattle.std.proofs.Common.{length, ◌≤◌}
use Rattle.connector_tree.specs.declared.tree.TheConstants.{MAX_DEPTH}
use Rattle.plant_text.proofs.marks.from_bracket_past_the_limit.Given as goal

abbrev pub invariant-loop-word : goal.invariant-loop-word
invariant-loop-word l = l.level ≤ MAX_DEPTH

abbrev pub decreases-loop-word : goal.decreases-loop-word
decreases-loop-word l = length l.words
