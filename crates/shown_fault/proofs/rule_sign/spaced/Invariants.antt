-- The words that are left stand after those so far.
use Rattle.std.proofs.Common.{◌≡◌, ◌++◌, length}
use Rattle.shown_fault.specs.RuleSign.{spaced}
use Rattle.shown_fault.proofs.rule_sign.spaced.Given as goal

abbrev pub invariant-loop-word : goal.invariant-loop-word
invariant-loop-word l = l.text.items ++ spaced l.words ≡ spaced l.initial.words

abbrev pub decreases-loop-word : goal.decreases-loop-word
decreases-loop-word l = length l.words
