-- The words that are left stand after those so far.
use Rattle.std.proofs.Common.{◌≡◌, ◌++◌, drop}
use Rattle.shown_fault.specs.Lent.{lists_of}
use Rattle.shown_fault.specs.RuleSign.{spaced}
use Rattle.shown_fault.proofs.here.spaced_words.Given as goal

abbrev pub invariant-loop-word : goal.invariant-loop-word
invariant-loop-word l = l.text.items ++ spaced (lists_of (drop l.word-index l.words)) ≡ spaced (lists_of l.words)
