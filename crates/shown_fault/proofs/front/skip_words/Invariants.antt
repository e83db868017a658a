-- As many words are gone as were taken.
use Rattle.std.proofs.Common.{◌≡◌, drop}
use Rattle.shown_fault.proofs.front.skip_words.Given as goal

abbrev pub invariant-loop-taken : goal.invariant-loop-taken
invariant-loop-taken l = l.words ≡ drop l._taken l.initial.words
