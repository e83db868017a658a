-- The words that are left stand after those so far.
use Rattle.std.proofs.Common.{◌≡◌, ◌++◌, drop}
use Rattle.shown_fault.specs.Lent.{lists_of}
use Rattle.shown_fault.specs.Prefix.{plain_text}
use Rattle.shown_fault.proofs.prefix.plain_text.Given as goal

abbrev pub invariant-loop-token : goal.invariant-loop-token
invariant-loop-token l = l.text.items ++ plain_text (lists_of (drop l.token-index l.tokens)) ≡ plain_text (lists_of l.tokens)
