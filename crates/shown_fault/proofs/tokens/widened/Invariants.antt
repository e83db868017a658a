-- The bytes that are left stand after those so far.
use Rattle.std.proofs.Common.{◌≡◌, ◌++◌, length}
use Rattle.shown_fault.specs.Tokens.{widened}
use Rattle.shown_fault.specs.declared.tokens.Class.TheVariants.{Name}
use Rattle.shown_fault.proofs.tokens.widened.Given as goal

abbrev pub invariant-loop-byte : goal.invariant-loop-byte
invariant-loop-byte l = l.wide.items ++ widened l.before l.rest ≡ widened Name l.text

abbrev pub decreases-loop-byte : goal.decreases-loop-byte
decreases-loop-byte l = length l.rest
