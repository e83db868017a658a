-- The words that are left are as many expressions as are wanted still, if all are one.
use Rattle.std.proofs.Common.{◌≡◌, ◌+◌, ◌≤◌, drop}
use Rattle.petri_atom.specs.declared.parts.TheConstants.{MAX_WORDS}
use Rattle.shown_fault.specs.Lent.{lists_of}
use Rattle.shown_fault.specs.Prefix.{is_exact}
use Rattle.shown_fault.proofs.prefix.is_exact.Given as goal

abbrev pub invariant-loop-token : goal.invariant-loop-token
invariant-loop-token l = (is_exact l.wanted (lists_of (drop l.token-index l.tokens)) ≡ is_exact 1 (lists_of l.tokens)) × (l.wanted ≤ MAX_WORDS + 1)
