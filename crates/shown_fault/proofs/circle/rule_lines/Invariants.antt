-- The rules that are left stand after those so far.
use Rattle.std.proofs.Common.{◌≡◌, ◌+◌, ◌++◌, drop}
use Rattle.shown_fault.specs.Lent.{lists_of}
use Rattle.shown_fault.specs.Circle.{rule_lines}
use Rattle.shown_fault.specs.declared.circle.TheConstants.{MAX_SHOWN_RULES}
use Rattle.shown_fault.proofs.circle.rule_lines.Given as goal

abbrev pub invariant-loop-index : goal.invariant-loop-index
invariant-loop-index l = l.text.items ++ rule_lines l.left (l.index + 1) (lists_of l.above) (lists_of l.below) (lists_of (drop l.index l.lines)) ≡ rule_lines MAX_SHOWN_RULES 1 (lists_of l.above) (lists_of l.below) (lists_of l.lines)
