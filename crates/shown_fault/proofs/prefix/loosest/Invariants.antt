-- The loosest level is one of those that are left.
use Rattle.std.proofs.Common.{◌≡◌, ◌-◌}
use Rattle.shown_fault.specs.Lent.{lists_of}
use Rattle.shown_fault.specs.Prefix.{loosest}
use Rattle.shown_fault.specs.declared.tokens.TheConstants.{LEVEL_COUNT}
use Rattle.shown_fault.proofs.prefix.loosest.Given as goal

abbrev pub invariant-loop-tried : goal.invariant-loop-tried
invariant-loop-tried l = loosest (LEVEL_COUNT - l.tried) l.tried (lists_of l.tokens) ≡ loosest (LEVEL_COUNT - l.level) l.level (lists_of l.tokens)
