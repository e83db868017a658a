-- The names that are left stand after those so far.
use Rattle.std.proofs.Common.{◌≡◌, ◌-◌, ◌++◌, drop}
use Rattle.shown_fault.specs.Lent.{lists_of}
use Rattle.shown_fault.specs.Missing.{more_names}
use Rattle.shown_fault.specs.declared.missing.TheConstants.{MAX_LISTED}
use Rattle.shown_fault.proofs.missing.more_names.Given as goal

abbrev pub invariant-loop-name : goal.invariant-loop-name
invariant-loop-name l = l.text.items ++ more_names l.left (lists_of (drop l.name-index l.names)) ≡ more_names (MAX_LISTED - 1) (lists_of l.names)
