-- The interaction is one of the lines that are left.
use Rattle.std.proofs.Common.{◌≡◌, drop}
use Rattle.shown_fault.specs.Lent.{lists_of}
use Rattle.shown_fault.specs.Interaction.{interaction_in}
use Rattle.shown_fault.proofs.interaction.interaction_in.Given as goal

abbrev pub invariant-loop-line : goal.invariant-loop-line
invariant-loop-line l = interaction_in (lists_of l.atoms.names.now) l.left (lists_of (drop l.line-index l.lines)) ≡ interaction_in (lists_of l.atoms.names.now) l.number (lists_of l.lines)
