-- The atoms from this number on are left.
use Rattle.std.proofs.Common.{drop, map}
use Rattle.petri_atom.specs.Atom.{definition_of}
use Rattle.text_io.specs.Numbered.{numbered}
use Rattle.text_io.proofs.Leading.{Leads}
use Rattle.run_states.specs.Declarations.{module_lines}
use Rattle.run_states.proofs.declarations.print_modules.Given as goal

abbrev pub invariant-loop-number : goal.invariant-loop-number
invariant-loop-number g l =
    Leads (g.W.Write.contents l.initial.output) (g.W.Write.contents l.output)
    (numbered module_lines l.number (drop l.number (map definition_of l.atoms)))
    (numbered module_lines 0 (map definition_of l.atoms))
