-- The atoms from this number on are left.
use Rattle.std.proofs.Common.{drop}
use Rattle.plant_model.specs.System.{plant_of}
use Rattle.text_io.specs.Numbered.{numbered}
use Rattle.text_io.proofs.Leading.{Leads}
use Rattle.script_lines.specs.Answers.{name_if_in}
use Rattle.script_lines.proofs.answers.print_names.Given as goal

abbrev pub invariant-loop-number : goal.invariant-loop-number
invariant-loop-number g l =
    Leads (g.W.Write.contents l.initial.output) (g.W.Write.contents l.output)
    (numbered (name_if_in l.saved.atoms) l.number (drop l.number (plant_of l.system).atoms))
    (numbered (name_if_in l.saved.atoms) 0 (plant_of l.system).atoms)
