-- The atoms from this number on are left.
use Rattle.std.proofs.Common.{drop, map}
use Rattle.petri_atom.specs.Atom.{definition_of}
use Rattle.text_io.specs.Numbered.{numbered}
use Rattle.text_io.proofs.Leading.{Leads}
use Rattle.plant_drawing.specs.Outline.{drawn_box}
use Rattle.plant_drawing.proofs.outline.print_atoms.Given as goal

abbrev pub invariant-loop-number : goal.invariant-loop-number
invariant-loop-number g l =
    Leads (g.W.Write.contents l.initial.output) (g.W.Write.contents l.output)
    (numbered (drawn_box l.drawn) l.number (drop l.number (map definition_of l.atoms)))
    (numbered (drawn_box l.drawn) 0 (map definition_of l.atoms))
