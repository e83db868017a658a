use Rattle.std.proofs.Common.{◌∙◌, sym, arith}
use Rattle.image_inspection.specs.Verdicts.{bare_atom_fault}
use Rattle.image_inspection.proofs.Ranges.{fault-here, fault-later}
use Rattle.image_inspection.proofs.bare.slots_fault.Goals as goal

pub returns-in-Some : goal.returns-in-Some
returns-in-Some c =
    sym (c.loop-atom.invariant ∙ fault-here (bare_atom_fault c.args.cells.now) c.loop-atom.atom c.args.atoms c.in-Some.fault (omega arith) (sym c.bare_atom_fault.ensures ∙ c.in-Some.is))

pub loop-atom-preserved : goal.loop-atom-preserved
loop-atom-preserved c =
    c.loop-atom.invariant ∙ fault-later (bare_atom_fault c.args.cells.now) c.loop-atom.atom c.args.atoms (omega arith) (sym c.bare_atom_fault.ensures ∙ c.in_default.is)
