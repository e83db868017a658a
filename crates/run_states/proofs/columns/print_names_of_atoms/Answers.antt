use Rattle.std.proofs.Common.{◌<◌, arith, length, map}
use Rattle.petri_atom.specs.Atom.{definition_of}
use Rattle.run_states.specs.Columns.{atom_names}
use Rattle.run_text.proofs.Listing.{leads-item, mapped-here, mapped-within}
use Rattle.run_states.proofs.columns.print_names_of_atoms.Goals as goal

pub loop-atom-preserved : goal.loop-atom-preserved
loop-atom-preserved g c =
    let atoms = c.args.atoms.now in
    let i = c.loop-atom.atom-index in
    let atom = c.atom-item.result in
    let within : i < length atoms = omega arith in
    leads-item atom_names (map definition_of atoms) i (definition_of atom)
    (g.W.Write.contents c.args.output.now) (g.W.Write.contents c.loop-atom.output) (g.W.Write.contents c.print_atom_names.new.output) _
    (mapped-within definition_of atoms i atom within c.atom-item.is) (mapped-here definition_of atoms i atom within c.atom-item.is) c.loop-atom.invariant c.in_ok-print_atom_names.ensures
