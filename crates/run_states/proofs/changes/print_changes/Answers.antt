use Rattle.std.proofs.Common.{[], arith, subst, sym}
use Rattle.std.specs.Io.KnownBytes.{Appends}
use Rattle.std.specs.Option.{option_map_or}
use Rattle.petri_atom.specs.Atom.{definition_of}
use Rattle.plant_model.specs.System.{plant_of}
use Rattle.run_states.specs.Changes.{atom_changes, changes_to}
use Rattle.run_states.proofs.OfAtoms.{leads-atom}
use Rattle.run_states.proofs.changes.print_changes.Goals as goal

pub loop-number-preserved : goal.loop-number-preserved
loop-number-preserved g c =
    let i = c.loop-number.number in
    let atom = definition_of c.atom-item.result in
    let now = g.W.Write.contents c.loop-number.output in
    let next = g.W.Write.contents c.print_atom.new.output in
    let shown : Appends now next (changes_to c.args.before.now i atom c.state-new.result.now) =
    subst (λ found. Appends now next (option_map_or (λ old. atom_changes i atom old c.state-new.result.now) found [])) (sym c.state-old.ensures) c.in_ok-print_atom.ensures in
    leads-atom (plant_of c.args.system.now) c.atoms-atom-items.result.now i c.atom-item.result c.atoms-atom-items.ensures (omega arith) c.atom-item.is
    c.args.states.now c.state-new.result.now (g.W.Write.contents c.args.output.now) now next _
    c.state-new.ensures (changes_to c.args.before.now) c.loop-number.invariant shown
