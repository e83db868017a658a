use Rattle.std.proofs.Common.{refl, ap, map}
use Rattle.std.specs.Prelude.{slice_get}
use Rattle.petri_atom.specs.Atom.{definition_of}
use Rattle.petri_atom.specs.Expression.{tree_of}
use Rattle.connector_tree.specs.Tree.{leaves}
use Rattle.plant_model.specs.Exports.{value_at}
use Rattle.plant_model.specs.Rules.{is_same_export}
use Rattle.plant_model.specs.Wire.{wire_of}
use Rattle.part_text.specs.Export.{export_name}
use Rattle.blocked_text.specs.Zero.{zero_text}
use Rattle.blocked_text.proofs.Entries.{made-at, made-past, printed-entry, printed-no-entry}
use Rattle.blocked_text.proofs.reason_text.print_clause_of.Goals as goal

pub returns-in-Some : goal.returns-in-Some
returns-in-Some g c =
    let atoms = map definition_of c.args.atoms.now in
    let wire = wire_of c.args.wire.now in
    let found = c.in-Some.ensures.lookup in
    printed-entry (zero_text is_same_export (export_name atoms (leaves wire.connector)) (value_at atoms c.args.states.now (leaves wire.connector))) (slice_get wire.guards c.args.clause)
    (tree_of c.in-Some.guard.now) c.print_zero.result (g.W.Write.contents c.args.output.now) (g.W.Write.contents c.print_zero.new.output)
    (made-at tree_of c.deref.result.now wire.guards (ap (map tree_of) c.deref.ensures.value) c.args.clause c.args.clause refl c.in-Some.guard.now found.3.0 found.1) c.print_zero.ensures

pub returns-in-None : goal.returns-in-None
returns-in-None g c =
    let atoms = map definition_of c.args.atoms.now in
    let wire = wire_of c.args.wire.now in
    printed-no-entry (zero_text is_same_export (export_name atoms (leaves wire.connector)) (value_at atoms c.args.states.now (leaves wire.connector))) (slice_get wire.guards c.args.clause)
    (g.W.Write.contents c.args.output.now)
    (made-past tree_of c.deref.result.now wire.guards (ap (map tree_of) c.deref.ensures.value) c.args.clause c.args.clause refl c.in-None.ensures.lookup.3)
