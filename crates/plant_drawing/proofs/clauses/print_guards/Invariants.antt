-- The writer took each guard clause so far.
use Rattle.std.proofs.Common.{map, take}
use Rattle.std.specs.Prelude.{flat_map}
use Rattle.std.specs.Io.KnownBytes.{Appends}
use Rattle.petri_atom.specs.Atom.{definition_of}
use Rattle.petri_atom.specs.Expression.{tree_of}
use Rattle.connector_tree.specs.Tree as connectors
use Rattle.plant_drawing.specs.Connector.{guard_line}
use Rattle.plant_drawing.proofs.clauses.print_guards.Given as goal

abbrev pub invariant-loop-guard : goal.invariant-loop-guard
invariant-loop-guard g l =
    Appends (g.W.Write.contents l.initial.output) (g.W.Write.contents l.output)
    (flat_map (guard_line (map definition_of l.exports.atoms.now) (connectors.leaves (connectors.tree_of l.exports.connector.now))) (map tree_of (take l.guard-index l.guards)))
