use Rattle.std.proofs.Common.{◌∙◌, map}
use Rattle.petri_atom.specs.Atom.{definition_of}
use Rattle.petri_atom.specs.Expression.{tree_of}
use Rattle.connector_tree.specs.Tree as connectors
use Rattle.blocked_text.specs.Reason.{is_zero_clause}
use Rattle.blocked_text.proofs.Finding.{position_from-map}
use Rattle.blocked_text.proofs.clauses.first_zero.Goals as goal

pub returns : goal.returns
returns c =
    let values = c.args.values.now in
    c.zero_among.ensures ∙
    position_from-map (is_zero_clause (map definition_of values.atoms.now) values.states.now (connectors.leaves (connectors.tree_of values.connector.now)) c.args.mask) tree_of 0 c.args.clauses.now
