use Rattle.std.proofs.Common.{◌∙◌, ap, sym, List}
use Rattle.std.proofs.lemmas.Result.{err_from_is_err_and}
use Rattle.petri_atom.specs.Definition.{AtomDefinition}
use Rattle.connector_lines.specs.Trees.{tree_in}
use Rattle.plant_text.specs.Fault.{of_tree}
use Rattle.plant_text.specs.Names.{port_named}
use Rattle.plant_text.specs.Rows.{found_tree}
use Rattle.plant_text.proofs.draft.PlantDraft.read_tree.Goals as goal

pub returns-in_err-read_tree-clause-fault : goal.returns-in_err-read_tree-clause-fault
returns-in_err-read_tree-clause-fault c =
    let p = err_from_is_err_and c.from_residual.result c.from_residual.ensures.1 in
    rw (p.1, p.2) (λ other.
    ap (λ (atoms : List AtomDefinition). found_tree (tree_in (port_named atoms) c.args.words.now)) (sym c.table.ensures) ∙
    ap found_tree (c.in_err-read_tree.ensures.fault (λ is. other (ap of_tree is))))

pub returns-clause-tree : goal.returns-clause-tree
returns-clause-tree c =
    ap (λ (atoms : List AtomDefinition). found_tree (tree_in (port_named atoms) c.args.words.now)) (sym c.table.ensures) ∙
    ap found_tree c.in_ok-read_tree.ensures.tree
