use Rattle.std.proofs.Common.{◌≡◌, ◌∙◌, ap, sym}
use Rattle.connector_tree.specs.Tree.{tree_of, tree_in, leaves}
use Rattle.part_text.specs.Sought.{sought, found}
use Rattle.part_text.specs.declared.leaf.Sought.TheVariants.{Found, After}
use Rattle.part_text.proofs.Seeking.{found-entry}
use Rattle.part_text.proofs.leaf.leaf_at.Goals as goal

pub returns-in-Found : goal.returns-in-Found
returns-in-Found c =
    let printed : sought c.args.number (leaves (tree_of c.args.connector.now)) ≡ Found c.in-Found.port =
    ap (λ children. sought c.args.number (leaves (tree_in children))) (sym c.deref.ensures.value) ∙ sym c.seek.ensures ∙ c.in-Found.is in
    sym (sym (found-entry c.args.number (leaves (tree_of c.args.connector.now))) ∙ ap found printed)

pub returns-in-After : goal.returns-in-After
returns-in-After c =
    let printed : sought c.args.number (leaves (tree_of c.args.connector.now)) ≡ After c.in-After.field-0 =
    ap (λ children. sought c.args.number (leaves (tree_in children))) (sym c.deref.ensures.value) ∙ sym c.seek.ensures ∙ c.in-After.is in
    sym (sym (found-entry c.args.number (leaves (tree_of c.args.connector.now))) ∙ ap found printed)
