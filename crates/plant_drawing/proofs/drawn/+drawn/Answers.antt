use Rattle.std.proofs.Common.{◌+◌, ◌∙◌, ap, sym, drop, arith, ◌||◌}
use Rattle.std.specs.List.{list_any}
use Rattle.connector_tree.specs.Tree.{tree_in, leaves}
use Rattle.plant_drawing.specs.Drawn.{is_of_drawn}
use Rattle.plant_drawing.proofs.Asking.{any-child}
use Rattle.plant_drawing.proofs.drawn.+drawn.Goals as goal

pub has_drawn-loop-child-preserved : goal.has_drawn-loop-child-preserved
has_drawn-loop-child-preserved t c =
    let test = is_of_drawn c.args.drawn in
    let i = c.loop-child.child-index in
    let children = c.args.children.now in
    let rest = list_any test (leaves (tree_in (drop (i + 1) children))) in
    sym (any-child test children i c.child-item.result (omega arith) c.child-item.is ∙ ap (λ own. own || rest) (sym c.if-has_drawn_in.ensures)) ∙ c.loop-child.invariant
