use Rattle.std.proofs.Common.{◌∷◌, [], sym, subst, IfOk}
use Rattle.petri_atom.specs.Expression.{tree_of}
use Rattle.part_text.specs.Expression.{operator_word}
use Rattle.plant_drawing.specs.Wrapped.{Wraps, expression_words}
use Rattle.plant_drawing.proofs.Breaking.{wraps-last, wraps-then}
use Rattle.plant_drawing.proofs.wrapping.+print_expression_words.Goals as goal

pub returns-in_ok-between-in-Apply : goal.returns-in_ok-between-in-Apply
returns-in_ok-between-in-Apply g t c =
    let words = expression_words (g.N.Names.name_of c.args.names.now) in
    let left = c.args.left in
    let now = c.in_ok-now-in-Apply.now in
    let between = c.in_ok-between-in-Apply.between in
    let operator = operator_word c.in-Apply.operator in
    let first = words (tree_of c.in-Apply.first.value) in
    let second = words (tree_of c.in-Apply.second.value) in
    let result = c.print_expression_words-in-Apply-2.result in
    let start = g.W.Write.contents c.args.output.now in
    let begun = g.W.Write.contents c.print_word-in-Apply.new.output in
    let printed = g.W.Write.contents c.print_expression_words-in-Apply.new.output in
    let after = g.W.Write.contents c.print_expression_words-in-Apply-2.new.output in
    let one : Wraps left (operator ∷ []) start begun now = subst (λ word. Wraps left (word ∷ []) start begun now) c.operator_word.ensures c.in_ok-now-in-Apply.ensures in
    let two : Wraps now first begun printed between = subst (λ e. Wraps now (words (tree_of e)) begun printed between) c.deref-in-Apply.ensures c.in_ok-between-in-Apply.ensures in
    let three : IfOk result (Wraps between second printed after) =
    subst (λ e. IfOk result (Wraps between (words (tree_of e)) printed after)) c.deref-in-Apply-2.ensures c.print_expression_words-in-Apply-2.ensures in
    subst (λ e. IfOk result (Wraps left (words (tree_of e)) start after)) (sym c.in-Apply.is)
    (wraps-last left between result (operator ∷ first) second start printed after (wraps-then left now between (operator ∷ []) first start begun printed one two) three)
