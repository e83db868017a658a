use Rattle.std.proofs.Common.{◌≡◌, ◌+◌, ◌∙◌, ap, sym, subst, arith, rules}
use Rattle.std.specs.Prelude.{IsTrue}
use Rattle.petri_atom.specs.Expression.{has_variables_below, negation, operation, tree_of}
use Rattle.petri_atom.specs.StraightCode.{IsMadeAfter, IsOperandAfter, temporaries}
use Rattle.petri_atom.specs.declared.code.Operand.TheVariants.{Cell}
use Rattle.petri_atom.proofs.Straight.{pushed, left-first, right-first, made-not, made-of-two, below-more, enough-beside, enough-less}
use Rattle.petri_atom.proofs.coding.+push.Goals as goal

pub last_step-returns-in_ok-operand-in-Not-clause-left :
    goal.last_step-returns-in_ok-operand-in-Not-clause-left
last_step-returns-in_ok-operand-in-Not-clause-left t c none =
    let tree : tree_of c.args.expression.now ≡ negation (tree_of c.deref.result.now) =
    ap tree_of c.in-Not.is ∙ ap (λ e. negation (tree_of e)) (sym c.deref.ensures) in
    let known = subst (λ e. IsTrue (has_variables_below c.args.free e)) tree c.requires.known in
    (c.of-in-Not.ensures.cells c.args.free c.requires.some (c.in_ok-operand-in-Not.ensures.plain none c.args.free known) tt).0

pub last_step-returns-in_ok-operand-in-Not-clause-right :
    goal.last_step-returns-in_ok-operand-in-Not-clause-right
last_step-returns-in_ok-operand-in-Not-clause-right t c none =
    let tree : tree_of c.args.expression.now ≡ negation (tree_of c.deref.result.now) =
    ap tree_of c.in-Not.is ∙ ap (λ e. negation (tree_of e)) (sym c.deref.ensures) in
    let known = subst (λ e. IsTrue (has_variables_below c.args.free e)) tree c.requires.known in
    (c.of-in-Not.ensures.cells c.args.free c.requires.some (c.in_ok-operand-in-Not.ensures.plain none c.args.free known) tt).1

pub last_step-returns-in_ok-operand-in-Not-clause-made :
    goal.last_step-returns-in_ok-operand-in-Not-clause-made
last_step-returns-in_ok-operand-in-Not-clause-made t c =
    let before = c.args.steps.now.items in
    let after = c.push_operand.new.steps.items in
    let step = c.of-in-Not.result in
    let tree : tree_of c.args.expression.now ≡ negation (tree_of c.deref.result.now) =
    ap tree_of c.in-Not.is ∙ ap (λ e. negation (tree_of e)) (sym c.deref.ensures) in
    subst (λ e. IsMadeAfter before after step e c.args.free) (sym tree)
    (made-not before after step c.in_ok-operand-in-Not.operand (tree_of c.deref.result.now) c.args.free c.in_ok-operand-in-Not.ensures.operand c.of-in-Not.ensures.made c.of-in-Not.ensures.cells)

pub last_step-returns-in_ok-left-in-Apply-clause-left :
    goal.last_step-returns-in_ok-left-in-Apply-clause-left
last_step-returns-in_ok-left-in-Apply-clause-left t c none =
    (c.of-in-Apply.ensures.cells c.args.free c.requires.some (c.in_ok-left-in-Apply.ensures.left none) (c.in_ok-left-in-Apply.ensures.right none)).0

pub last_step-returns-in_ok-left-in-Apply-clause-right :
    goal.last_step-returns-in_ok-left-in-Apply-clause-right
last_step-returns-in_ok-left-in-Apply-clause-right t c none =
    (c.of-in-Apply.ensures.cells c.args.free c.requires.some (c.in_ok-left-in-Apply.ensures.left none) (c.in_ok-left-in-Apply.ensures.right none)).1

pub last_step-returns-in_ok-left-in-Apply-clause-made :
    goal.last_step-returns-in_ok-left-in-Apply-clause-made
last_step-returns-in_ok-left-in-Apply-clause-made t c =
    let before = c.args.steps.now.items in
    let after = c.push_operands.new.steps.items in
    let step = c.of-in-Apply.result in
    let op = c.in-Apply.operator in
    let e = tree_of c.deref-in-Apply.result.now in
    let f = tree_of c.deref-in-Apply-2.result.now in
    let tree : tree_of c.args.expression.now ≡ operation op e f =
    ap tree_of c.in-Apply.is ∙ ap (λ x. operation op (tree_of x) (tree_of c.in-Apply.right.value)) (sym c.deref-in-Apply.ensures) ∙
    ap (λ x. operation op e (tree_of x)) (sym c.deref-in-Apply-2.ensures) in
    subst (λ x. IsMadeAfter before after step x c.args.free) (sym tree)
    (made-of-two before after step op c.in_ok-left-in-Apply.left c.in_ok-left-in-Apply.right e f c.args.free c.in_ok-left-in-Apply.ensures.operands c.of-in-Apply.ensures.made c.of-in-Apply.ensures.cells)

pub push_operand-returns-in_ok-push-in_default-clause-operand :
    goal.push_operand-returns-in_ok-push-in_default-clause-operand
push_operand-returns-in_ok-push-in_default-clause-operand t c =
    let before = c.args.steps.now.items in
    let tree = tree_of c.args.expression.now in
    let free = c.args.free in
    let step = c.in_ok-step-in_default.step in
    let made = c.in_ok-step-in_default.ensures in
    subst (λ after. IsOperandAfter before after (Cell free) tree free) (sym c.in_ok-push-in_default.ensures.items)
    (pushed before c.last_step.new.steps.items step tree free made.made made.to)

pub push_operands-push_operand-requires-then-temporaries :
    goal.push_operands-push_operand-requires-then-temporaries
push_operands-push_operand-requires-then-temporaries t c =
    let known = below-more c.args.free (c.args.free + 1) (omega arith) (tree_of c.args.left.now) c.requires.known_left in
    let room = enough-less (temporaries (tree_of c.args.left.now)) (temporaries (tree_of c.args.right.now)) (omega (arith, c.temporaries.ensures, c.temporaries-2.ensures, c.if-temporaries.true)) in
    (search rules, (search rules, (known, (omega arith, omega (arith, room, c.requires.room)))))

pub push_operands-push_operand-requires-else-temporaries-2 :
    goal.push_operands-push_operand-requires-else-temporaries-2
push_operands-push_operand-requires-else-temporaries-2 t c =
    let known = below-more c.args.free (c.args.free + 1) (omega arith) (tree_of c.args.right.now) c.requires.known_right in
    let room = enough-beside (temporaries (tree_of c.args.left.now)) (temporaries (tree_of c.args.right.now)) (omega (arith, c.temporaries.ensures, c.temporaries-2.ensures, c.if-temporaries.false)) in
    (search rules, (search rules, (known, (omega arith, omega (arith, room, c.requires.room)))))

pub push_operands-returns-in_ok-first-clause-operands :
    goal.push_operands-returns-in_ok-first-clause-operands
push_operands-returns-in_ok-first-clause-operands t c =
    right-first c.args.steps.now.items c.push_operand.new.steps.items c.push_operand-then-temporaries.new.steps.items c.in_ok-first.first c.in_ok-second.second (tree_of c.args.left.now) (tree_of c.args.right.now) c.args.free c.in_ok-second.ensures.operand c.in_ok-first.ensures.operand (omega (arith, c.temporaries.ensures, c.temporaries-2.ensures, c.if-temporaries.true)) c.requires.known_left

pub push_operands-returns-in_ok-second-2-clause-operands :
    goal.push_operands-returns-in_ok-second-2-clause-operands
push_operands-returns-in_ok-second-2-clause-operands t c =
    left-first c.args.steps.now.items c.push_operand-else-temporaries.new.steps.items c.push_operand-else-temporaries-2.new.steps.items c.in_ok-first-2.first c.in_ok-second-2.second (tree_of c.args.left.now) (tree_of c.args.right.now) c.args.free c.in_ok-first-2.ensures.operand c.in_ok-second-2.ensures.operand (omega (arith, c.temporaries.ensures, c.temporaries-2.ensures, c.if-temporaries.false)) c.requires.known_right

pub push_operands-returns-in_ok-first-clause-left :
    goal.push_operands-returns-in_ok-first-clause-left
push_operands-returns-in_ok-first-clause-left t c none =
    c.in_ok-first.ensures.plain none c.args.free c.requires.known_left

pub push_operands-returns-in_ok-second-2-clause-right :
    goal.push_operands-returns-in_ok-second-2-clause-right
push_operands-returns-in_ok-second-2-clause-right t c none =
    c.in_ok-second-2.ensures.plain none c.args.free c.requires.known_right
