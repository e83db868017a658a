use Rattle.std.proofs.Common.{◌∙◌, ap, sym}
use Rattle.petri_atom.specs.Expression.{tree_of}
use Rattle.blocked_text.specs.Variables.{sought, variables_in}
use Rattle.blocked_text.proofs.Seeking.{further, sought-further}
use Rattle.blocked_text.proofs.variables.+seek.Goals as goal

pub returns-in-Ok : goal.returns-in-Ok
returns-in-Ok g t c =
    let right = variables_in (tree_of c.in-Apply.right.value) in
    sym (ap (λ e. sought c.args.place (variables_in (tree_of e))) c.in-Apply.is
    ∙ sought-further c.args.place (variables_in (tree_of c.in-Apply.left.value)) right
    ∙ ap (λ e. further (sought c.args.place (variables_in (tree_of e))) right) (sym c.deref-in-Apply.ensures)
    ∙ ap (λ r. further r right) (sym c.seek-in-Apply.ensures ∙ c.in-Ok.is))

pub returns-in-Err : goal.returns-in-Err
returns-in-Err g t c =
    let right = variables_in (tree_of c.in-Apply.right.value) in
    c.seek-in-Err.ensures ∙ sym (ap (λ e. sought c.args.place (variables_in (tree_of e))) c.in-Apply.is
    ∙ sought-further c.args.place (variables_in (tree_of c.in-Apply.left.value)) right
    ∙ ap (λ e. further (sought c.args.place (variables_in (tree_of e))) right) (sym c.deref-in-Apply.ensures)
    ∙ ap (λ r. further r right) (sym c.seek-in-Apply.ensures ∙ c.in-Err.is)
    ∙ ap (λ e. sought c.in-Err.later (variables_in (tree_of e))) (sym c.deref-in-Err.ensures))
