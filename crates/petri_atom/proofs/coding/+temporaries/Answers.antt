use Rattle.std.proofs.Common.{ap, arith}
use Rattle.petri_atom.specs.Expression.{tree_of, word_count}
use Rattle.petri_atom.proofs.Straight.{temporaries-few}
use Rattle.petri_atom.proofs.coding.+temporaries.Goals as goal

pub overflow_add-result : goal.overflow_add-result
overflow_add-result t c =
    omega (arith, c.temporaries-left.ensures, temporaries-few (tree_of c.deref-in-Apply.result.now), c.requires, ap (λ e. word_count (tree_of e)) c.in-Apply.is, ap (λ e. word_count (tree_of e)) c.deref-in-Apply.ensures)
