use Rattle.std.proofs.Common.{◌≡◌, ◌%◌, false, sym, ◌∙◌, ap, arith, eqb}
use Rattle.std.specs.Int.{w16}
use Rattle.std.proofs.lemmas.Bool.{or_parts, ne_eqb, eq-eqb, both_ways}
use Rattle.petri_atom.proofs.Sets.{has-set}
use Rattle.petri_atom.proofs.behind.Written.add.Goals as goal

pub returns-clause-kept : goal.returns-clause-kept
returns-clause-kept c v none =
    let place = c.from.result % 16 in
    (or_parts _ _ (sym (has-set w16 c.args.self.now.word place (v % 16) (omega arith)) ∙ none)).0

pub returns-clause-added : goal.returns-clause-added
returns-clause-added c v none =
    let place = c.from.result % 16 in
    let other : eqb (v % 16) place ≡ false = (or_parts _ _ (sym (has-set w16 c.args.self.now.word place (v % 16) (omega arith)) ∙ none)).1 in
    ne_eqb c.args.variable v (λ same. both_ways _ other (eq-eqb (v % 16) place (ap (λ x. x % 16) (sym same ∙ sym c.from.ensures))))
