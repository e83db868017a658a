use Rattle.std.proofs.Common.{◌≡◌, ◌∙◌, ◌≤◌, ◌<◌, ◌+◌, List, [], true, ap, refl, subst, sym, arith, length}
use Rattle.std.specs.Prelude.{IsTrue}
use Rattle.std.proofs.lemmas.Bool.{leb-true, ltb-true, and_parts, eqb-true}
use Rattle.petri_atom.specs.Expression.{tree_of, has_variables_below, word_count}
use Rattle.petri_atom.specs.StraightCode.{IsMadeAfter, are_within, first_temporary, is_small, row_length, temporaries}
use Rattle.petri_atom.specs.declared.code.Step.{Step}
use Rattle.petri_atom.proofs.Straight.{coded, first-behind, more-code, one-code, pushed, room-behind, row-few}
use Rattle.petri_atom.proofs.code.Code.of.Goals as goal
use Rattle.petri_atom.proofs.code.Code.of.Goals.{then-not-is_empty+in_ok-push, else-not-is_empty}

pub last_step-requires-clause-room : goal.last_step-requires-clause-room
last_step-requires-clause-room c =
    let tree = tree_of c.args.expression.now in
    let few : word_count tree ≤ 64 = leb-true (word_count tree) 64 (and_parts _ (has_variables_below 16 tree) c.requires).0 in
    let temporary : c.first_temporary-temporary.result ≡ first_temporary (is_small tree) =
    c.first_temporary-temporary.ensures ∙ ap first_temporary c.fits_small_row-is_small.ensures in
    omega (arith, temporary, room-behind tree few, row-few (is_small tree))

pub invariant_of-result-clause-within : goal.invariant_of-result-clause-within
invariant_of-result-clause-within c small =
    let tree = tree_of c.args.expression.now in
    let fits : is_small tree ≡ true = sym c.fits_small_row-is_small.ensures ∙ small in
    let free = c.first_temporary-temporary.result in
    let four : free ≡ 4 = c.first_temporary-temporary.ensures ∙ ap first_temporary small in
    let room : free + temporaries tree < 8 = omega (arith, four, ltb-true (4 + temporaries tree) 8 (and_parts (has_variables_below 4 tree) _ fits).1) in
    let last = c.in_ok-last.last in
    let added = c.last_step.new.steps in
    let made : IsMadeAfter [] added.items last tree free =
    subst (λ (before : List Step). IsMadeAfter before added.items last tree free) c.new-steps.ensures.items c.in_ok-last.ensures.made in
    elim c.if-not-is_empty.branch [
      | then-not-is_empty+in_ok-push w ↦ subst (λ (items : List Step). are_within 8 items ≡ true) (sym (ap (λ v. v.items) w.steps-is ∙ w.in_ok-push.ensures.items)) ((pushed [] added.items last tree free made c.in_ok-last.ensures.to).within 8 room refl)
      | else-not-is_empty w ↦ subst (λ (items : List Step). are_within 8 items ≡ true) (sym (ap (λ v. v.items) w.steps-is)) (made.within 8 room refl)
    ]

pub returns : goal.returns
returns c =
    let tree = tree_of c.args.expression.now in
    let small = c.fits_small_row-is_small.result in
    let fits : small ≡ is_small tree = c.fits_small_row-is_small.ensures in
    let words = and_parts _ (has_variables_below 16 tree) c.requires in
    let free = c.first_temporary-temporary.result in
    let temporary : free ≡ first_temporary small = c.first_temporary-temporary.ensures in
    let room : free + temporaries tree < row_length small =
    subst (λ s. free + temporaries tree < row_length s) (sym fits)
    (subst (λ k. k + temporaries tree < row_length (is_small tree)) (sym (temporary ∙ ap first_temporary fits)) (room-behind tree (leb-true (word_count tree) 64 words.0))) in
    let last = c.in_ok-last.last in
    let added = c.last_step.new.steps in
    let steps = c.if-not-is_empty.steps in
    let made : IsMadeAfter [] added.items last tree free =
    subst (λ (before : List Step). IsMadeAfter before added.items last tree free) c.new-steps.ensures.items c.in_ok-last.ensures.made in record {
      variables = subst (λ s. IsTrue (has_variables_below (first_temporary s) tree)) (sym fits) (first-behind tree words.1);
      value = λ row long.
          ap (λ k. coded steps.items last k row) (sym temporary) ∙
          elim c.if-not-is_empty.branch [
            | then-not-is_empty+in_ok-push w ↦ more-code added.items steps.items last tree free made c.in_ok-last.ensures.to (ap (λ v. v.items) w.steps-is ∙ w.in_ok-push.ensures.items) row (omega (arith, room, long))
            | else-not-is_empty w ↦
                let none : length added.items ≡ 0 = sym added.ok.0 ∙ eqb-true _ 0 (sym w.if-not-is_empty.ensures) in
                one-code steps.items last tree free (subst (λ (items : List Step). IsMadeAfter [] items last tree free) (sym (ap (λ v. v.items) w.steps-is)) made) (ap (λ v. length v.items) w.steps-is ∙ none) row (omega (arith, room, long))
          ];
    }
