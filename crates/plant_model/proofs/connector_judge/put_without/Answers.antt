use Rattle.std.proofs.Common.{◌/◌, ◌%◌, ◌∙◌, not, ⊎_elim, ap, arith}
use Rattle.std.proofs.lemmas.Bool.{cases_eq}
use Rattle.plant_model.specs.ConnectorRows.{is_in_row}
use Rattle.plant_model.proofs.WordSets.{bit-anew, bit-stays}
use Rattle.plant_model.proofs.connector_judge.put_without.Goals as goal

pub loop-place-preserved : goal.loop-place-preserved
loop-place-preserved c =
    let place = c.loop-place.place in
    let before = c.loop-place.invariant in
    let written = c.set_word.ensures in
    let own = c.word-own in
    let on = c.word_on in
    let old = c.word in
    let lent = c.deref.ensures.value in (
      λ n its below none. ⊎_elim
          (λ at.
          written.here n at ∙ bit-anew old.result own.result on.result (n % 64) (omega arith) (omega arith) (omega arith) (own.ensures n at ∙ its) ∙
          ap not (on.ensures.none n at (λ j set. ap (λ rows. is_in_row rows n j) lent ∙ none j set)))
          (λ apart. written.others n apart ∙ before.0 n its (omega (arith, below, apart)) none)
          (cases_eq (n / 64) place),
      λ n j its below set inside. ⊎_elim
          (λ at.
          written.here n at ∙ bit-anew old.result own.result on.result (n % 64) (omega arith) (omega arith) (omega arith) (own.ensures n at ∙ its) ∙
          ap not (on.ensures.one n j at set (ap (λ rows. is_in_row rows n j) lent ∙ inside)))
          (λ apart. written.others n apart ∙ before.1 n j its (omega (arith, below, apart)) set inside)
          (cases_eq (n / 64) place),
      λ n others. ⊎_elim
          (λ at.
          written.here n at ∙ bit-stays old.result own.result on.result (n % 64) (omega arith) (omega arith) (omega arith) (own.ensures n at ∙ others) ∙
          old.ensures n at ∙ before.2 n others)
          (λ apart. written.others n apart ∙ before.2 n others)
          (cases_eq (n / 64) place),
    )
