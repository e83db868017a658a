use Rattle.std.proofs.Common.{◌/◌, ◌%◌, ◌∙◌, ⊎_elim, arith}
use Rattle.std.proofs.lemmas.Bool.{cases_eq}
use Rattle.priority_filter.proofs.Words.{bit-and}
use Rattle.plant_model.proofs.FirstFault.{both}
use Rattle.plant_model.proofs.ranks.keep_above.Goals as goal

pub loop-place-preserved : goal.loop-place-preserved
loop-place-preserved c =
    let place = c.loop-place.place in
    let before = c.loop-place.invariant in
    let written = c.set_word.ensures in (
      λ m below. ⊎_elim
          (λ at.
          written.here m at ∙ bit-and c.word.result c.above_word.result (m % 64) ∙ both (c.word.ensures m at ∙ before.1 m (omega (arith, at))) (c.above_word.ensures m at))
          (λ apart. written.others m apart ∙ before.0 m (omega (arith, below, apart)))
          (cases_eq (m / 64) place),
      λ m past. written.others m (λ at. absurd (omega (arith, past, at))) ∙ before.1 m (omega (arith, past)),
    )
