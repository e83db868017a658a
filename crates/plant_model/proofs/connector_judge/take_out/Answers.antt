use Rattle.std.proofs.Common.{◌/◌, ◌%◌, not, ◌∙◌, ⊎_elim, ap, arith}
use Rattle.std.proofs.lemmas.Bool.{cases_eq}
use Rattle.plant_model.proofs.FirstFault.{both}
use Rattle.plant_model.proofs.WordSets.{bit-without}
use Rattle.plant_model.proofs.connector_judge.take_out.Goals as goal

pub loop-place-preserved : goal.loop-place-preserved
loop-place-preserved c =
    let place = c.loop-place.place in
    let set = c.args.set.now in
    let before = c.loop-place.invariant in
    let set_word = c.set_word.ensures in (
      λ n below. ⊎_elim
          (λ at.
          set_word.here n at ∙ bit-without c.word.result c.word-in-loop-place.result (n % 64) (omega arith) (omega arith) ∙
          both (c.word.ensures n at ∙ before.1 n (omega (arith, at))) (ap not (c.word-in-loop-place.ensures n at)))
          (λ apart. set_word.others n apart ∙ before.0 n (omega (arith, below, apart)))
          (cases_eq (n / 64) place),
      λ n past. set_word.others n (λ at. absurd (omega (arith, past, at))) ∙ before.1 n (omega (arith, past)),
    )
