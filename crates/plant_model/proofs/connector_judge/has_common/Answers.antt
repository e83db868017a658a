use Rattle.std.proofs.Common.{◌≡◌, ◌%◌, ◌∙◌, ⊎_elim, sym, arith}
use Rattle.std.specs.Prelude.{bit_and}
use Rattle.std.proofs.lemmas.Bool.{cases_eq}
use Rattle.plant_model.proofs.WordSets.{no-common}
use Rattle.plant_model.proofs.connector_judge.has_common.Goals as goal

pub loop-place-preserved : goal.loop-place-preserved
loop-place-preserved c n below inside =
    ⊎_elim
    (λ at.
    let none : bit_and c.word.result c.word-in-loop-place.result ≡ 0 = omega (arith, c.if-word-ne0.false) in
    sym (c.word-in-loop-place.ensures n at) ∙ no-common c.word.result c.word-in-loop-place.result (n % 64) none (c.word.ensures n at ∙ inside))
    (λ apart. c.loop-place.invariant n (omega (arith, below, apart)) inside)
    (cases_eq _ c.loop-place.place)
