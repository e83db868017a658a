use Rattle.std.proofs.Common.{◌≡◌, ◌<◌, ◌*◌, ◌/◌, ◌%◌, ◌^◌, ℕ, ap, ◌∙◌, arith, eqb, ⊎_elim, w64}
use Rattle.std.specs.Prelude.{bit_and}
use Rattle.std.specs.Int.{bit_not}
use Rattle.std.proofs.lemmas.Bool.{cases_eq}
use Rattle.std.proofs.lemmas.Nat.Bits.{bit_at_clear_same, bit_at_clear_other}
use Rattle.priority_filter.specs.Members.{has_bit}
use Rattle.step_core.proofs.opening.take_out.Goals as goal

pub returns-clause-here : goal.returns-clause-here
returns-clause-here c =
    let number : ℕ = c.args.number in
    let bit : ℕ = c.from-bit.result % 64 in
    let word : ℕ = c.word-word.result in
    let less : ℕ = bit_and word (bit_not w64 (1 * 2 ^ bit % 2 ^ 64)) in
    let its : number % 64 ≡ bit = omega (arith, c.from-bit.ensures) in
    let low : bit < 64 = omega arith in
    c.set_word.ensures.here number (omega (arith, c.from-place.ensures)) ∙
    ap (has_bit less) its ∙ ap (λ x. eqb x 1) (bit_at_clear_same w64 word bit low)

pub returns-clause-others : goal.returns-clause-others
returns-clause-others c n other =
    let bit : ℕ = c.from-bit.result % 64 in
    let word : ℕ = c.word-word.result in
    let low : bit < 64 = omega arith in
    ⊎_elim
    (λ same. c.set_word.ensures.here n same ∙
    ap (λ x. eqb x 1) (bit_at_clear_other w64 word bit low (n % 64) (omega arith) (λ its. other (omega (arith, same, its, c.from-place.ensures, c.from-bit.ensures)))) ∙
    c.word-word.ensures n same)
    (λ apart. c.set_word.ensures.others n apart)
    (cases_eq (n / 64) (c.from-place.result / 64))
