use Rattle.std.proofs.Common.{◌*◌, ◌%◌, ◌^◌, ◌∙◌, ap, sym, arith, eqb, ⊎_elim, w64}
use Rattle.std.specs.Int.{bit_not}
use Rattle.std.proofs.lemmas.Bool.{cases_lt}
use Rattle.std.proofs.lemmas.Nat.{and_le_l}
use Rattle.std.proofs.lemmas.Nat.Bits.{bit_at_clear_other, bit_at_clear_same, bit_at_set_other, bit_at_set_same}
use Rattle.priority_filter.proofs.Words.{no-bit-past}
use Rattle.step_core.proofs.standing.with_bit.Goals as goal

pub returns-then-is_set-clause-here : goal.returns-then-is_set-clause-here
returns-then-is_set-clause-here c = ap (λ x. eqb x 1) (bit_at_set_same w64 c.args.word c.args.bit c.requires) ∙ sym c.if-is_set.true

pub returns-then-is_set-clause-others : goal.returns-then-is_set-clause-others
returns-then-is_set-clause-others c k other = ap (λ x. eqb x 1) (bit_at_set_other w64 c.args.word c.args.bit c.requires k other)

pub returns-else-is_set-clause-here : goal.returns-else-is_set-clause-here
returns-else-is_set-clause-here c = ap (λ x. eqb x 1) (bit_at_clear_same w64 c.args.word c.args.bit c.requires) ∙ sym c.if-is_set.false

pub returns-else-is_set-clause-others : goal.returns-else-is_set-clause-others
returns-else-is_set-clause-others c k other =
    ⊎_elim
    (λ low. ap (λ x. eqb x 1) (bit_at_clear_other w64 c.args.word c.args.bit c.requires k low other))
    (λ past.
    no-bit-past _ k (omega (arith, and_le_l c.args.word (bit_not w64 (1 * 2 ^ c.args.bit % 2 ^ 64)))) past ∙
    sym (no-bit-past c.args.word k (omega arith) past))
    (cases_lt k 64)
