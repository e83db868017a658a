use Rattle.std.proofs.Common.{◌≡◌, ◌∙◌, ◌-◌, ◌*◌, ◌%◌, ◌^◌, ◌≤◌, ℕ, ap, sym, eqb, nat_lt, arith, ⊎_elim}
use Rattle.std.proofs.Math.Nat.{pow-le-pow_right}
use Rattle.std.proofs.lemmas.Bool.{cases_lt, le-ltb, lt-ltb}
use Rattle.std.proofs.lemmas.Nat.Bits.{bit_at_ones, bit_at_ones_above}
use Rattle.priority_filter.specs.Members.{has_bit}
use Rattle.step_core.proofs.choices.all_below.Goals as goal

-- the number whose lowest bits are set
ones-below : (count k : ℕ) → has_bit (2 ^ count - 1) k ≡ nat_lt k count
ones-below count k =
    ⊎_elim
    (λ below. ap (λ x. eqb x 1) (bit_at_ones count k below) ∙ sym (lt-ltb k count below))
    (λ past. ap (λ x. eqb x 1) (bit_at_ones_above count k past) ∙ sym (le-ltb k count past))
    (cases_lt k count)

pub returns-then-count-lt64 : goal.returns-then-count-lt64
returns-then-count-lt64 c k =
    let base : 1 ≤ 2 = omega arith in
    let few : c.args.count ≤ 63 = omega (arith, c.if-count-lt64.true) in
    let small : 2 ^ c.args.count ≤ 2 ^ 63 = pow-le-pow_right base few in
    let same : 1 * 2 ^ c.args.count % 2 ^ 64 - 1 ≡ 2 ^ c.args.count - 1 = omega (arith, small) in
    ap (λ word. has_bit word k) same ∙ ones-below c.args.count k

pub returns-else-count-lt64 : goal.returns-else-count-lt64
returns-else-count-lt64 c k =
    let all : 64 ≡ c.args.count = omega (arith, c.if-count-lt64.false, c.requires) in
    ones-below 64 k ∙ ap (nat_lt k) all
