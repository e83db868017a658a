use Rattle.std.proofs.Common.{◌≡◌, ◌%◌, ◌^◌, ◌<◌, ◌∙◌, not, ℕ, inl, inr, ap, sym, true, false, eqb, arith, ⊎_elim, w64}
use Rattle.std.specs.Prelude.{bit_and}
use Rattle.std.specs.Int.{trailing_zeros}
use Rattle.std.specs.Int.Bits.{bit_xor}
use Rattle.std.proofs.lemmas.Bool.{cases_eq, eq-eqb, eqb-true, ne_eqb, not-false, or_cases, or_left, or_parts, or_right, true≢false}
use Rattle.std.proofs.lemmas.Nat.{and_comm}
use Rattle.priority_filter.specs.Members.{has_bit}
use Rattle.plant_model.proofs.BitsLeft.{lowest-below, lowest-set}
use Rattle.plant_model.proofs.WordSets.{no-common}
use Rattle.step_core.proofs.OwnBits.{no-difference, not-zero}
use Rattle.step_core.proofs.standing.Rivalry.look.Goals as goal

-- a word is 0 where it is not told that it is another
is-zero : (word : ℕ) → not (eqb word 0) ≡ false → word ≡ 0
is-zero word none = eqb-true word 0 (not-false (eqb word 0) none)

-- where a word has no bit in common with what differs, its bits are as before
undiffering : (before now word k : ℕ) → bit_and (bit_xor before now) word ≡ 0 → has_bit word k ≡ true → has_bit now k ≡ has_bit before k
undiffering before now word k none set = sym (no-difference before now k (no-common word (bit_xor before now) k (and_comm word (bit_xor before now) ∙ none) set))

pub returns-clause-rival : goal.returns-clause-rival
returns-clause-rival c =
    let was = c.args.self.now.has_rival in
    let now = c.args.now in (
      λ yes_. ⊎_elim (λ before. inl before)
          (λ more.
          let some : 0 < now = ⊎_elim (λ zero. absurd (true≢false (sym more ∙ ap not (eq-eqb now 0 zero)))) (λ other. omega (arith, other)) (cases_eq now 0) in
          let small : now < 2 ^ 64 = omega arith in
          inr (trailing_zeros w64 now, lowest-below now some small, lowest-set now some small))
          (or_cases was (not (eqb now 0)) yes_),
      λ either. ⊎_elim
          (λ before. or_left was (not (eqb now 0)) before)
          (λ bit. or_right was (not (eqb now 0)) (ap not (ne_eqb now 0 (λ zero. omega (arith, not-zero now bit.0 bit.2, zero)))))
          either,
    )

pub returns-clause-was_watched : goal.returns-clause-was_watched
returns-clause-was_watched c still = (or_parts c.args.self.now.is_watched_new _ still).0

pub returns-clause-watched : goal.returns-clause-watched
returns-clause-watched c still n here seen =
    undiffering c.args.before c.args.now c.word.result (n % 64) (is-zero (bit_and (bit_xor c.args.before c.args.now) c.word.result) (or_parts c.args.self.now.is_watched_new _ still).1) (c.word.ensures n here ∙ seen)

pub returns-clause-was_head : goal.returns-clause-was_head
returns-clause-was_head c still = (or_parts c.args.self.now.is_head_new _ still).0

pub returns-clause-head : goal.returns-clause-head
returns-clause-head c still n here seen =
    undiffering c.args.before c.args.now c.word-2.result (n % 64) (is-zero (bit_and (bit_xor c.args.before c.args.now) c.word-2.result) (or_parts c.args.self.now.is_head_new _ still).1) (c.word-2.ensures n here ∙ seen)
