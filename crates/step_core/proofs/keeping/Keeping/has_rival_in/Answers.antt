use Rattle.std.proofs.Common.{◌≡◌, ◌+◌, ◌*◌, ◌/◌, ◌%◌, ◌<◌, ◌^◌, ◌==◌, ◌∙◌, ℕ, ap, sym, get_or, arith, ⊎_elim, w64}
use Rattle.std.specs.Prelude.{bit_and, slice_get}
use Rattle.std.specs.FinSet.{contains}
use Rattle.std.specs.Int.{trailing_zeros}
use Rattle.std.proofs.lemmas.Bool.{and_from, and_parts, cases_Bool, cases_eq, eq-eqb, eqb-true, false≢true}
use Rattle.std.proofs.lemmas.Nat.{and_le_l}
use Rattle.std.proofs.lemmas.Option.{same_Some, slice_get-get_or, slice_get_within}
use Rattle.priority_filter.specs.Members.{has_bit}
use Rattle.priority_filter.proofs.Words.{bit-and}
use Rattle.plant_model.specs.Ranks.{is_in_part}
use Rattle.plant_model.specs.declared.ranks.Part.{Part}
use Rattle.step_core.proofs.AnyOf.{any-at, any-found}
use Rattle.plant_model.proofs.BitsLeft.{lowest-below, lowest-set, no-bit}
use Rattle.step_core.proofs.keeping.Keeping.has_rival_in.Goals as goal

pub loop-part-init : goal.loop-part-init
loop-part-init c k m p below at inside = absurd (omega (arith, below))

abbrev no_part : Part
no_part = record { place = 0; word = 0 }

pub returns-then-here-part-ne0-clause-some : goal.returns-then-here-part-ne0-clause-some
returns-then-here-part-ne0-clause-some c yes_ =
    let parts = c.args.parts.now in
    let index = c.loop-part.part-index in
    let p : Part = get_or parts index no_part in
    let word = c.word-here.result in
    let both = bit_and word p.word in
    let some : 0 < both = omega (arith, c.if-here-part-ne0.true) in
    let small : both < 2 ^ 64 = omega (arith, and_le_l word p.word) in
    let low = lowest-below both some small in
    let t : ℕ = trailing_zeros w64 both in
    let m : ℕ = 64 * p.place + t in
    let here : m / 64 ≡ p.place = omega (arith, low) in
    let bit : m % 64 ≡ t = omega (arith, low) in
    let bits = and_parts (has_bit word t) (has_bit p.word t) (sym (bit-and word p.word t) ∙ lowest-set both some small) in (
      m,
      any-at (is_in_part m) parts index p (slice_get-get_or parts index no_part c.loop-part-test.true)
          (and_from (m / 64 == p.place) (has_bit p.word (m % 64)) (eq-eqb (m / 64) p.place here) (ap (has_bit p.word) bit ∙ bits.1)),
      sym (c.word-here.ensures m (here ∙ sym c.from.ensures)) ∙ ap (has_bit word) bit ∙ bits.0,
    )

pub loop-part-preserved : goal.loop-part-preserved
loop-part-preserved c k m p below at inside =
    let parts = c.args.parts.now in
    let index = c.loop-part.part-index in
    let q : Part = get_or parts index no_part in
    let word = c.word-here.result in
    ⊎_elim
    (λ same.
    let is : p ≡ q = same_Some p q (sym at ∙ ap (slice_get parts) same ∙ slice_get-get_or parts index no_part c.loop-part-test.true) in
    let bits = and_parts (m / 64 == q.place) (has_bit q.word (m % 64)) (sym (ap (is_in_part m) is) ∙ inside) in
    let here : m / 64 ≡ c.from.result = eqb-true (m / 64) q.place bits.0 ∙ sym c.from.ensures in
    ⊎_elim
    (λ rival. absurd (false≢true (
    sym (ap (λ w. has_bit w (m % 64)) c.if-here-part-ne0.false ∙ no-bit (m % 64)) ∙ bit-and word q.word (m % 64) ∙
    and_from (has_bit word (m % 64)) (has_bit q.word (m % 64)) (c.word-here.ensures m here ∙ rival) bits.1)))
    (λ none. none)
    (cases_Bool (contains c.args.self.now.rivals.now m)))
    (λ other. c.loop-part.invariant k m p (omega (arith, below, other)) at inside)
    (cases_eq k index)

pub returns-clause-none : goal.returns-clause-none
returns-clause-none c none m inside =
    let found = any-found (is_in_part m) c.args.parts.now inside in
    c.loop-part.invariant found.0 m found.1 (omega (arith, slice_get_within c.args.parts.now found.0 found.1 found.2, c.loop-part-test.false)) found.2 found.3
