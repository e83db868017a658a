use Rattle.std.proofs.Common.{◌≡◌, ◌/◌, ◌%◌, ◌==◌, ◌∙◌, ap, sym, refl, get_or, arith, ⊎_elim}
use Rattle.std.specs.Prelude.{bit_and, slice_get}
use Rattle.std.specs.FinSet.{contains}
use Rattle.std.proofs.lemmas.Bool.{and_from, and_parts, both_ways, cases_eq, eq-eqb, eqb-true, false≢true}
use Rattle.std.proofs.lemmas.Nat.{and_comm}
use Rattle.std.proofs.lemmas.Option.{same_Some, slice_get-get_or, slice_get_within}
use Rattle.priority_filter.specs.Members.{has_bit}
use Rattle.plant_model.specs.Ranks.{is_in_part}
use Rattle.plant_model.specs.declared.ranks.Part.{Part}
use Rattle.plant_model.proofs.Ranking.{common-in, from-parts, in-parts}
use Rattle.plant_model.proofs.WordSets.{no-common}
use Rattle.plant_model.proofs.ranks.is_one_in.Goals as goal

abbrev no_part : Part
no_part = record { place = 0; word = 0 }

pub loop-part-init : goal.loop-part-init
loop-part-init c k m p below at inside = absurd (omega (arith, below))

pub returns-then-word-part-ne0 : goal.returns-then-word-part-ne0
returns-then-word-part-ne0 c =
    let parts = c.args.parts.now in
    let index = c.loop-part.part-index in
    let p : Part = get_or parts index no_part in
    let found = common-in p.place c.word.result p.word (contains c.args.set.now) (λ n. has_bit p.word (n % 64)) (λ n at. c.word.ensures n (at ∙ sym c.from.ensures)) (λ n at. refl) (omega arith) (omega (arith, c.if-word-part-ne0.true)) in
    let m = found.0 in (
      λ _. (m, found.2, in-parts parts index p m (slice_get-get_or parts index no_part c.loop-part-test.true) (and_from (m / 64 == p.place) (has_bit p.word (m % 64)) (eq-eqb (m / 64) p.place found.1) found.3)),
      λ _. refl,
    )

pub loop-part-preserved : goal.loop-part-preserved
loop-part-preserved c k m p below at inside =
    let parts = c.args.parts.now in
    let index = c.loop-part.part-index in
    let q : Part = get_or parts index no_part in
    let word = c.word.result in
    ⊎_elim
    (λ same.
    let is : p ≡ q = same_Some p q (sym at ∙ ap (slice_get parts) same ∙ slice_get-get_or parts index no_part c.loop-part-test.true) in
    let bits = and_parts (m / 64 == q.place) (has_bit q.word (m % 64)) (sym (ap (is_in_part m) is) ∙ inside) in
    let here : m / 64 ≡ c.from.result = eqb-true (m / 64) q.place bits.0 ∙ sym c.from.ensures in
    let none : bit_and word q.word ≡ 0 = omega (arith, c.if-word-part-ne0.false) in
    sym (c.word.ensures m here) ∙ no-common q.word word (m % 64) (and_comm q.word word ∙ none) bits.1)
    (λ other. c.loop-part.invariant k m p (omega (arith, below, other)) at inside)
    (cases_eq k index)

pub returns : goal.returns
returns c = (
  λ bad. absurd (false≢true bad),
  λ some.
      let found = from-parts c.args.parts.now some.0 some.2 in
      absurd (both_ways (contains c.args.set.now some.0) (c.loop-part.invariant found.0 some.0 found.1 (omega (arith, slice_get_within c.args.parts.now found.0 found.1 found.2, c.loop-part-test.false)) found.2 found.3) some.1),
)
