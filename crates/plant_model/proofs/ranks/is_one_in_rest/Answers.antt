use Rattle.std.proofs.Common.{◌<◌, ◌∙◌, ap, sym, refl, length, arith, ⊎_elim}
use Rattle.std.specs.Prelude.{slice_get}
use Rattle.std.proofs.lemmas.Bool.{both_ways, cases_eq, false_from_ne_true, false≢true}
use Rattle.std.proofs.lemmas.Option.{slice_get_read}
use Rattle.plant_model.specs.Ranks.{is_in_parts, parts_at}
use Rattle.plant_model.proofs.Ranking.{in-range, of-range, parts-are}
use Rattle.plant_model.proofs.ranks.is_one_in_rest.Goals as goal

pub is_one_in-requires : goal.is_one_in-requires
is_one_in-requires c k p at =
    let rest = c.args.rest.now in
    let number = c.loop-number.number in
    let its = c.index-rest-number.result in
    let within : number < length rest = omega (arith, c.loop-number-test.true, c.from-first.ensures, c.from.ensures, c.requires.within) in
    let same = parts-are rest number its (slice_get_read rest (length rest) number its refl within c.index-rest-number.is) ∙ sym c.deref.ensures.value in
    c.requires.places number k p (ap (λ ps. slice_get ps k) same ∙ at)

pub returns-then-is_one_in : goal.returns-then-is_one_in
returns-then-is_one_in c =
    let rest = c.args.rest.now in
    let rows = c.args.rows.now in
    let number = c.loop-number.number in
    let its = c.index-rest-number.result in
    let within : number < length rest = omega (arith, c.loop-number-test.true, c.from-first.ensures, c.from.ensures, c.requires.within) in
    let same = parts-are rest number its (slice_get_read rest (length rest) number its refl within c.index-rest-number.is) ∙ sym c.deref.ensures.value in
    let found = c.is_one_in.ensures.0 c.if-is_one_in.true in
    let own = of-range rows c.requires.range number (omega (arith, c.loop-number.auto.number, c.from-first.ensures)) (omega (arith, c.loop-number-test.true, c.from-first.ensures, c.from.ensures)) in (
      λ _. (number, found.0, own, found.1, ap (λ ps. is_in_parts ps found.0) same ∙ found.2),
      λ _. refl,
    )

pub loop-number-preserved : goal.loop-number-preserved
loop-number-preserved c n m from below inside =
    let rest = c.args.rest.now in
    let number = c.loop-number.number in
    let its = c.index-rest-number.result in
    let within : number < length rest = omega (arith, c.loop-number-test.true, c.from-first.ensures, c.from.ensures, c.requires.within) in
    let same = parts-are rest number its (slice_get_read rest (length rest) number its refl within c.index-rest-number.is) ∙ sym c.deref.ensures.value in
    ⊎_elim
    (λ at.
    ap (λ k. is_in_parts (parts_at rest k) m) at ∙ ap (λ ps. is_in_parts ps m) same ∙
    false_from_ne_true (is_in_parts c.deref.result.now m) (λ yes_. both_ways c.is_one_in.result c.if-is_one_in.false (c.is_one_in.ensures.1 (m, inside, yes_))))
    (λ other. c.loop-number.invariant n m from (omega (arith, below, other)) inside)
    (cases_eq n number)

pub returns : goal.returns
returns c = (
  λ bad. absurd (false≢true bad),
  λ some.
      let range = in-range c.args.rows.now c.requires.range some.0 some.2 in
      absurd (both_ways (is_in_parts (parts_at c.args.rest.now some.0) some.1)
      (c.loop-number.invariant some.0 some.1 (omega (arith, range.0, c.from-first.ensures)) (omega (arith, range.1, c.from-first.ensures, c.from.ensures, c.loop-number-test.false)) some.3)
      some.4),
)
