use Rattle.std.proofs.Common.{◌≡◌, ◌/◌, ◌%◌, ◌∙◌, not, ⊎_elim, sym, ap, arith, w64}
use Rattle.std.specs.Prelude.{bit_and}
use Rattle.std.specs.FinSet.{contains}
use Rattle.std.specs.Int.{bit_not}
use Rattle.std.proofs.lemmas.Bool.{both_ways, cases_eq, false≢true, lt-ltb, ltb-true, not-true}
use Rattle.priority_filter.proofs.Words.{bit-not}
use Rattle.plant_model.proofs.Ranking.{common-in, in-range, in-words, of-range, without-none}
use Rattle.plant_model.proofs.ranks.is_whole_in.Goals as goal

pub returns-then-word-ne0 : goal.returns-then-word-ne0
returns-then-word-ne0 c = (
  λ bad. absurd (false≢true bad),
  λ is.
      let set = c.args.set.now in
      let own = c.word in
      let there = c.word-in-loop-place in
      let found = common-in c.loop-place.place own.result (bit_not w64 there.result) (contains c.args.rows.now.own) (λ n. not (contains set n)) own.ensures
      (λ n at. bit-not there.result (n % 64) (omega arith) (omega arith) ∙ ap not (there.ensures n at)) (omega arith) (omega (arith, c.if-word-ne0.true)) in
      absurd (both_ways (contains set found.0) (not-true (contains set found.0) found.3) (is.1 found.0 found.2)),
)

pub loop-place-preserved : goal.loop-place-preserved
loop-place-preserved c m own below =
    ⊎_elim
    (λ at.
    let none : bit_and c.word.result (bit_not w64 c.word-in-loop-place.result) ≡ 0 = omega (arith, c.if-word-ne0.false) in
    sym (c.word-in-loop-place.ensures m at) ∙ without-none c.word.result c.word-in-loop-place.result (m % 64) (omega arith) (omega arith) none (c.word.ensures m at ∙ own))
    (λ other. c.loop-place.invariant m own (omega (arith, below, other)))
    (cases_eq (m / 64) c.loop-place.place)

pub returns : goal.returns
returns c =
    let rows = c.args.rows.now in (
      λ some. (
        (rows.first, of-range rows c.requires rows.first (omega arith) (omega (arith, ltb-true 0 rows.count some))),
        λ m own. c.loop-place.invariant m own (omega (arith, (in-words rows c.requires m own).1, c.from-place-end.ensures, c.loop-place-test.false)),
      ),
      λ is. let at = in-range rows c.requires is.0.0 is.0.1 in lt-ltb 0 rows.count (omega (arith, at.0, at.1)),
    )
