use Rattle.std.proofs.Common.{◌/◌, ◌&&◌, ◌∙◌, nat_lt, ap, sym, refl, ⊎_elim, arith}
use Rattle.std.specs.FinSet.{contains}
use Rattle.std.proofs.lemmas.Bool.{cases_Bool, le-ltb, lt-ltb, or_parts}
use Rattle.plant_model.proofs.JudgedWords.{judged-as, judged-more, judged-none}
use Rattle.plant_model.proofs.connector_judge.judge_each_word.Goals as goal

pub loop-place-init : goal.loop-place-init
loop-place-init c = (
  λ clauses states unasked. judged-none c.args.rows.now c.args.off clauses states (λ n. contains c.args.rows.now.own n && nat_lt (n / 64) c.args.low) c.args.possible.now
      (λ n. ⊎_elim
      (λ its. ap (λ b. b && nat_lt (n / 64) c.args.low) its ∙ le-ltb (n / 64) c.args.low (c.requires.own n its).0)
      (λ no. ap (λ b. b && nat_lt (n / 64) c.args.low) no)
      (cases_Bool (contains c.args.rows.now.own n))),
  λ _ n. refl,
)

pub loop-place-preserved : goal.loop-place-preserved
loop-place-preserved c = (
  λ clauses states unasked. judged-more c.args.rows.now c.args.off clauses states (contains c.args.rows.now.own) c.loop-place.place c.args.possible.now c.loop-place.possible c.judge_word-changed.new.possible
      (c.loop-place.invariant.0 clauses states unasked) (c.judge_word-changed.ensures.judged clauses states unasked),
  λ same n.
      let parts = or_parts c.loop-place.changed c.judge_word-changed.result same in
      c.judge_word-changed.ensures.same parts.1 n ∙ c.loop-place.invariant.1 parts.0 n,
)

pub returns-clause-judged : goal.returns-clause-judged
returns-clause-judged c clauses states unasked =
    judged-as c.args.rows.now c.args.off clauses states (λ n. contains c.args.rows.now.own n && nat_lt (n / 64) c.loop-place.place) (contains c.args.rows.now.own) c.args.possible.now c.loop-place.possible
    (λ n. ⊎_elim
    (λ its. ap (λ b. b && nat_lt (n / 64) c.loop-place.place) its ∙ lt-ltb (n / 64) c.loop-place.place (omega (arith, (c.requires.own n its).1, c.loop-place-test.false)) ∙ sym its)
    (λ no. ap (λ b. b && nat_lt (n / 64) c.loop-place.place) no ∙ sym no)
    (cases_Bool (contains c.args.rows.now.own n)))
    (c.loop-place.invariant.0 clauses states unasked)
