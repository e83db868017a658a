use Rattle.std.proofs.Common.{◌≡◌, ◌/◌, ◌%◌, ◌<◌, ◌∙◌, ℕ, sym, true, arith, ⊎_elim}
use Rattle.std.proofs.lemmas.Bool.{and_from, and_parts, cases_Bool, cases_eq, true≢false}
use Rattle.priority_filter.specs.Members.{has_bit}
use Rattle.priority_filter.proofs.Words.{bit-and}
use Rattle.plant_model.specs.ConnectorRows.{is_of_connector}
use Rattle.plant_model.specs.System.{interactions_in}
use Rattle.step_core.proofs.OwnRange.{few-words, own-of, own-words}
use Rattle.step_core.proofs.keeping.Keeping.without_lower.Goals as goal

pub loop-other-init : goal.loop-other-init
loop-other-init c =
    let system = c.args.self.now.system.now in
    let before : (m : ℕ) → is_of_connector (interactions_in system) c.args.connector m ≡ true → m / 64 < c.from-other.result → ⊥ =
    λ m own below. omega (arith, below, (own-words system c.args.connector c.args.rows.now c.requires.connector c.requires.rows m own).0, c.from-other.ensures) in
    record {
      within = λ k out. out;
      goes = λ n m here own below rival up. absurd (before m own below);
      gone = λ n here inside out. absurd (true≢false (sym inside ∙ out));
    }

pub word-requires : goal.word-requires
word-requires c =
    omega (arith, c.loop-other-test.true, c.from-other-end.ensures, few-words c.args.self.now.system.now c.args.connector c.args.rows.now c.requires.connector c.requires.rows)

pub word-requires-in-loop-other : goal.word-requires-in-loop-other
word-requires-in-loop-other c =
    omega (arith, c.loop-other-test.true, c.from-other-end.ensures, few-words c.args.self.now.system.now c.args.connector c.args.rows.now c.requires.connector c.requires.rows)

pub without_below-here-requires-clause-other : goal.without_below-here-requires-clause-other
without_below-here-requires-clause-other c =
    omega (arith, c.loop-other-test.true, c.from-other-end.ensures, few-words c.args.self.now.system.now c.args.connector c.args.rows.now c.requires.connector c.requires.rows)

pub without_below-here-requires-clause-rivals : goal.without_below-here-requires-clause-rivals
without_below-here-requires-clause-rivals c m here inside =
    sym (c.word.ensures m here) ∙
    (and_parts (has_bit c.word.result (m % 64)) (has_bit c.word-in-loop-other.result (m % 64)) (sym (bit-and c.word.result c.word-in-loop-other.result (m % 64)) ∙ inside)).0

pub loop-other-preserved : goal.loop-other-preserved
loop-other-preserved c =
    let system = c.args.self.now.system.now in
    let other = c.loop-other.other in
    let invariant = c.loop-other.invariant in
    let here = c.loop-other.here in
    let one = c.without_below-here.ensures in
    let rivals = c.word.result in
    let own = c.word-in-loop-other.result in
    record {
      within = λ k out. one.within k (invariant.within k out);
      goes = λ n m at its below rival up. ⊎_elim
          (λ now. one.goes n m at now
          (bit-and rivals own (m % 64) ∙
          and_from (has_bit rivals (m % 64)) (has_bit own (m % 64)) (c.word.ensures m now ∙ rival)
          (c.word-in-loop-other.ensures m now ∙ own-of system c.args.connector c.args.rows.now c.requires.connector c.requires.rows m ∙ its)) up)
          (λ before. one.within (n % 64) (invariant.goes n m at its (omega (arith, below, before)) rival up))
          (cases_eq (m / 64) other);
      gone = λ n at inside out. ⊎_elim
          (λ still. one.gone n at still out)
          (λ went. invariant.gone n at inside went)
          (cases_Bool (has_bit here (n % 64)));
    }

pub returns-clause-goes : goal.returns-clause-goes
returns-clause-goes c n m at its rival up =
    c.loop-other.invariant.goes n m at its
    (omega (arith, (own-words c.args.self.now.system.now c.args.connector c.args.rows.now c.requires.connector c.requires.rows m its).1, c.from-other-end.ensures, c.loop-other-test.false)) rival up
