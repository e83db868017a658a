use Rattle.std.proofs.Common.{◌≡◌, ◌+◌, ◌/◌, ◌%◌, ◌<◌, ◌&&◌, ◌∙◌, ℕ, Bool, not, sym, ap, eqb, false, arith, ⊎_elim}
use Rattle.std.specs.Prelude.{bit_and}
use Rattle.std.specs.FinSet.{contains}
use Rattle.std.proofs.lemmas.Bool.{and_parts, cases_Bool, cases_eq, eq-eqb, eqb-true, false≢true, true≢false}
use Rattle.priority_filter.specs.Members.{has_bit}
use Rattle.priority_filter.proofs.Words.{bit-and}
use Rattle.plant_model.specs.ConnectorRows.{is_of_connector}
use Rattle.plant_model.specs.System.{interactions_in}
use Rattle.step_core.proofs.Looked.{all-looked, look-next, none-looked}
use Rattle.plant_model.proofs.WordSets.{no-common}
use Rattle.step_core.proofs.OwnRange.{own-of, row-at}
use Rattle.step_core.proofs.OwnRows.{common-bit, none-possible}
use Rattle.step_core.proofs.settling.judge_in_word.Goals as goal

-- where no interaction of the connector was possible, and a leaf that takes part in each of them offers nothing, none is
pub returns-then-off-rows-clause-judged : goal.returns-then-off-rows-clause-judged
returns-then-off-rows-clause-judged c n own =
    let system = c.args.system.now in
    let k = c.args.connector in
    let rows = c.index-rows.result.now in
    let at = row-at system k rows c.requires.connector c.index-rows.ensures in
    let here = c.requires.own n own in
    let missed = bit_and c.args.off rows.must in
    let were = bit_and c.word.result c.word-own.result in
    let parts = and_parts (not (eqb missed 0)) (eqb were 0) c.if-off-rows.true in
    let some : 0 < missed = ⊎_elim (λ zero. absurd (true≢false (sym parts.0 ∙ ap not (eq-eqb missed 0 zero)))) (λ other. omega (arith, other)) (cases_eq missed 0) in
    let found = common-bit c.args.off rows.must (omega arith) some in
    let before : contains c.args.possible.now n ≡ false = ⊎_elim
    (λ can. absurd (false≢true (sym (no-common c.word.result c.word-own.result (n % 64) (eqb-true were 0 parts.1) (c.word.ensures n here ∙ can)) ∙ c.word-own.ensures n here ∙ own-of system k rows c.requires.connector at n ∙ own)))
    (λ no. no)
    (cases_Bool (contains c.args.possible.now n)) in
    before ∙ sym (none-possible system k rows c.requires.connector at c.args.states.now c.args.off c.requires.off found.0 found.1 found.2 n own)

pub returns-clause-some : goal.returns-clause-some
returns-clause-some c =
    let system = c.args.system.now in
    let all = interactions_in system in
    let connector = c.args.connector in
    let place = c.args.place in
    let rows = c.index-rows.result.now in
    let own = c.word-own.result in
    let old = contains c.args.possible.now in
    let new = contains c.judge_connector.new.possible in
    let looked = c.look.ensures in
    let both : (word : ℕ) (test : ℕ → Bool) → ((n : ℕ) → n / 64 ≡ place → has_bit word (n % 64) ≡ test n) → (n : ℕ) → n / 64 ≡ place → has_bit (bit_and word own) (n % 64) ≡ (test n && is_of_connector all connector n) =
    λ word test word_is n here. bit-and word own (n % 64) ∙ ap (λ b. b && has_bit own (n % 64)) (word_is n here) ∙
    ap (λ b. test n && b) (c.word-own.ensures n here ∙ own-of system connector rows c.requires.connector (row-at system connector rows c.requires.connector c.index-rows.ensures) n) in
    all-looked all system.ranks connector (place + 1) old new c.look.new.self
    (λ n its. omega (arith, c.requires.own n its))
    c.judge_connector.ensures.others
    (look-next all system.ranks connector place old new (bit_and c.word.result own) (bit_and c.word-2.result own) c.none-rivalry.result c.look.new.self
    (none-looked all system.ranks connector place old new c.none-rivalry.result c.none-rivalry.ensures.rival (λ n its below. omega (arith, c.requires.own n its, below)))
    (both c.word.result old c.word.ensures) (both c.word-2.result new c.word-2.ensures)
    looked.rival looked.was_watched looked.watched looked.was_head looked.head)
