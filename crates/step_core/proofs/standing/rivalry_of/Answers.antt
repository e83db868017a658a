use Rattle.std.proofs.Common.{◌≡◌, ◌/◌, ◌%◌, ◌&&◌, ◌∙◌, ℕ, Bool, ap, arith}
use Rattle.std.specs.Prelude.{bit_and}
use Rattle.std.specs.FinSet.{contains}
use Rattle.priority_filter.specs.Members.{has_bit}
use Rattle.priority_filter.proofs.Words.{bit-and}
use Rattle.plant_model.specs.ConnectorRows.{is_of_connector}
use Rattle.plant_model.specs.System.{interactions_in}
use Rattle.step_core.proofs.Looked.{all-looked, look-next, none-looked}
use Rattle.step_core.proofs.OwnRange.{few-words, own-of, own-words, row-at}
use Rattle.step_core.proofs.standing.rivalry_of.Goals as goal

pub loop-place-init : goal.loop-place-init
loop-place-init c =
    let system = c.args.system.now in
    let k = c.args.connector in
    let r = c.index-rows.result.now in
    none-looked (interactions_in system) system.ranks k c.from-place.result (contains c.args.before.now) (contains c.args.now.now) c.none-rivalry.result c.none-rivalry.ensures.rival
    (λ n own below. omega (arith, below, (own-words system k r c.requires.connector (row-at system k r c.requires.connector c.index-rows.ensures) n own).0, c.from-place.ensures))

pub word-own-requires : goal.word-own-requires
word-own-requires c =
    omega (arith, c.loop-place-test.true, c.from-place-end.ensures, few-words c.args.system.now c.args.connector c.index-rows.result.now c.requires.connector (row-at c.args.system.now c.args.connector c.index-rows.result.now c.requires.connector c.index-rows.ensures))

pub word-requires : goal.word-requires
word-requires c =
    omega (arith, c.loop-place-test.true, c.from-place-end.ensures, few-words c.args.system.now c.args.connector c.index-rows.result.now c.requires.connector (row-at c.args.system.now c.args.connector c.index-rows.result.now c.requires.connector c.index-rows.ensures))

pub word-requires-in-loop-place : goal.word-requires-in-loop-place
word-requires-in-loop-place c =
    omega (arith, c.loop-place-test.true, c.from-place-end.ensures, few-words c.args.system.now c.args.connector c.index-rows.result.now c.requires.connector (row-at c.args.system.now c.args.connector c.index-rows.result.now c.requires.connector c.index-rows.ensures))

pub look-requires : goal.look-requires
look-requires c =
    omega (arith, c.loop-place-test.true, c.from-place-end.ensures, few-words c.args.system.now c.args.connector c.index-rows.result.now c.requires.connector (row-at c.args.system.now c.args.connector c.index-rows.result.now c.requires.connector c.index-rows.ensures))

pub loop-place-preserved : goal.loop-place-preserved
loop-place-preserved c =
    let system = c.args.system.now in
    let k = c.args.connector in
    let r = c.index-rows.result.now in
    let own = c.word-own in
    let its = row-at system k r c.requires.connector c.index-rows.ensures in
    let looked = c.look.ensures in
    let both : (word : ℕ) (test : ℕ → Bool) → ((n : ℕ) → n / 64 ≡ c.loop-place.place → has_bit word (n % 64) ≡ test n) → (n : ℕ) → n / 64 ≡ c.loop-place.place → has_bit (bit_and word own.result) (n % 64) ≡ (test n && is_of_connector (interactions_in system) k n) =
    λ word test word_is n here. bit-and word own.result (n % 64) ∙ ap (λ b. b && has_bit own.result (n % 64)) (word_is n here) ∙ ap (λ b. test n && b) (own.ensures n here ∙ own-of system k r c.requires.connector its n) in
    look-next (interactions_in system) system.ranks k c.loop-place.place (contains c.args.before.now) (contains c.args.now.now) (bit_and c.word.result own.result) (bit_and c.word-in-loop-place.result own.result) c.loop-place.rivalry c.look.new.self c.loop-place.invariant
    (both c.word.result (contains c.args.before.now) c.word.ensures)
    (both c.word-in-loop-place.result (contains c.args.now.now) c.word-in-loop-place.ensures)
    looked.rival looked.was_watched looked.watched looked.was_head looked.head

pub returns : goal.returns
returns c =
    let system = c.args.system.now in
    let k = c.args.connector in
    let r = c.index-rows.result.now in
    let its = row-at system k r c.requires.connector c.index-rows.ensures in
    all-looked (interactions_in system) system.ranks k c.loop-place.place (contains c.args.before.now) (contains c.args.now.now) c.loop-place.rivalry
    (λ n own. omega (arith, (own-words system k r c.requires.connector its n own).1, c.from-place-end.ensures, c.loop-place-test.false))
    c.requires.others c.loop-place.invariant
