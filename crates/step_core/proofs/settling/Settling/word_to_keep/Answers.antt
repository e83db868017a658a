use Rattle.std.proofs.Common.{◌≡◌, ◌%◌, ◌&&◌, ◌∙◌, Bool, ap, sym, refl, true, false, ⊎_elim}
use Rattle.std.specs.FinSet.{contains}
use Rattle.std.proofs.lemmas.Bool.{and_right, cases_Bool}
use Rattle.priority_filter.specs.Members.{has_bit}
use Rattle.priority_filter.proofs.Words.{bit-and}
use Rattle.plant_model.specs.ConnectorRows.{is_of_connector}
use Rattle.plant_model.specs.System.{interactions_in, plant_of}
use Rattle.step_core.specs.Standing.{is_kept_always}
use Rattle.step_core.proofs.OwnWord.{own-bit, place-low}
use Rattle.step_core.proofs.settling.Settling.word_to_keep.Goals as goal

pub word-requires : goal.word-requires
word-requires c = place-low c.args.self.now.system.now c.args.connector c.args.rows.now c.requires.connector c.requires.rows c.requires.word c.from-place.result c.from-place.ensures

pub word-requires-then-not-is_affected : goal.word-requires-then-not-is_affected
word-requires-then-not-is_affected c = place-low c.args.self.now.system.now c.args.connector c.args.rows.now c.requires.connector c.requires.rows c.requires.word c.from-place.result c.from-place.ensures

pub word_again-requires-clause-place : goal.word_again-requires-clause-place
word_again-requires-clause-place c = place-low c.args.self.now.system.now c.args.connector c.args.rows.now c.requires.connector c.requires.rows c.requires.word c.from-place.result c.from-place.ensures

and-true : (b : Bool) → (b && true) ≡ b
and-true true = refl
and-true false = refl

-- what is kept of one that is not affected stays
pub returns-then-not-is_affected : goal.returns-then-not-is_affected
returns-then-not-is_affected c n at =
    let s = c.args.self.now in
    let system = s.system.now in
    let k = c.args.connector in
    let kept = contains c.args.kept.now n in
    let own = is_of_connector (interactions_in system) k n in
    let always = is_kept_always (plant_of system) (interactions_in system) (contains s.possible.now) n in
    let here = at ∙ sym c.from-place.ensures in
    bit-and c.word.result c.word-then-not-is_affected.result (n % 64) ∙ ap (λ b. b && has_bit c.word-then-not-is_affected.result (n % 64)) (c.word.ensures n here) ∙
    ap (λ b. kept && b) (own-bit system k c.args.rows.now c.requires.connector c.requires.rows c.requires.word c.from-place.result c.from-place.ensures c.word-then-not-is_affected.result c.word-then-not-is_affected.ensures n here) ∙
    ⊎_elim
    (λ its. ap (λ b. kept && b) its ∙ and-true kept ∙ c.requires.kept c.if-not-is_affected.true n its ∙ sym (ap (λ b. b && always) its))
    (λ apart. and_right kept own apart ∙ sym (ap (λ b. b && always) apart))
    (cases_Bool own)

pub returns : goal.returns
returns c n at = c.word_again.ensures n (at ∙ sym c.from-place.ensures)
