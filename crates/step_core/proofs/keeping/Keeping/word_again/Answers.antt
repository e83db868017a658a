use Rattle.std.proofs.Common.{◌≡◌, ◌%◌, ◌&&◌, ◌∙◌, not, Bool, refl, ap, sym, true, false, ⊎_elim}
use Rattle.std.specs.FinSet.{contains}
use Rattle.std.proofs.lemmas.Bool.{cases_Bool}
use Rattle.plant_model.specs.ConnectorRows.{is_of_connector}
use Rattle.plant_model.specs.System.{interactions_in, plant_of}
use Rattle.step_core.specs.Standing.{is_always_overruled}
use Rattle.plant_model.proofs.BitsLeft.{no-bit}
use Rattle.step_core.proofs.Ranked.{rank-at}
use Rattle.step_core.proofs.keeping.Keeping.word_again.Goals as goal

pub is_out-requires : goal.is_out-requires
is_out-requires c = rank-at c.args.self.now.system.now c.args.connector c.index-rank.result.now c.requires.connector c.index-rank.ensures

pub word_kept-requires-clause-rank : goal.word_kept-requires-clause-rank
word_kept-requires-clause-rank c = rank-at c.args.self.now.system.now c.args.connector c.index-rank.result.now c.requires.connector c.index-rank.ensures

pub word_kept-requires-clause-free : goal.word_kept-requires-clause-free
word_kept-requires-clause-free c = c.is_out.ensures.free c.if-is_out.false

none-of : (own can : Bool) → (own && (can && false)) ≡ false
none-of true true = refl
none-of true false = refl
none-of false can = refl

-- where something is above all of the connector, nothing is kept
pub returns-then-is_out : goal.returns-then-is_out
returns-then-is_out c n here =
    let k = c.args.self.now in
    let own = is_of_connector (interactions_in k.system.now) c.args.connector n in
    let can = contains k.possible.now n in
    no-bit (n % 64) ∙
    ⊎_elim
    (λ its. sym (ap (λ b. own && (can && not b)) (c.is_out.ensures.out c.if-is_out.true n its) ∙ none-of own can))
    (λ apart. sym (ap (λ b. b && (can && not (is_always_overruled (plant_of k.system.now) (interactions_in k.system.now) (contains k.rivals.now) n))) apart))
    (cases_Bool own)
