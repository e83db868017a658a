use Rattle.std.proofs.Common.{◌≡◌, ◌∙◌, ◌+◌, ◌%◌, ◌&&◌, ap, sym, arith, true, false, Bool, refl}
use Rattle.std.specs.Prelude.{bit_and, slice_index_or}
use Rattle.std.proofs.lemmas.Bool.{eqb-true}
use Rattle.priority_filter.specs.Members.{has_bit}
use Rattle.priority_filter.proofs.Words.{bit-and}
use Rattle.plant_model.specs.System.{plant_of}
use Rattle.plant_model.proofs.BitsLeft.{no-bit}
use Rattle.step_core.proofs.LeafStates.{off-of}
use Rattle.step_core.proofs.OwnRows.{common-bit, none-possible}
use Rattle.step_core.proofs.OwnWord.{in-place, own-bit, place-low}
use Rattle.step_core.proofs.alone.Apart.is_still.Goals as goal

and-true : (b : Bool) → (b && true) ≡ b
and-true true = refl
and-true false = refl

pub word-requires : goal.word-requires
word-requires c =
    let system = c.args.self.now.system.now in
    let rows = c.args.rows.now in
    place-low system c.args.connector rows c.requires.connector c.requires.rows c.requires.word c.from-low.result c.from-low.ensures

pub word-requires-2 : goal.word-requires-2
word-requires-2 c =
    let system = c.args.self.now.system.now in
    let rows = c.args.rows.now in
    place-low system c.args.connector rows c.requires.connector c.requires.rows c.requires.word c.from-low.result c.from-low.ensures

pub returns-clause-before : goal.returns-clause-before
returns-clause-before c yes_ n own =
    let system = c.args.self.now.system.now in
    let k = c.args.connector in
    let rows = c.args.rows.now in
    let word : rows.high ≡ rows.low + 1 = c.requires.word in
    let here = in-place system k rows c.requires.connector c.requires.rows word c.from-low.result c.from-low.ensures n own in
    let bit = own-bit system k rows c.requires.connector c.requires.rows word c.from-low.result c.from-low.ensures c.word-2.result c.word-2.ensures n here ∙ own in
    sym (c.word.ensures n here) ∙ sym (and-true (has_bit c.word.result (n % 64))) ∙ ap (λ b. has_bit c.word.result (n % 64) && b) (sym bit) ∙
    sym (bit-and c.word.result c.word-2.result (n % 64)) ∙ ap (λ w. has_bit w (n % 64)) (eqb-true (bit_and c.word.result c.word-2.result) 0 yes_) ∙ no-bit (n % 64)

-- a leaf that takes part in each offers nothing
pub returns-clause-now : goal.returns-clause-now
returns-clause-now c yes_ n own =
    let a = c.args.self.now in
    let k = c.args.connector in
    let rows = c.args.rows.now in
    let off = slice_index_or a.leaves.now.off k 0 in
    let leaves = off-of (plant_of a.system.now) a.states.now a.offers.now.sets a.offers.now.counts a.leaves.now a.of_plant a.offering.offered a.offering.counted a.offering.leaves k in
    let found = common-bit off rows.must (omega arith) (omega (arith, c.if-self-connector-eq0.false)) in
    none-possible a.system.now k rows c.requires.connector c.requires.rows a.states.now off leaves found.0 found.1 found.2 n own
