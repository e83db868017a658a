use Rattle.std.proofs.Common.{◌≡◌, ◌+◌, ◌*◌, ◌/◌, ◌%◌, ◌&&◌, ◌∙◌, ℕ, Bool, ap, sym, refl, true, false, arith, ⊎_elim}
use Rattle.std.specs.FinSet.{contains}
use Rattle.std.proofs.lemmas.Bool.{and_right, cases_Bool, cases_lt, or_parts}
use Rattle.priority_filter.specs.Members.{has_bit}
use Rattle.priority_filter.proofs.Words.{no-bit-past}
use Rattle.plant_model.specs.ConnectorRows.{is_of_connector}
use Rattle.plant_model.specs.System.{interactions_in, plant_of}
use Rattle.step_core.specs.Standing.{is_kept_always}
use Rattle.step_core.proofs.BoundedWeights.{weight-same}
use Rattle.step_core.proofs.OwnWord.{in-place, own-bit, place-low, put-others, put-own}
use Rattle.step_core.proofs.settling.Settling.settle_word.Goals.{After-put_word-is_new}
use Rattle.step_core.proofs.settling.Settling.settle_word.Goals as goal

pub word-requires : goal.word-requires
word-requires c = place-low c.args.self.now.system.now c.args.connector c.args.rows.now c.requires.connector c.requires.rows c.requires.word c.from-place.result c.from-place.ensures

pub put_word-is_new-requires-clause-place : goal.put_word-is_new-requires-clause-place
put_word-is_new-requires-clause-place c = place-low c.args.self.now.system.now c.args.connector c.args.rows.now c.requires.connector c.requires.rows c.requires.word c.from-place.result c.from-place.ensures

pub put_word-is_new-requires-clause-own : goal.put_word-is_new-requires-clause-own
put_word-is_new-requires-clause-own c j out =
    let s = c.args.self.now in
    let system = s.system.now in
    let place = c.from-place.result in
    let word = c.word_to_keep-word.result in
    ⊎_elim
    (λ low.
    let n : ℕ = 64 * place + j in
    let here : n / 64 ≡ place = omega (arith, low) in
    let bit : n % 64 ≡ j = omega (arith, low) in
    let apart : is_of_connector (interactions_in system) c.args.connector n ≡ false =
    sym (own-bit system c.args.connector c.args.rows.now c.requires.connector c.requires.rows c.requires.word place c.from-place.ensures c.word.result c.word.ensures n here) ∙ ap (has_bit c.word.result) bit ∙ out in
    ap (has_bit word) (sym bit) ∙ c.word_to_keep-word.ensures n (here ∙ c.from-place.ensures) ∙ ap (λ b. b && is_kept_always (plant_of system) (interactions_in system) (contains s.possible.now) n) apart)
    (λ past. no-bit-past word j (omega (arith, c.word_to_keep-word.type_inv)) past)
    (cases_lt j 64)

-- the connector's interactions are those of the word, and those that are to be kept
put : (c : After-put_word-is_new) (n : ℕ) → is_of_connector (interactions_in c.args.self.now.system.now) c.args.connector n ≡ true → contains c.put_word-is_new.new.set n ≡ has_bit c.word_to_keep-word.result (n % 64)
put c n own =
    let told = c.put_word-is_new.ensures in
    put-own c.args.self.now.system.now c.args.connector c.args.rows.now c.requires.connector c.requires.rows c.requires.word c.from-place.result c.from-place.ensures c.word.result c.word.ensures
    c.word_to_keep-word.result c.args.kept.now c.put_word-is_new.new.set told.here told.out told.others n own

right : (c : After-put_word-is_new) (n : ℕ) → is_of_connector (interactions_in c.args.self.now.system.now) c.args.connector n ≡ true
    → contains c.put_word-is_new.new.set n ≡ is_kept_always (plant_of c.args.self.now.system.now) (interactions_in c.args.self.now.system.now) (contains c.args.self.now.possible.now) n
right c n own =
    let s = c.args.self.now in
    let system = s.system.now in
    put c n own ∙
    c.word_to_keep-word.ensures n (in-place system c.args.connector c.args.rows.now c.requires.connector c.requires.rows c.requires.word c.args.rows.now.low refl n own) ∙
    ap (λ b. b && is_kept_always (plant_of system) (interactions_in system) (contains s.possible.now) n) own

others : (c : After-put_word-is_new) (n : ℕ) → is_of_connector (interactions_in c.args.self.now.system.now) c.args.connector n ≡ false → contains c.put_word-is_new.new.set n ≡ contains c.args.kept.now n
others c =
    let told = c.put_word-is_new.ensures in
    put-others c.args.self.now.system.now c.args.connector c.args.rows.now c.requires.connector c.requires.rows c.requires.word c.from-place.result c.from-place.ensures c.word.result c.word.ensures
    c.word_to_keep-word.result c.args.kept.now c.put_word-is_new.new.set told.here told.out told.others

and-true : (b : Bool) → (b && true) ≡ b
and-true true = refl
and-true false = refl

pub weigh_word-requires-clause-in_word : goal.weigh_word-requires-clause-in_word
weigh_word-requires-clause-in_word c = in-place c.args.self.now.system.now c.args.connector c.args.rows.now c.requires.connector c.requires.rows c.requires.word c.from-place.result c.from-place.ensures

pub weigh_word-requires-clause-word : goal.weigh_word-requires-clause-word
weigh_word-requires-clause-word c n here =
    let s = c.args.self.now in
    let system = s.system.now in
    let new = contains c.put_word-is_new.new.set n in
    let own = is_of_connector (interactions_in system) c.args.connector n in
    ⊎_elim
    (λ its. sym (ap (λ b. new && b) its ∙ and-true new ∙ put c.before.before n its))
    (λ apart. c.word_to_keep-word.ensures n (here ∙ c.from-place.ensures) ∙ ap (λ b. b && is_kept_always (plant_of system) (interactions_in system) (contains s.possible.now) n) apart ∙ sym (and_right new own apart))
    (cases_Bool own)

pub weigh_word-requires-clause-kept : goal.weigh_word-requires-clause-kept
weigh_word-requires-clause-kept c = right c.before.before

pub returns-then-is_new-is_heavy-clause-kept : goal.returns-then-is_new-is_heavy-clause-kept
returns-then-is_new-is_heavy-clause-kept c = right c.before.before.before

pub returns-then-is_new-is_heavy-clause-others : goal.returns-then-is_new-is_heavy-clause-others
returns-then-is_new-is_heavy-clause-others c = others c.before.before.before

pub returns-else-is_new-is_heavy-clause-kept : goal.returns-else-is_new-is_heavy-clause-kept
returns-else-is_new-is_heavy-clause-kept c = right c.before

pub returns-else-is_new-is_heavy-clause-others : goal.returns-else-is_new-is_heavy-clause-others
returns-else-is_new-is_heavy-clause-others c = others c.before

pub returns-else-is_new-is_heavy-clause-weight : goal.returns-else-is_new-is_heavy-clause-weight
returns-else-is_new-is_heavy-clause-weight c =
    let s = c.args.self.now in
    let parts = or_parts c.put_word-is_new.result c.args.is_heavy c.if-is_new-is_heavy.false in
    c.requires.weight parts.1 ∙
    sym (weight-same (plant_of s.system.now).atoms s.states.now (interactions_in s.system.now) (contains c.args.kept.now) (contains c.put_word-is_new.new.set) c.args.connector
    (λ n _. c.put_word-is_new.ensures.same parts.0 n))
