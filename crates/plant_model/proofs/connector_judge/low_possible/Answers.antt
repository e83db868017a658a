use Rattle.std.proofs.Common.{◌≡◌, ◌/◌, ◌%◌, ◌∙◌, ℕ, ap, sym, arith}
use Rattle.std.specs.Prelude.{slice_index}
use Rattle.priority_filter.specs.Members.{has_bit}
use Rattle.plant_model.proofs.PossibleWords.{none-possible, word-possible}
use Rattle.plant_model.proofs.connector_judge.low_possible.Goals as goal

pub returns-then-off-rows-ne0 : goal.returns-then-off-rows-ne0
returns-then-off-rows-ne0 c =
    let rows = c.args.rows.now in
    none-possible rows c.args.off c.args.clauses.now c.args.states.now rows.low c.requires.must (omega arith) (omega (arith, c.if-off-rows-ne0.true))

pub returns : goal.returns
returns c =
    let rows = c.args.rows.now in
    let words = c.requires.words in
    let on = c.joined.ensures in
    let left = c.without_forbidden.ensures in
    let on_leaf = λ (n j : ℕ) (at : n / 64 ≡ rows.low). ap (λ ws. has_bit (slice_index ws j) (n % 64)) c.deref.ensures.value ∙ words.on_leaf.same j n at in
    let under = λ (n k : ℕ) (at : n / 64 ≡ rows.low). ap (λ ws. has_bit (slice_index ws k) (n % 64)) c.deref-2.ensures.value ∙ words.under_clause.same k n at in
    word-possible rows c.args.off c.args.clauses.now c.args.states.now rows.low rows.low_own words.own c.joined.result c.without_forbidden.result (omega arith)
    (λ n j at set inside. on.one (n % 64) j set (on_leaf n j at ∙ inside))
    (λ n at none. on.none (n % 64) (λ j set. on_leaf n j at ∙ none j set))
    (λ n at all_true. left.stays (n % 64) (omega arith) (λ k clause there inside. all_true k clause there (sym (under n k at) ∙ inside)))
    (λ n k clause at there inside zero. left.goes (n % 64) k clause (omega arith) there (under n k at ∙ inside) zero)
    left.within
