use Rattle.std.proofs.Common.{◌≡◌, ◌+◌, ◌*◌, ◌/◌, ◌%◌, ◌<◌, ◌^◌, ◌&&◌, ◌∙◌, not, ℕ, Bool, refl, ap, sym, true, false, arith, ⊎_elim}
use Rattle.std.specs.FinSet.{contains}
use Rattle.std.proofs.lemmas.Bool.{cases_Bool, cases_eq, cases_lt, or_parts}
use Rattle.priority_filter.specs.Members.{has_bit}
use Rattle.priority_filter.proofs.Words.{no-bit-past}
use Rattle.plant_model.specs.ConnectorRows.{is_of_connector}
use Rattle.plant_model.specs.System.{interactions_in, plant_of}
use Rattle.step_core.specs.Standing.{is_always_overruled}
use Rattle.step_core.specs.declared.keeping.Keeping.{Keeping}
use Rattle.plant_model.proofs.BitsLeft.{no-bit}
use Rattle.step_core.proofs.OwnRange.{few-words, own-of, own-words, row-at}
use Rattle.step_core.proofs.Ranked.{rank-at}
use Rattle.step_core.proofs.keeping.Keeping.keep_connector.Goals.{Joined-is_out, then-is_out, else-is_out}
use Rattle.step_core.proofs.keeping.Keeping.keep_connector.Goals as goal

-- what is kept of the possible interactions
abbrev kept_by : Keeping → ℕ → Bool
kept_by k n = contains k.possible.now n && not (is_always_overruled (plant_of k.system.now) (interactions_in k.system.now) (contains k.rivals.now) n)

pub is_out-is_out-requires : goal.is_out-is_out-requires
is_out-is_out-requires c = rank-at c.args.self.now.system.now c.args.connector c.index-rank.result.now c.requires c.index-rank.ensures

pub loop-place-init : goal.loop-place-init
loop-place-init c =
    let system = c.args.self.now.system.now in
    let r = c.index-rows.result.now in
    let its = row-at system c.args.connector r c.requires c.index-rows.ensures in
    record {
      kept = λ n own below. absurd (omega (
        arith,
        below,
        (own-words system c.args.connector r c.requires its n own).0,
        c.from-place.ensures,
      ));
      others = λ n out. refl;
      same = λ _ n. refl;
    }

pub word_kept-word-requires-clause-place : goal.word_kept-word-requires-clause-place
word_kept-word-requires-clause-place c =
    omega (arith, c.loop-place-test.true, c.from-place-end.ensures, few-words c.args.self.now.system.now c.args.connector c.index-rows.result.now c.requires (row-at c.args.self.now.system.now c.args.connector c.index-rows.result.now c.requires c.index-rows.ensures))

pub word_kept-word-requires-clause-rows : goal.word_kept-word-requires-clause-rows
word_kept-word-requires-clause-rows c = row-at c.args.self.now.system.now c.args.connector c.index-rows.result.now c.requires c.index-rows.ensures

pub word_kept-word-requires-clause-rank : goal.word_kept-word-requires-clause-rank
word_kept-word-requires-clause-rank c = rank-at c.args.self.now.system.now c.args.connector c.index-rank.result.now c.requires c.index-rank.ensures

pub word_kept-word-requires-clause-free : goal.word_kept-word-requires-clause-free
word_kept-word-requires-clause-free c = c.is_out-is_out.ensures.free c.if-is_out.false

pub word-requires : goal.word-requires
word-requires c =
    omega (arith, c.loop-place-test.true, c.from-place-end.ensures, few-words c.args.self.now.system.now c.args.connector c.index-rows.result.now c.requires (row-at c.args.self.now.system.now c.args.connector c.index-rows.result.now c.requires c.index-rows.ensures))

pub put_word-is_new-requires-clause-place : goal.put_word-is_new-requires-clause-place
put_word-is_new-requires-clause-place c =
    omega (arith, c.loop-place-test.true, c.from-place-end.ensures, few-words c.args.self.now.system.now c.args.connector c.index-rows.result.now c.requires (row-at c.args.self.now.system.now c.args.connector c.index-rows.result.now c.requires c.index-rows.ensures))

none-of : (own can : Bool) → (own && (can && false)) ≡ false
none-of true true = refl
none-of true false = refl
none-of false can = refl

-- the word has what is kept of the connector
word-is : (c : Joined-is_out) (n : ℕ) → n / 64 ≡ c.loop-place.place → has_bit c.if-is_out.word (n % 64) ≡ (is_of_connector (interactions_in c.args.self.now.system.now) c.args.connector n && kept_by c.args.self.now n)
word-is c n here =
    let k = c.args.self.now in
    let own = is_of_connector (interactions_in k.system.now) c.args.connector n in
    let over = is_always_overruled (plant_of k.system.now) (interactions_in k.system.now) (contains k.rivals.now) n in
    elim c.if-is_out.branch [
      | then-is_out w ↦
          ap (λ x. has_bit x (n % 64)) w.word-is ∙ no-bit (n % 64) ∙
          ⊎_elim
          (λ its. sym (ap (λ b. own && (contains k.possible.now n && not b)) (c.is_out-is_out.ensures.out w.if-is_out.true n its) ∙ none-of own (contains k.possible.now n)))
          (λ apart. sym (ap (λ b. b && kept_by k n) apart))
          (cases_Bool own)
      | else-is_out w ↦ ap (λ x. has_bit x (n % 64)) w.word-is ∙ w.word_kept-word.ensures n here
    ]

fits : (c : Joined-is_out) → c.if-is_out.word < 2 ^ 64
fits c =
    elim c.if-is_out.branch [
      | then-is_out w ↦ omega (arith, w.word-is)
      | else-is_out w ↦ omega (arith, w.word-is, w.word_kept-word.type_inv)
    ]

pub put_word-is_new-requires-clause-own : goal.put_word-is_new-requires-clause-own
put_word-is_new-requires-clause-own c j out =
    let system = c.args.self.now.system.now in
    let place = c.loop-place.place in
    let r = c.index-rows.result.now in
    ⊎_elim
    (λ low.
    let n : ℕ = 64 * place + j in
    let here : n / 64 ≡ place = omega (arith, low) in
    let bit : n % 64 ≡ j = omega (arith, low) in
    let apart : is_of_connector (interactions_in system) c.args.connector n ≡ false =
    sym (own-of system c.args.connector r c.requires (row-at system c.args.connector r c.requires c.index-rows.ensures) n) ∙ sym (c.word.ensures n here) ∙ ap (has_bit c.word.result) bit ∙ out in
    ap (has_bit c.if-is_out.word) (sym bit) ∙ word-is c.before.before n here ∙ ap (λ b. b && kept_by c.args.self.now n) apart)
    (λ past. no-bit-past c.if-is_out.word j (fits c.before.before) past)
    (cases_lt j 64)

pub loop-place-preserved : goal.loop-place-preserved
loop-place-preserved c =
    let k = c.args.self.now in
    let system = k.system.now in
    let place = c.loop-place.place in
    let r = c.index-rows.result.now in
    let invariant = c.loop-place.invariant in
    let put = c.put_word-is_new.ensures in
    let own-bit : (n : ℕ) → n / 64 ≡ place → has_bit c.word.result (n % 64) ≡ is_of_connector (interactions_in system) c.args.connector n =
    λ n here. c.word.ensures n here ∙ own-of system c.args.connector r c.requires (row-at system c.args.connector r c.requires c.index-rows.ensures) n in
    record {
      kept = λ n own below. ⊎_elim
          (λ here. put.here n here (own-bit n here ∙ own) ∙ word-is c.before.before.before n here ∙ ap (λ b. b && kept_by k n) own)
          (λ apart. put.others n apart ∙ invariant.kept n own (omega (arith, below, apart)))
          (cases_eq (n / 64) place);
      others = λ n out. ⊎_elim
          (λ here. put.out n here (own-bit n here ∙ out) ∙ invariant.others n out)
          (λ apart. put.others n apart ∙ invariant.others n out)
          (cases_eq (n / 64) place);
      same = λ still n. let parts = or_parts c.loop-place.is_new c.put_word-is_new.result still in put.same parts.1 n ∙ invariant.same parts.0 n;
    }

pub returns-clause-kept : goal.returns-clause-kept
returns-clause-kept c n own =
    let system = c.args.self.now.system.now in
    let r = c.index-rows.result.now in
    let its = row-at system c.args.connector r c.requires c.index-rows.ensures in
    c.loop-place.invariant.kept n own (omega (arith, (own-words system c.args.connector r c.requires its n own).1, c.from-place-end.ensures, c.loop-place-test.false))
