use Rattle.std.proofs.Common.{◌≡◌, ◌/◌, ◌%◌, ◌<◌, ◌&&◌, ◌||◌, ◌∙◌, ℕ, Bool, refl, ap, sym, true, false, arith, ⊎_elim}
use Rattle.std.specs.Prelude.{bit_and, bit_or}
use Rattle.std.specs.FinSet.{contains}
use Rattle.std.proofs.lemmas.Bool.{cases_Bool, cases_eq, false≢true}
use Rattle.petri_atom.proofs.Sets.{has-or}
use Rattle.priority_filter.specs.Members.{has_bit}
use Rattle.priority_filter.proofs.Words.{bit-and}
use Rattle.plant_model.specs.ConnectorRows.{is_of_connector}
use Rattle.plant_model.specs.System.{interactions_in}
use Rattle.step_core.proofs.Looked.{look-next, none-looked}
use Rattle.step_core.proofs.OwnRange.{few-words, own-of, own-words, row-at}
use Rattle.step_core.proofs.standing.copy_own.Goals as goal

and-true : (b : Bool) → (b && true) ≡ b
and-true true = refl
and-true false = refl

never : (b : Bool) → (b && false) ≡ false
never true = refl
never false = refl

pub loop-place-init : goal.loop-place-init
loop-place-init c =
    let system = c.args.system.now in
    let k = c.args.connector in
    let r = c.index-rows.result.now in
    let before : (n : ℕ) → is_of_connector (interactions_in system) k n ≡ true → n / 64 < c.from-place.result → ⊥ =
    λ n own below. omega (arith, below, (own-words system k r c.requires (row-at system k r c.requires c.index-rows.ensures) n own).0, c.from-place.ensures) in
    record {
      own = λ n own below. absurd (before n own below);
      others = λ n out. refl;
      looked = none-looked (interactions_in system) system.ranks k c.from-place.result (contains c.args.set.now) (λ n. contains c.args.one.now n || contains c.args.other.now n) c.none-rivalry.result c.none-rivalry.ensures.rival before;
    }

pub word-own-requires : goal.word-own-requires
word-own-requires c =
    omega (arith, c.loop-place-test.true, c.from-place-end.ensures, few-words c.args.system.now c.args.connector c.index-rows.result.now c.requires (row-at c.args.system.now c.args.connector c.index-rows.result.now c.requires c.index-rows.ensures))

pub word-requires : goal.word-requires
word-requires c =
    omega (arith, c.loop-place-test.true, c.from-place-end.ensures, few-words c.args.system.now c.args.connector c.index-rows.result.now c.requires (row-at c.args.system.now c.args.connector c.index-rows.result.now c.requires c.index-rows.ensures))

pub word-requires-in-loop-place : goal.word-requires-in-loop-place
word-requires-in-loop-place c =
    omega (arith, c.loop-place-test.true, c.from-place-end.ensures, few-words c.args.system.now c.args.connector c.index-rows.result.now c.requires (row-at c.args.system.now c.args.connector c.index-rows.result.now c.requires c.index-rows.ensures))

pub word-requires-in-loop-place-2 : goal.word-requires-in-loop-place-2
word-requires-in-loop-place-2 c =
    omega (arith, c.loop-place-test.true, c.from-place-end.ensures, few-words c.args.system.now c.args.connector c.index-rows.result.now c.requires (row-at c.args.system.now c.args.connector c.index-rows.result.now c.requires c.index-rows.ensures))

pub look-requires : goal.look-requires
look-requires c =
    omega (arith, c.loop-place-test.true, c.from-place-end.ensures, few-words c.args.system.now c.args.connector c.index-rows.result.now c.requires (row-at c.args.system.now c.args.connector c.index-rows.result.now c.requires c.index-rows.ensures))

pub put_word-requires-clause-place : goal.put_word-requires-clause-place
put_word-requires-clause-place c =
    omega (arith, c.loop-place-test.true, c.from-place-end.ensures, few-words c.args.system.now c.args.connector c.index-rows.result.now c.requires (row-at c.args.system.now c.args.connector c.index-rows.result.now c.requires c.index-rows.ensures))

pub put_word-requires-clause-own : goal.put_word-requires-clause-own
put_word-requires-clause-own c k out =
    let both = bit_or c.word-in-loop-place.result c.word-in-loop-place-2.result in
    bit-and both c.word-own.result k ∙ ap (λ b. has_bit both k && b) out ∙ never (has_bit both k)

pub loop-place-preserved : goal.loop-place-preserved
loop-place-preserved c =
    let system = c.args.system.now in
    let all = interactions_in system in
    let k = c.args.connector in
    let r = c.index-rows.result.now in
    let its = row-at system k r c.requires c.index-rows.ensures in
    let place = c.loop-place.place in
    let invariant = c.loop-place.invariant in
    let own = c.word-own.result in
    let before = bit_and c.word.result own in
    let one = c.word-in-loop-place.result in
    let other = c.word-in-loop-place-2.result in
    let now = bit_and (bit_or one other) own in
    let put = c.put_word.ensures in
    let looked = c.look.ensures in
    let rival : ℕ → Bool = λ n. contains c.args.one.now n || contains c.args.other.now n in
    let own-bit : (n : ℕ) → n / 64 ≡ place → has_bit own (n % 64) ≡ is_of_connector all k n = λ n here. c.word-own.ensures n here ∙ own-of system k r c.requires its n in
    let before-bit : (n : ℕ) → n / 64 ≡ place → has_bit before (n % 64) ≡ (contains c.args.set.now n && is_of_connector all k n) =
    λ n here. bit-and c.word.result own (n % 64) ∙ ap (λ b. b && has_bit own (n % 64)) (c.word.ensures n here ∙ invariant.others n (λ _ lower. omega (arith, lower, here))) ∙ ap (λ b. contains c.args.set.now n && b) (own-bit n here) in
    let now-bit : (n : ℕ) → n / 64 ≡ place → has_bit now (n % 64) ≡ (rival n && is_of_connector all k n) =
    λ n here. bit-and (bit_or one other) own (n % 64) ∙ ap (λ b. b && has_bit own (n % 64)) (has-or one other (n % 64)) ∙
    ap (λ b. (b || has_bit other (n % 64)) && has_bit own (n % 64)) (c.word-in-loop-place.ensures n here) ∙
    ap (λ b. (contains c.args.one.now n || b) && has_bit own (n % 64)) (c.word-in-loop-place-2.ensures n here) ∙
    ap (λ b. rival n && b) (own-bit n here) in
    record {
      own = λ n of_it below. ⊎_elim
          (λ here. put.here n here (own-bit n here ∙ of_it) ∙ now-bit n here ∙ ap (λ b. rival n && b) of_it ∙ and-true (rival n))
          (λ apart. put.others n apart ∙ invariant.own n of_it (omega (arith, below, apart)))
          (cases_eq (n / 64) place);
      others = λ n out. ⊎_elim
          (λ here. put.out n here (own-bit n here ∙ ⊎_elim (λ of_it. absurd (out of_it (omega (arith, here)))) (λ no. no) (cases_Bool (is_of_connector all k n))) ∙ invariant.others n (λ of_it below. out of_it (omega (arith, below))))
          (λ apart. put.others n apart ∙ invariant.others n (λ of_it below. out of_it (omega (arith, below))))
          (cases_eq (n / 64) place);
      looked = look-next all system.ranks k place (contains c.args.set.now) rival before now c.loop-place.rivalry c.look.new.self invariant.looked before-bit now-bit
          looked.rival looked.was_watched looked.watched looked.was_head looked.head;
    }

pub returns-clause-own : goal.returns-clause-own
returns-clause-own c n own =
    let r = c.index-rows.result.now in
    let its = row-at c.args.system.now c.args.connector r c.requires c.index-rows.ensures in
    c.loop-place.invariant.own n own (omega (arith, (own-words c.args.system.now c.args.connector r c.requires its n own).1, c.from-place-end.ensures, c.loop-place-test.false))

pub returns-clause-rivalry : goal.returns-clause-rivalry
returns-clause-rivalry c =
    let system = c.args.system.now in
    let all = interactions_in system in
    let k = c.args.connector in
    let r = c.index-rows.result.now in
    let its = row-at system k r c.requires c.index-rows.ensures in
    let invariant = c.loop-place.invariant in
    let within : (n : ℕ) → is_of_connector all k n ≡ true → n / 64 < c.loop-place.place =
    λ n own. omega (arith, (own-words system k r c.requires its n own).1, c.from-place-end.ensures, c.loop-place-test.false) in
    let right : (n : ℕ) → is_of_connector all k n ≡ true → contains c.loop-place.set n ≡ (contains c.args.one.now n || contains c.args.other.now n) = λ n own. invariant.own n own (within n own) in
    let looked = invariant.looked in
    record {
      others = λ n out. invariant.others n (λ own _. false≢true (sym out ∙ own));
      some = (
        λ yes_. let found = looked.some yes_ in (found.0, found.1, right found.0 found.1 ∙ found.2),
        λ rival. looked.none rival.0 rival.1 (within rival.0 rival.1) (sym (right rival.0 rival.1) ∙ rival.2),
      );
      same = λ still n own seen. right n own ∙ looked.same still n own (within n own) seen;
      same_heads = λ still n own seen. right n own ∙ looked.same_heads still n own (within n own) seen;
    }
