use Rattle.std.proofs.Common.{◌≡◌, ◌+◌, ◌*◌, ◌/◌, ◌%◌, ◌^◌, ◌<◌, ◌&&◌, ◌∙◌, not, ℕ, Bool, List, [], ap, sym, refl, true, false, length, get_or, arith, ⊎_elim, w64, Vec, Global}
use Rattle.std.specs.Prelude.{Some, bit_and, slice_get}
use Rattle.std.specs.FinSet.{contains}
use Rattle.std.specs.Option.{option_map_or}
use Rattle.std.specs.Int.{bit_not, trailing_zeros}
use Rattle.std.proofs.lemmas.Bool.{and_parts, cases_eq, false≢true, true≢false}
use Rattle.std.proofs.lemmas.Option.{slice_get_read}
use Rattle.priority_filter.specs.Members.{has_bit}
use Rattle.priority_filter.specs.declared.interaction_set.TheConstants.{ROW_WORDS}
use Rattle.priority_filter.proofs.Words.{bit-and}
use Rattle.plant_model.specs.Ranks.{is_in_parts, is_in_rest, rest_of}
use Rattle.plant_model.specs.System.{interactions_in, plant_of}
use Rattle.plant_model.specs.declared.ranks.Part.{Part}
use Rattle.plant_model.proofs.WithoutLowest.{fewer-less}
use Rattle.step_core.specs.Standing.{is_always_overruled}
use Rattle.step_core.specs.declared.keeping.Keeping.{Keeping}
use Rattle.plant_model.proofs.BitsLeft.{fewer-in, fewer-out, lowest-below, lowest-set}
use Rattle.plant_model.proofs.WordSets.{bit-without}
use Rattle.step_core.proofs.OwnBits.{alone-here, alone-other}
use Rattle.step_core.proofs.Ranked.{has-rest, over-by, part-low, rest-above, rest-count}
use Rattle.step_core.proofs.keeping.Keeping.without_overruled.Goals as goal

pub loop-left-smaller-then-has_rival_in : goal.loop-left-smaller-then-has_rival_in
loop-left-smaller-then-has_rival_in c = fewer-less w64 c.loop-left.left (omega (arith, c.loop-left-test.true)) (omega arith)

pub loop-left-smaller : goal.loop-left-smaller
loop-left-smaller c = fewer-less w64 c.loop-left.left (omega (arith, c.loop-left-test.true)) (omega arith)

pub loop-left-init : goal.loop-left-init
loop-left-init c =
    let system = c.args.self.now.system.now in
    record {
      part = λ k inside. (and_parts (has_bit c.args.word k) (has_bit c.word.result k) (sym (bit-and c.args.word c.word.result k) ∙ inside)).0;
      within = λ k out. out;
      goes = λ n m here inside rival out. and-none (has_bit c.args.word (n % 64)) (has_bit c.word.result (n % 64)) (c.word.ensures n here ∙ has-rest system n m inside) (sym (bit-and c.args.word c.word.result (n % 64)) ∙ out);
      gone = λ n here inside out. absurd (true≢false (sym inside ∙ out));
    }
  where
    and-none : (x y : Bool) → y ≡ true → (x && y) ≡ false → x ≡ false
    and-none true y yes_ none = sym yes_ ∙ none
    and-none false y yes_ none = refl

-- the interaction that is looked at is there, and its rest is what is asked
module _ (k : Keeping) (place word left : ℕ) (some : 0 < left) (small : left < 2 ^ 64) (part : (j : ℕ) → has_bit left j ≡ true → has_bit word j ≡ true)
    (there : (n : ℕ) → n / 64 ≡ place → has_bit word (n % 64) ≡ true → n < length (interactions_in k.system.now)) where
  abbrev bit : ℕ
  bit = trailing_zeros w64 left

  abbrev number : ℕ
  number = 64 * place + bit

  here : number / 64 ≡ place
  here = omega (arith, lowest-below left some small)

  at : number % 64 ≡ bit
  at = omega (arith, lowest-below left some small)

  within : number < length k.system.now.ranks.rest.items
  within = omega (arith, there number here (ap (has_bit word) at ∙ part bit (lowest-set left some small)), rest-count k.system.now)

  -- a number of the word is it, or has another bit
  is-number : (n : ℕ) → n / 64 ≡ place → n % 64 ≡ bit → n ≡ number
  is-number n its same = omega (arith, its, same)

  module _ (its : Vec Part Global) (read : its ≡ get_or k.system.now.ranks.rest.items number its) (parts : List Part) (value : parts ≡ its.items) where
    rest-is : rest_of k.system.now.ranks number ≡ parts
    rest-is =
        ap (λ o. option_map_or (λ (v : Vec Part Global). v.items) o []) (slice_get_read k.system.now.ranks.rest.items (length k.system.now.ranks.rest.items) number its refl within read) ∙ sym value

    places : (j : ℕ) (p : Part) → slice_get parts j ≡ Some p → p.place < ROW_WORDS
    places j p found = part-low k.system.now number j p (ap (λ ps. slice_get ps j) rest-is ∙ found)

    -- where no rival is in it, or one is
    none-in : ((m : ℕ) → is_in_parts parts m ≡ true → contains k.rivals.now m ≡ false) → (m : ℕ) → is_in_rest k.system.now.ranks number m ≡ true → contains k.rivals.now m ≡ true → ⊥
    none-in none m inside rival = false≢true (sym (none m (ap (λ ps. is_in_parts ps m) (sym rest-is) ∙ inside)) ∙ rival)

    over : (m : ℕ) × (is_in_parts parts m ≡ true) × (contains k.rivals.now m ≡ true) → is_always_overruled (plant_of k.system.now) (interactions_in k.system.now) (contains k.rivals.now) number ≡ true
    over found = over-by k.system.now (contains k.rivals.now) number found.0 found.2 (rest-above k.system.now number found.0 (ap (λ ps. is_in_parts ps found.0) rest-is ∙ found.1))

pub index-requires : goal.index-requires
index-requires c =
    omega (arith, within c.args.self.now c.args.place c.args.word c.loop-left.left (omega (arith, c.loop-left-test.true)) (omega arith) c.loop-left.invariant.part c.requires.there, c.args.self.now.system.now.ranks.rest.ok.0)

pub has_rival_in-requires : goal.has_rival_in-requires
has_rival_in-requires c =
    places c.args.self.now c.args.place c.args.word c.loop-left.left (omega (arith, c.loop-left-test.true)) (omega arith) c.loop-left.invariant.part c.requires.there
    c.index.result.now c.index.ensures c.deref.result.now c.deref.ensures.value

pub loop-left-preserved-then-has_rival_in : goal.loop-left-preserved-then-has_rival_in
loop-left-preserved-then-has_rival_in c =
    let k = c.args.self.now in
    let place = c.args.place in
    let left = c.loop-left.left in
    let kept = c.loop-left.here in
    let some : 0 < left = omega (arith, c.loop-left-test.true) in
    let small : left < 2 ^ 64 = omega arith in
    let bit = trailing_zeros w64 left in
    let low = lowest-below left some small in
    let before = c.loop-left.invariant in
    let its = number k place c.args.word left some small before.part c.requires.there in
    let overruled = over k place c.args.word left some small before.part c.requires.there c.index.result.now c.index.ensures c.deref.result.now c.deref.ensures.value (c.has_rival_in.ensures.some c.if-has_rival_in.true) in
    let rest : (j : ℕ) → j < 64 → has_bit (bit_and kept (bit_not w64 (1 * 2 ^ bit % 2 ^ 64))) j ≡ (has_bit kept j && not (has_bit (1 * 2 ^ bit % 2 ^ 64) j)) = λ j lower. bit-without kept (1 * 2 ^ bit % 2 ^ 64) j (omega arith) lower in
    let stays : (j : ℕ) → has_bit kept j ≡ false → has_bit (bit_and kept (bit_not w64 (1 * 2 ^ bit % 2 ^ 64))) j ≡ false =
    λ j out. bit-and kept (bit_not w64 (1 * 2 ^ bit % 2 ^ 64)) j ∙ ap (λ b. b && has_bit (bit_not w64 (1 * 2 ^ bit % 2 ^ 64)) j) out in
    record {
      part = λ j inside. before.part j (fewer-in left some small j inside);
      within = λ j out. stays j (before.within j out);
      goes = λ n m at_place inside rival out. ⊎_elim
          (λ same. rest (n % 64) (omega arith) ∙ ap (λ j. has_bit kept j && not (has_bit (1 * 2 ^ bit % 2 ^ 64) j)) same ∙ ap (λ b. has_bit kept bit && not b) (alone-here bit low) ∙ never (has_bit kept bit))
          (λ other. stays (n % 64) (before.goes n m at_place inside rival (fewer-out left some small (n % 64) other out)))
          (cases_eq (n % 64) bit);
      gone = λ n at_place inside out. ⊎_elim
          (λ same. ap (is_always_overruled (plant_of k.system.now) (interactions_in k.system.now) (contains k.rivals.now)) (is-number k place c.args.word left some small before.part c.requires.there n at_place same) ∙ overruled)
          (λ other. before.gone n at_place inside
          (sym (rest (n % 64) (omega arith) ∙ ap (λ b. has_bit kept (n % 64) && not b) (alone-other bit (n % 64) low other) ∙ and-true (has_bit kept (n % 64))) ∙ out))
          (cases_eq (n % 64) bit);
    }
  where
    never : (b : Bool) → (b && false) ≡ false
    never true = refl
    never false = refl

    and-true : (b : Bool) → (b && true) ≡ b
    and-true true = refl
    and-true false = refl

pub loop-left-preserved : goal.loop-left-preserved
loop-left-preserved c =
    let k = c.args.self.now in
    let place = c.args.place in
    let left = c.loop-left.left in
    let some : 0 < left = omega (arith, c.loop-left-test.true) in
    let small : left < 2 ^ 64 = omega arith in
    let before = c.loop-left.invariant in
    let no_rival = none-in k place c.args.word left some small before.part c.requires.there c.index.result.now c.index.ensures c.deref.result.now c.deref.ensures.value (c.has_rival_in.ensures.none c.if-has_rival_in.false) in
    record {
      part = λ j inside. before.part j (fewer-in left some small j inside);
      within = before.within;
      goes = λ n m at_place inside rival out. ⊎_elim
          (λ same. absurd (no_rival m (ap (λ l. is_in_rest k.system.now.ranks l m) (sym (is-number k place c.args.word left some small before.part c.requires.there n at_place same)) ∙ inside) rival))
          (λ other. before.goes n m at_place inside rival (fewer-out left some small (n % 64) other out))
          (cases_eq (n % 64) (trailing_zeros w64 left));
      gone = before.gone;
    }
