use Rattle.std.proofs.Common.{◌≡◌, ◌+◌, ◌*◌, ◌/◌, ◌%◌, ◌<◌, ◌^◌, ◌&&◌, ◌∙◌, not, ℕ, Bool, refl, ap, sym, true, false, arith, ⊎_elim, w64}
use Rattle.std.specs.Prelude.{bit_and}
use Rattle.std.specs.FinSet.{contains}
use Rattle.std.specs.Int.{bit_not}
use Rattle.std.proofs.lemmas.Bool.{and_from, and_parts, cases_Bool, cases_eq, false≢true, true≢false}
use Rattle.std.proofs.lemmas.Nat.{and_le_l}
use Rattle.priority_filter.specs.Active.{unconditional}
use Rattle.priority_filter.specs.Decided.{is_below}
use Rattle.priority_filter.specs.Members.{has_bit}
use Rattle.priority_filter.proofs.Words.{bit-and, bit-not}
use Rattle.plant_model.specs.System.{interactions_in, plant_of}
use Rattle.step_core.specs.Standing.{is_always_below}
use Rattle.plant_model.proofs.WordSets.{bit-without}
use Rattle.step_core.proofs.OwnBits.{alone-here, alone-other, highest, highest-below, highest-set}
use Rattle.step_core.proofs.Ranked.{over-by, under-trans}
use Rattle.step_core.proofs.keeping.Keeping.without_below.Goals as goal

and-none : (b : Bool) → (b && false) ≡ false
and-none true = refl
and-none false = refl

-- what is left of a word without its highest bit, and without more
module _ (left : ℕ) (some : 0 < left) (small : left < 2 ^ 64) (gone : ℕ) (fits : gone < 2 ^ 64) where
  abbrev top : ℕ
  top = 1 * 2 ^ highest left some small % 2 ^ 64

  abbrev rest : ℕ
  rest = bit_and left (bit_and (bit_not w64 top) (bit_not w64 gone))

  rest-in : (k : ℕ) → has_bit rest k ≡ true → has_bit left k ≡ true
  rest-in k inside = (and_parts (has_bit left k) _ (sym (bit-and left (bit_and (bit_not w64 top) (bit_not w64 gone)) k) ∙ inside)).0

  rest-bit : (k : ℕ) → k < 64 → has_bit rest k ≡ (has_bit left k && (not (has_bit top k) && not (has_bit gone k)))
  rest-bit k low =
      bit-and left (bit_and (bit_not w64 top) (bit_not w64 gone)) k ∙
      ap (λ b. has_bit left k && b) (bit-and (bit_not w64 top) (bit_not w64 gone) k ∙ ap (λ b. b && has_bit (bit_not w64 gone) k) (bit-not top k (omega arith) low) ∙ ap (λ b. not (has_bit top k) && b) (bit-not gone k fits low))

  -- the bit of another one that is left goes only if it is among these
  rest-out : (k : ℕ) → k < 64 → (k ≡ highest left some small → ⊥) → has_bit left k ≡ true → has_bit rest k ≡ false → has_bit gone k ≡ true
  rest-out k low other inside out =
      ⊎_elim
      (λ yes_. yes_)
      (λ none. absurd (true≢false (
      sym (rest-bit k low ∙ and_from (has_bit left k) (not (has_bit top k) && not (has_bit gone k)) inside
      (and_from (not (has_bit top k)) (not (has_bit gone k)) (ap not (alone-other (highest left some small) k (highest-below left some small) other)) (ap not none))) ∙ out)))
      (cases_Bool (has_bit gone k))

  highest-gone : has_bit rest (highest left some small) ≡ false
  highest-gone =
      rest-bit (highest left some small) (highest-below left some small) ∙
      ap (λ b. has_bit left (highest left some small) && (not b && not (has_bit gone (highest left some small)))) (alone-here (highest left some small) (highest-below left some small)) ∙
      and-none (has_bit left (highest left some small))

  rest-less : rest < left
  rest-less =
      ⊎_elim
      (λ same. absurd (false≢true (sym highest-gone ∙ ap (λ w. has_bit w (highest left some small)) same ∙ highest-set left some small)))
      (λ other. omega (arith, and_le_l left (bit_and (bit_not w64 top) (bit_not w64 gone)), other))
      (cases_eq rest left)

pub loop-left-smaller : goal.loop-left-smaller
loop-left-smaller c = rest-less c.loop-left.left (omega (arith, c.loop-left-test.true)) (omega arith) c.below_word-in-loop-left.result (omega arith)

pub loop-left-preserved : goal.loop-left-preserved
loop-left-preserved c =
    let k = c.args.self.now in
    let system = k.system.now in
    let all = interactions_in system in
    let rivals = contains k.rivals.now in
    let left = c.loop-left.left in
    let here = c.loop-left.here in
    let some : 0 < left = omega (arith, c.loop-left-test.true) in
    let small : left < 2 ^ 64 = omega arith in
    let first = c.below_word.result in
    let second = c.below_word-in-loop-left.result in
    let fits : second < 2 ^ 64 = omega arith in
    let bit : ℕ = highest left some small in
    let low = highest-below left some small in
    let rival : ℕ = 64 * c.args.other + bit in
    let at_other : rival / 64 ≡ c.args.other = omega (arith, low) in
    let its_bit : rival % 64 ≡ bit = omega (arith, low) in
    let invariant = c.loop-left.invariant in
    let below : (n : ℕ) → n / 64 ≡ c.args.place → has_bit first (n % 64) ≡ is_always_below (plant_of system) all n rival =
    λ n at. c.below_word.ensures n at ∙ ap (λ list. is_below (unconditional (plant_of system).rules) list n rival) system.ordered in
    let below-own : (m : ℕ) → m / 64 ≡ c.args.other → has_bit second (m % 64) ≡ is_always_below (plant_of system) all m rival =
    λ m at. c.below_word-in-loop-left.ensures m at ∙ ap (λ list. is_below (unconditional (plant_of system).rules) list m rival) system.ordered in
    let left-here : (j : ℕ) → j < 64 → has_bit (bit_and here (bit_not w64 first)) j ≡ (has_bit here j && not (has_bit first j)) = λ j lower. bit-without here first j (omega arith) lower in
    let is_rival : rivals rival ≡ true = c.requires.rivals rival at_other (ap (has_bit c.args.rivals) its_bit ∙ invariant.part bit (highest-set left some small)) in
    let goes-by : (n : ℕ) → n / 64 ≡ c.args.place → is_always_below (plant_of system) all n rival ≡ true → has_bit (bit_and here (bit_not w64 first)) (n % 64) ≡ false =
    λ n at up. left-here (n % 64) (omega arith) ∙ ap (λ b. has_bit here (n % 64) && not b) (below n at ∙ up) ∙ and-none (has_bit here (n % 64)) in
    record {
      part = λ j inside. invariant.part j (rest-in left some small second fits j inside);
      within = λ j out. bit-and here (bit_not w64 first) j ∙ ap (λ b. b && has_bit (bit_not w64 first) j) (invariant.within j out);
      goes = λ n m at its is out up. ⊎_elim
          (λ still. ⊎_elim
          (λ same. goes-by n at (ap (is_always_below (plant_of system) all n) (omega (arith, its, same)) ∙ up))
          (λ other. goes-by n at (under-trans system n m rival up (sym (below-own m its) ∙ rest-out left some small second fits (m % 64) (omega arith) other still out)))
          (cases_eq (m % 64) bit))
          (λ went. bit-and here (bit_not w64 first) (n % 64) ∙ ap (λ b. b && has_bit (bit_not w64 first) (n % 64)) (invariant.goes n m at its is went up))
          (cases_Bool (has_bit left (m % 64)));
      gone = λ n at inside out. ⊎_elim
          (λ still. over-by system rivals n rival is_rival (⊎_elim
          (λ up. sym (below n at) ∙ up)
          (λ none. absurd (true≢false (sym (left-here (n % 64) (omega arith) ∙ and_from (has_bit here (n % 64)) (not (has_bit first (n % 64))) still (ap not none)) ∙ out)))
          (cases_Bool (has_bit first (n % 64)))))
          (λ went. invariant.gone n at inside went)
          (cases_Bool (has_bit here (n % 64)));
    }
