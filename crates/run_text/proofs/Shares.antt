-- What numbers take by the weights of connectors.
use Rattle.std.proofs.Common.{◌≡◌, ◌≢◌, ◌↔◌, ℕ, zero, suc, ◌+◌, ◌-◌, ◌/◌, ◌%◌, ◌<◌, ◌≤◌, ◌==◌, nat_lt, ◌∙◌, refl, sym, ap, subst, arith, Bool, true, false, cond, if◌then◌else◌, List, [], ◌∷◌, ◌++◌, length, map, take, get_or, set}
use Rattle.std.specs.Prelude.{Option, Some, None, slice_get}
use Rattle.std.specs.List.{range_with_len, sum}
use Rattle.std.specs.Option.{option_and_then}
use Rattle.std.proofs.Math.Nat.{mod-lt}
use Rattle.std.proofs.lemmas.Bool.{cond-false, cond-true, eq-eqb, eqb-false, eqb-true, ltb-false, ltb-true, ne_eqb}
use Rattle.std.proofs.lemmas.List.{get_or-take, length-take}
use Rattle.std.proofs.lemmas.List.Edits.{fill_by_more}
use Rattle.std.proofs.lemmas.List.FromFn.{fill_by_all, get_or-map-range_with_len, get_or-range_with_len, length-map-range_with_len, length-range_with_len}
use Rattle.std.proofs.lemmas.List.Sums.{sum_by-cons}
use Rattle.std.proofs.lemmas.Option.{none-some, option_and_then_some, same_Some, slice_get-get_or, slice_get_within}
use Rattle.petri_atom.specs.Local.{Local}
use Rattle.plant_model.specs.Plant.{PlantDefinition}
use Rattle.plant_model.specs.Choice.{ChoiceDefinition, IsAllowed, choices}
use Rattle.plant_model.specs.declared.limits.TheConstants.{MAX_WIRES}
use Rattle.plant_model.proofs.Membership.{entry-in}
use Rattle.text_io.specs.Numbered.{numbered}
use Rattle.run_text.specs.OwnNumbers.{AreOwn, numbers_of, own_number}
use Rattle.run_text.specs.Weights.{by_shares, by_weight, falls_to, own_choice, weight_in, weights_in}
use Rattle.run_text.specs.declared.own_numbers.OwnNumbers.{OwnNumbers}

-- ---- running sums

sum-cons : (w : ℕ) (ws : List ℕ) → sum (w ∷ ws) ≡ w + sum ws
sum-cons w ws = sum_by-cons (λ x. x) w ws

-- a number below the sum falls to a place of the list, whose weight is not 0; the weights before it make no more than the number, and with this one more
pub falls-within : (n : ℕ) (ws : List ℕ) → n < sum ws
    → (falls_to n ws < length ws) × (0 < get_or ws (falls_to n ws) 0) × (sum (take (falls_to n ws) ws) ≤ n) × (n < sum (take (suc (falls_to n ws)) ws))
falls-within n [] less = absurd (omega (arith, less))
falls-within n (w ∷ ws) less = each (λ more. falls-within (n - w) ws more) (nat_lt n w) refl
  where
    each : (n - w < sum ws → (falls_to (n - w) ws < length ws) × (0 < get_or ws (falls_to (n - w) ws) 0) × (sum (take (falls_to (n - w) ws) ws) ≤ n - w) × (n - w < sum (take (suc (falls_to (n - w) ws)) ws)))
        → (b : Bool) → nat_lt n w ≡ b → (cond b 0 (suc (falls_to (n - w) ws)) < length (w ∷ ws)) × (0 < get_or (w ∷ ws) (cond b 0 (suc (falls_to (n - w) ws))) 0)
        × (sum (take (cond b 0 (suc (falls_to (n - w) ws))) (w ∷ ws)) ≤ n) × (n < sum (take (suc (cond b 0 (suc (falls_to (n - w) ws)))) (w ∷ ws)))
    each rest true is =
        let below : n < w = ltb-true n w is in
        let alone : sum (w ∷ []) ≡ w + 0 = sum-cons w [] in
        (omega arith, omega (arith, below), omega arith, omega (arith, below, alone))
    each rest false is =
        let above : w ≤ n = ltb-false n w is in
        let later = rest (omega (arith, less, sum-cons w ws, above)) in
        (omega (arith, later.0), later.1, omega (arith, sum-cons w (take (falls_to (n - w) ws) ws), later.2, above), subst (λ m. n < m) (sym (sum-cons w (take (suc (falls_to (n - w) ws)) ws))) (omega (arith, later.3, above)))

-- ---- the choices of a connector

-- numbers in a row, by their places
row-entry : (first count i : ℕ) → i < count → slice_get (range_with_len first count) i ≡ Some (first + i)
row-entry first count i within =
    slice_get-get_or (range_with_len first count) i 0 (omega (arith, within, length-range_with_len first count)) ∙ ap Some (get_or-range_with_len first count i 0 within)

-- an own number is the place of a choice, which is of the connector
own-entry : (k n : ℕ) (cs : List ChoiceDefinition) (i number : ℕ) → slice_get (numbered (own_number k) n cs) i ≡ Some number
    → (place : ℕ) × (c : ChoiceDefinition) × (number ≡ n + place) × (slice_get cs place ≡ Some c) × (c.connector ≡ k)
own-entry k n [] i number is = absurd (none-some number is)
own-entry k n (c ∷ cs) i number is = each (λ j at. own-entry k (n + 1) cs j number at) (c.connector == k) refl i is
  where
    later : (place : ℕ) × (d : ChoiceDefinition) × (number ≡ n + 1 + place) × (slice_get cs place ≡ Some d) × (d.connector ≡ k)
        → (place : ℕ) × (d : ChoiceDefinition) × (number ≡ n + place) × (slice_get (c ∷ cs) place ≡ Some d) × (d.connector ≡ k)
    later at = (suc at.0, at.1, omega (arith, at.2), at.3, at.4)

    each : ((j : ℕ) → slice_get (numbered (own_number k) (n + 1) cs) j ≡ Some number → (place : ℕ) × (d : ChoiceDefinition) × (number ≡ n + 1 + place) × (slice_get cs place ≡ Some d) × (d.connector ≡ k))
        → (b : Bool) → (c.connector == k) ≡ b → (j : ℕ) → slice_get (cond b (n ∷ []) [] ++ numbered (own_number k) (n + 1) cs) j ≡ Some number
        → (place : ℕ) × (d : ChoiceDefinition) × (number ≡ n + place) × (slice_get (c ∷ cs) place ≡ Some d) × (d.connector ≡ k)
    each more true own zero at = (0, c, omega (arith, same_Some n number at), refl, eqb-true c.connector k own)
    each more true own (suc j) at = later (more j at)
    each more false own j at = later (more j at)

module _ (plant : PlantDefinition) (states : List Local) where
  abbrev cs : List ChoiceDefinition
  cs = choices plant states

  -- what a number takes among a connector's choices is one of the state's, and of the connector
  pub own-is : (k n : ℕ) (c : ChoiceDefinition) → own_choice plant states k n ≡ Some c → IsAllowed plant states c × (c.connector ≡ k)
  own-is k n c is =
      option_and_then_some (slice_get cs) (slice_get (numbers_of plant states k) (n % length (numbers_of plant states k))) c is
      (λ number at there.
      let entry = own-entry k 0 cs (n % length (numbers_of plant states k)) number at in
      let place_is : number ≡ entry.0 = omega (arith, entry.2) in
      let same : c ≡ entry.1 = same_Some c entry.1 (sym there ∙ ap (slice_get cs) place_is ∙ entry.3) in
      (entry-in cs number c there, ap (λ d. d.connector) same ∙ entry.4))

  -- a connector that has a choice has one for each number
  own-some : (k n : ℕ) → 0 < length (numbers_of plant states k) → (c : ChoiceDefinition) × (own_choice plant states k n ≡ Some c)
  own-some k n some =
      let numbers = numbers_of plant states k in
      let i = n % length numbers in
      let at : slice_get numbers i ≡ Some (get_or numbers i 0) = slice_get-get_or numbers i 0 (mod-lt n some) in
      let entry = own-entry k 0 cs i (get_or numbers i 0) at in
      let place_is : get_or numbers i 0 ≡ entry.0 = omega (arith, entry.2) in
      (entry.1, ap (option_and_then (slice_get cs)) at ∙ ap (slice_get cs) place_is ∙ entry.3)

  -- where a connector's numbers are known
  pub own-at : (k n : ℕ) (own : OwnNumbers) → AreOwn plant states k own → own.first < own.end → own_choice plant states k n ≡ slice_get cs (own.first + n % (own.end - own.first))
  own-at k n own are some =
      let count = own.end - own.first in
      let row = range_with_len own.first count in
      let long : length row ≡ count = length-range_with_len own.first count in
      let within : n % count < count = mod-lt n (omega (arith, some)) in
      ap (λ numbers. option_and_then (slice_get cs) (slice_get numbers (n % length numbers))) are.numbers
      ∙ ap (λ l. option_and_then (slice_get cs) (slice_get row (n % l))) long
      ∙ ap (option_and_then (slice_get cs)) (row-entry own.first count (n % count) within)

  -- ---- weights

  module _ (weights : List ℕ) where
    -- where a connector's numbers are known, so is its weight
    pub own-weight : (k share : ℕ) (own : OwnNumbers) → AreOwn plant states k own → share ≡ (if own.end - own.first == 0 then 0 else get_or weights k 0) → share ≡ weight_in plant states weights k
    own-weight k share own are is =
        let many : length (numbers_of plant states k) ≡ own.end - own.first = ap length are.numbers ∙ length-range_with_len own.first (own.end - own.first) in
        is ∙ ap (λ (count : ℕ). if count == 0 then 0 else get_or weights k 0) (sym many)

    -- and so are those of one connector more
    pub more-shares : (shares : List ℕ) (i share : ℕ) → i < length shares → ((k : ℕ) → k < i → get_or shares k 0 ≡ weight_in plant states weights k) → share ≡ weight_in plant states weights i
        → (k : ℕ) → k < i + 1 → get_or (set shares i share) k 0 ≡ weight_in plant states weights k
    more-shares shares i share within so_far is k below =
        ap (λ w. get_or (set shares i w) k 0) is ∙ fill_by_more (weight_in plant states weights) shares i 0 within so_far k below

    -- the weights of all connectors of the plant, where each is known
    pub own-weights : (shares : List ℕ) → length plant.wires ≤ MAX_WIRES → length shares ≡ MAX_WIRES → ((k : ℕ) → k < MAX_WIRES → get_or shares k 0 ≡ weight_in plant states weights k)
        → take (length plant.wires) shares ≡ weights_in plant states weights
    own-weights shares few long each =
        fill_by_all (weight_in plant states weights) (take (length plant.wires) shares) (length plant.wires) 0 (omega (arith, few, long, length-take (length plant.wires) shares))
        (λ k below. get_or-take (length plant.wires) shares k 0 below ∙ each k (omega (arith, below, few)))

    -- a connector's weight, by its place among those of the plant
    weight-at : (k : ℕ) → k < length plant.wires → get_or (weights_in plant states weights) k 0 ≡ weight_in plant states weights k
    weight-at k within = get_or-map-range_with_len (weight_in plant states weights) 0 (length plant.wires) k k 0 within (omega arith)

    -- a connector that weighs something has a choice, and a weight is set for it
    weighs : (k : ℕ) → 0 < weight_in plant states weights k → (0 < length (numbers_of plant states k)) × (0 < get_or weights k 0)
    weighs k some = each (length (numbers_of plant states k) == 0) refl some
      where
        each : (b : Bool) → (length (numbers_of plant states k) == 0) ≡ b → 0 < cond b 0 (get_or weights k 0) → (0 < length (numbers_of plant states k)) × (0 < get_or weights k 0)
        each true is more = absurd (omega (arith, more))
        each false is more = (let other : length (numbers_of plant states k) ≢ 0 = eqb-false (length (numbers_of plant states k)) 0 is in omega (arith, other), more)

    -- so has the one that a number falls to
    pub fallen-weighs : (n : ℕ) → n < sum (weights_in plant states weights)
        → (falls_to n (weights_in plant states weights) < length plant.wires) × (0 < length (numbers_of plant states (falls_to n (weights_in plant states weights))))
        × (0 < get_or weights (falls_to n (weights_in plant states weights)) 0)
    fallen-weighs n less =
        let ws = weights_in plant states weights in
        let k = falls_to n ws in
        let falls = falls-within n ws less in
        let within : k < length plant.wires = omega (arith, falls.0, length-map-range_with_len (weight_in plant states weights) 0 (length plant.wires)) in
        let has = weighs k (omega (arith, falls.1, weight-at k within)) in
        (within, has.0, has.1)

    -- by weights that add up to something, a number takes one of the choices of the connector that it falls to
    pub by-weight-falls : (n : ℕ) → sum (weights_in plant states weights) ≢ 0
        → by_weight plant states weights n ≡ own_choice plant states (falls_to (n % sum (weights_in plant states weights)) (weights_in plant states weights)) (n / sum (weights_in plant states weights))
    by-weight-falls n some =
        let ws = weights_in plant states weights in
        cond-false (sum ws == 0) None (own_choice plant states (falls_to (n % sum ws) ws) (n / sum ws)) (ne_eqb (sum ws) 0 some)

    -- and none by weights that add up to nothing
    pub by-weight-none : (n : ℕ) → sum (weights_in plant states weights) ≡ 0 → by_weight plant states weights n ≡ None
    by-weight-none n none =
        let ws = weights_in plant states weights in
        cond-true (sum ws == 0) None (own_choice plant states (falls_to (n % sum ws) ws) (n / sum ws)) (eq-eqb (sum ws) 0 none)

    -- what a number takes is one of the state's choices, of a connector for which a weight is set
    pub by-weight-allowed : (n : ℕ) (c : ChoiceDefinition) → by_weight plant states weights n ≡ Some c → IsAllowed plant states c × (0 < get_or weights c.connector 0)
    by-weight-allowed n c is = each (sum (weights_in plant states weights) == 0) refl is
      where
        each : (b : Bool) → (sum (weights_in plant states weights) == 0) ≡ b
            → cond b None (own_choice plant states (falls_to (n % sum (weights_in plant states weights)) (weights_in plant states weights)) (n / sum (weights_in plant states weights))) ≡ Some c
            → IsAllowed plant states c × (0 < get_or weights c.connector 0)
        each true none taken = absurd (none-some c taken)
        each false none taken =
            let ws = weights_in plant states weights in
            let some : sum ws ≢ 0 = eqb-false (sum ws) 0 none in
            let own = own-is (falls_to (n % sum ws) ws) (n / sum ws) c taken in
            (own.0, subst (λ k. 0 < get_or weights k 0) (sym own.1) (fallen-weighs (n % sum ws) (mod-lt n (omega (arith, some)))).2)

    -- where it takes none, the weights add up to nothing
    pub weightless : (n : ℕ) → by_weight plant states weights n ≡ None → sum (weights_in plant states weights) ≡ 0
    weightless n is = each (sum (weights_in plant states weights) == 0) refl
      where
        each : (b : Bool) → (sum (weights_in plant states weights) == 0) ≡ b → sum (weights_in plant states weights) ≡ 0
        each true none = eqb-true (sum (weights_in plant states weights)) 0 none
        each false none =
            let ws = weights_in plant states weights in
            let some : sum ws ≢ 0 = eqb-false (sum ws) 0 none in
            let fallen = fallen-weighs (n % sum ws) (mod-lt n (omega (arith, some))) in
            let taken = own-some (falls_to (n % sum ws) ws) (n / sum ws) fallen.1 in
            absurd (none-some taken.0 (sym is ∙ by-weight-falls n some ∙ taken.1))

    -- Where the weights in a state, their sum, and the numbers of the connectors' choices are known, a number falls to a connector that has a choice, and takes
    -- one by its place among the connector's own.
    pub by-numbers : (shares : List ℕ) (numbers : List OwnNumbers) (n total k : ℕ) (d : OwnNumbers) → shares ≡ weights_in plant states weights → total ≡ sum shares → total ≢ 0 → k ≡ falls_to (n % total) shares
        → length plant.wires ≤ MAX_WIRES → ((j : ℕ) (other : OwnNumbers) → j < MAX_WIRES → AreOwn plant states j (get_or numbers j other))
        → (k < MAX_WIRES) × ((get_or numbers k d).first < (get_or numbers k d).end)
        × (by_weight plant states weights n ≡ slice_get cs ((get_or numbers k d).first + n / total % ((get_or numbers k d).end - (get_or numbers k d).first)))
    by-numbers shares numbers n total k d shares_is total_is nonzero falls few known =
        let ws = weights_in plant states weights in
        let own = get_or numbers k d in
        let sum_is : total ≡ sum ws = total_is ∙ ap sum shares_is in
        let k_is : k ≡ falls_to (n % sum ws) ws = falls ∙ ap (falls_to (n % total)) shares_is ∙ ap (λ t. falls_to (n % t) ws) sum_is in
        let some : sum ws ≢ 0 = λ none. nonzero (sum_is ∙ none) in
        let fallen = fallen-weighs (n % sum ws) (mod-lt n (omega (arith, some))) in
        let below : k < MAX_WIRES = omega (arith, k_is, fallen.0, few) in
        let are : AreOwn plant states k own = known k d below in
        let has : 0 < length (numbers_of plant states k) = subst (λ j. 0 < length (numbers_of plant states j)) (sym k_is) fallen.1 in
        let own_some : own.first < own.end = omega (arith, has, ap length are.numbers, length-range_with_len own.first (own.end - own.first)) in (
          below,
          own_some,
          by-weight-falls n some ∙ ap (λ j. own_choice plant states j (n / sum ws)) (sym k_is) ∙ ap (λ t. own_choice plant states k (n / t)) (sym sum_is) ∙ own-at k (n / total) own are own_some,
        )
