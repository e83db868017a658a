-- How many interactions of a connector are kept. Where no leaf of it offers more than one transition, they are as many as their choices.
use Rattle.std.proofs.Common.{◌≡◌, ℕ, ◌+◌, ◌*◌, ◌/◌, ◌%◌, ◌<◌, ◌≤◌, ◌^◌, ◌∙◌, ap, List, length, arith, count_ones, bit_and, ◌&&◌, Bool, true}
use Rattle.std.specs.Prelude.{Some, slice_get, slice_index_or}
use Rattle.std.specs.FinSet.{contains}
use Rattle.std.proofs.lemmas.Bool.{and_parts, false_from_ne_true}
use Rattle.petri_atom.specs.Local.{Local}
use Rattle.priority_filter.specs.Members.{has_bit}
use Rattle.priority_filter.proofs.Words.{bit-and}
use Rattle.plant_model.specs.ConnectorRows.{is_of_connector}
use Rattle.plant_model.specs.Fitting.{IsOf}
use Rattle.plant_model.specs.System.{interactions_in, plant_of}
use Rattle.plant_model.specs.declared.connector_rows.ConnectorRows.{ConnectorRows}
use Rattle.plant_model.specs.declared.system.System.{System}
use Rattle.step_core.specs.ChoicesIn.{AreAllPossible}
use Rattle.step_core.specs.Judgement.{IsOffers}
use Rattle.step_core.specs.Weights.{is_kept_of, weight_of}
use Rattle.step_core.specs.declared.leaves.Leaves.{Leaves}
use Rattle.step_core.proofs.Counted.{count-all, count-skips, count_below}
use Rattle.step_core.proofs.OwnRange.{own-of, own-words}
use Rattle.step_core.proofs.SingleChoices.{one-way}
use Rattle.step_core.proofs.WordChoices.{counted-word}

-- what a word of those that are kept and one of the connector's have together
pub both-bits : (s : System) (k : ℕ) (r : ConnectorRows) → k < length (plant_of s).wires → slice_get s.connector_rows.items k ≡ Some r → (kept : ℕ → Bool) (place word own : ℕ)
    → ((n : ℕ) → n / 64 ≡ place → has_bit word (n % 64) ≡ kept n) → ((n : ℕ) → n / 64 ≡ place → has_bit own (n % 64) ≡ contains r.own n)
    → (n : ℕ) → n / 64 ≡ place → has_bit (bit_and word own) (n % 64) ≡ is_kept_of (interactions_in s) kept k n
both-bits s k r within at kept place word own first second n here =
    bit-and word own (n % 64) ∙ ap (λ b. b && has_bit own (n % 64)) (first n here) ∙ ap (λ b. kept n && b) (second n here ∙ own-of s k r within at n)

module _ (s : System) (states : List Local) (kept : ℕ → Bool) (k : ℕ) (possible : AreAllPossible (plant_of s).atoms (plant_of s).wires states (interactions_in s) (is_kept_of (interactions_in s) kept k)) where
  -- how many choices those below a number have
  abbrev pub counted : ℕ → ℕ
  counted = count_below (plant_of s).atoms (plant_of s).wires states (interactions_in s) (is_kept_of (interactions_in s) kept k) possible

  abbrev weight : ℕ
  weight = weight_of (plant_of s).atoms states (interactions_in s) kept k

  -- none are before its first word, and all are before its end
  module _ (r : ConnectorRows) (within : k < length (plant_of s).wires) (at : slice_get s.connector_rows.items k ≡ Some r) where
    there : (n : ℕ) → is_kept_of (interactions_in s) kept k n ≡ true → (r.low ≤ n / 64) × (n / 64 < r.high)
    there n here = own-words s k r within at n (and_parts (kept n) (is_of_connector (interactions_in s) k n) here).1

    pub counted-start : (low : ℕ) → low ≡ r.low → counted (64 * low) ≡ 0
    counted-start low is =
        count-skips (plant_of s).atoms (plant_of s).wires states (interactions_in s) (is_kept_of (interactions_in s) kept k) possible 0 (64 * low) (omega arith)
        (λ m from below. false_from_ne_true (is_kept_of (interactions_in s) kept k m) (λ here. absurd (omega (arith, below, is, (there m here).0))))

    pub counted-end : (high : ℕ) → r.high ≤ high → counted (64 * high) ≡ weight
    counted-end high past =
        count-all (plant_of s).atoms (plant_of s).wires states (interactions_in s) (is_kept_of (interactions_in s) kept k) possible (64 * high)
        (λ m from. false_from_ne_true (is_kept_of (interactions_in s) kept k m) (λ here. absurd (omega (arith, from, past, (there m here).1))))

  -- where no leaf offers more than one, the bits of a word are as many as the choices of their interactions
  module _ (sets : List ℕ) (counts : List (List ℕ)) (l : Leaves) (of_plant : IsOf (plant_of s) states) (offering : IsOffers (plant_of s) states sets counts l) (none : slice_index_or l.many k 0 ≡ 0)
      (place word : ℕ) (bits : (n : ℕ) → n / 64 ≡ place → has_bit word (n % 64) ≡ is_kept_of (interactions_in s) kept k n) (small : word < 2 ^ 64) where
    pub counted-bits : counted (64 * (place + 1)) ≡ counted (64 * place) + count_ones word
    counted-bits =
        counted-word (plant_of s).atoms (plant_of s).wires states (interactions_in s) (is_kept_of (interactions_in s) kept k) possible place word bits
        (one-way s states sets counts l kept of_plant offering k possible none) small

    -- so the weight of a connector that has but this word is the number of its bits
    pub weight-bits : (r : ConnectorRows) → k < length (plant_of s).wires → slice_get s.connector_rows.items k ≡ Some r → r.high ≡ r.low + 1 → place ≡ r.low → count_ones word ≡ weight
    weight-bits r within at one is =
        omega (arith, counted-bits, counted-start r within at place is, counted-end r within at (place + 1) (omega (arith, one, is)))
