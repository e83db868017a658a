-- A connector of which all interactions stand in one word.
use Rattle.std.proofs.Common.{◌≡◌, ℕ, ◌+◌, ◌/◌, ◌%◌, ◌<◌, ◌∙◌, List, length, arith, true, false, ⊎_elim}
use Rattle.std.specs.Prelude.{Some, slice_get}
use Rattle.std.specs.FinSet.{FinSet, contains}
use Rattle.std.specs.Ordering.{nat_cmp}
use Rattle.std.proofs.lemmas.Bool.{cases_eq}
use Rattle.priority_filter.specs.Members.{has_bit}
use Rattle.priority_filter.specs.declared.interaction_set.TheConstants.{ROW_WORDS}
use Rattle.plant_model.specs.Choice.{Interaction}
use Rattle.plant_model.specs.ConnectorRows.{is_of_connector}
use Rattle.plant_model.specs.System.{interactions_in, plant_of}
use Rattle.plant_model.specs.declared.connector_rows.ConnectorRows.{ConnectorRows}
use Rattle.plant_model.specs.declared.system.System.{System}
use Rattle.step_core.proofs.OwnRange.{in-range, own-of, range-end}
use Rattle.step_core.proofs.OwnRows.{high-is, low-is}

module _ (system : System) (k : ℕ) (r : ConnectorRows) (within : k < length (plant_of system).wires) (at : slice_get system.connector_rows.items k ≡ Some r) where
  abbrev all : List Interaction
  all = interactions_in system

  -- one interaction does
  pub one-word : r.count ≡ 1 → r.high ≡ r.low + 1
  one-word one = omega (arith, one, low-is system k r within at, high-is system k r within at)

  module _ (word : r.high ≡ r.low + 1) (place : ℕ) (is : place ≡ r.low) where
    -- it is one that a set has
    pub place-low : place < ROW_WORDS
    place-low = omega (arith, is, word, high-is system k r within at, range-end system k r within at)

    pub in-place : (n : ℕ) → is_of_connector all k n ≡ true → n / 64 ≡ place
    in-place n own =
        let range = in-range system k r within at n own in
        omega (arith, is, word, range.0, range.1, low-is system k r within at, high-is system k r within at)

    module _ (own : ℕ) (own_bits : (n : ℕ) → n / 64 ≡ place → has_bit own (n % 64) ≡ contains r.own n) where
      -- its bits there are those of the connector's interactions
      pub own-bit : (n : ℕ) → n / 64 ≡ place → has_bit own (n % 64) ≡ is_of_connector all k n
      own-bit n here = own_bits n here ∙ own-of system k r within at n

      -- where bits of the connector are put there, its interactions are those of the bits, and all others stay
      module _ (bits : ℕ) (old new : FinSet nat_cmp)
          (here : (n : ℕ) → n / 64 ≡ place → has_bit own (n % 64) ≡ true → contains new n ≡ has_bit bits (n % 64))
          (out : (n : ℕ) → n / 64 ≡ place → has_bit own (n % 64) ≡ false → contains new n ≡ contains old n)
          (others : (n : ℕ) → (n / 64 ≡ place → ⊥) → contains new n ≡ contains old n) where
        pub put-own : (n : ℕ) → is_of_connector all k n ≡ true → contains new n ≡ has_bit bits (n % 64)
        put-own n its = here n (in-place n its) (own-bit n (in-place n its) ∙ its)

        pub put-others : (n : ℕ) → is_of_connector all k n ≡ false → contains new n ≡ contains old n
        put-others n apart = ⊎_elim (λ there. out n there (own-bit n there ∙ apart)) (λ away. others n away) (cases_eq (n / 64) place)
