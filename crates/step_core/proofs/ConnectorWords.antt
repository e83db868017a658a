-- The kept interactions of a connector in a word of 64: their choices are counted, and found, one after the other from the lowest bit on.
use Rattle.std.proofs.Common.{◌≡◌, ℕ, zero, suc, ◌+◌, ◌*◌, ◌-◌, ◌/◌, ◌%◌, ◌^◌, ◌<◌, ◌≤◌, sym, ◌∙◌, ap, List, length, get_or, arith, count_ones, Bool, true, ⊎_elim, w64}
use Rattle.std.specs.Prelude.{Option, slice_get, slice_index_or}
use Rattle.std.specs.FinSet.{contains}
use Rattle.std.specs.Int.{trailing_zeros}
use Rattle.std.proofs.lemmas.Bool.{and_parts, cases_Bool}
use Rattle.std.proofs.lemmas.List.{length-map}
use Rattle.std.proofs.lemmas.Option.{get_or_from_slice_get}
use Rattle.priority_filter.specs.Members.{has_bit}
use Rattle.plant_model.specs.Choice.{ChoiceDefinition, choices_of}
use Rattle.plant_model.specs.ConnectorRows.{is_of_connector}
use Rattle.plant_model.specs.Interaction.{interaction_of}
use Rattle.plant_model.specs.System.{interactions_in, plant_of}
use Rattle.plant_model.specs.Ways.{ways_at}
use Rattle.step_core.specs.ChoicesIn.{AreAllPossible}
use Rattle.step_core.specs.Weights.{IsFound, is_kept_of}
use Rattle.step_core.specs.declared.weights.Weighing.{Weighing}
use Rattle.step_core.proofs.Counted as counting
use Rattle.step_core.proofs.Counted.{no_interaction}
use Rattle.step_core.proofs.LowestKept.{IsLeft, IsLowest, lowest, none-more}
use Rattle.step_core.proofs.Ones.{ones_below}
use Rattle.step_core.proofs.SingleChoices.{one-way}
use Rattle.step_core.proofs.WordChoices as single

module _ (w : Weighing) (connector : ℕ) where
  -- those that are kept of the connector
  abbrev pub its : ℕ → Bool
  its = is_kept_of (interactions_in w.system.now) (contains w.kept.now) connector

  abbrev pub ways : ℕ → ℕ
  ways = ways_at (plant_of w.system.now).atoms w.states.now (interactions_in w.system.now)

  -- what is a choice of an interaction is found there
  pub found-there : (n count place : ℕ) (choice : Option ChoiceDefinition) → count ≡ ways n → place < count
      → choice ≡ slice_get (choices_of (plant_of w.system.now).atoms w.states.now (get_or (interactions_in w.system.now) n no_interaction)) place
      → IsFound (plant_of w.system.now).atoms w.states.now (interactions_in w.system.now) choice n count place
  found-there n count place choice its_ways inside at = record {
    its_ways = its_ways;
    inside = inside;
    is = λ i there. at ∙ ap (λ j. slice_get (choices_of (plant_of w.system.now).atoms w.states.now j) place) (get_or_from_slice_get (interactions_in w.system.now) n i no_interaction there);
  }

  -- where all that are kept are possible, they are
  pub all-possible : AreAllPossible (plant_of w.system.now).atoms (plant_of w.system.now).wires w.states.now (interactions_in w.system.now) (contains w.kept.now) → AreAllPossible (plant_of w.system.now).atoms (plant_of w.system.now).wires w.states.now (interactions_in w.system.now) its
  all-possible possible n both = possible n (and_parts (contains w.kept.now n) (is_of_connector (interactions_in w.system.now) connector n) both).0

module _ (w : Weighing) (connector : ℕ) (possible : AreAllPossible (plant_of w.system.now).atoms (plant_of w.system.now).wires w.states.now (interactions_in w.system.now) (its w connector)) where
  -- how many choices those below a number have, and the choices of those from it on
  abbrev pub counted : ℕ → ℕ
  counted = counting.count_below (plant_of w.system.now).atoms (plant_of w.system.now).wires w.states.now (interactions_in w.system.now) (its w connector) possible

  abbrev pub entries : ℕ → List ChoiceDefinition
  entries = counting.from_number (plant_of w.system.now).atoms (plant_of w.system.now).wires w.states.now (interactions_in w.system.now) (its w connector) possible

  pub kept-number : (n : ℕ) → its w connector n ≡ true → n < length w.system.now.interactions.items
  kept-number n here =
      omega (
        arith,
        counting.kept-within (plant_of w.system.now).atoms (plant_of w.system.now).wires w.states.now (interactions_in w.system.now) (its w connector) possible n here,
        length-map w.system.now.interactions.items interaction_of,
      )

  module _ (at word k : ℕ) (left : IsLeft (its w connector) at word k) where
    -- where no bit is left, all of the word are counted, and the choices behind are those of the next word
    pub counted-over : k ≤ 64 → word ≡ 0 → counted (64 * (at + 1)) ≡ counted (64 * at + k)
    counted-over within none =
        counting.count-skips (plant_of w.system.now).atoms (plant_of w.system.now).wires w.states.now (interactions_in w.system.now) (its w connector) possible (64 * at + k) (64 * (at + 1)) (omega (arith, within))
        (none-more (its w connector) at word k left none)

    pub entries-over : k ≤ 64 → word ≡ 0 → entries (64 * at + k) ≡ entries (64 * (at + 1))
    entries-over within none =
        counting.entries-skip (plant_of w.system.now).atoms (plant_of w.system.now).wires w.states.now (interactions_in w.system.now) (its w connector) possible (64 * at + k) (64 * (at + 1)) (omega (arith, within))
        (none-more (its w connector) at word k left none)

    module _ (some : 0 < word) (small : word < 2 ^ 64) where
      abbrev number : ℕ
      number = 64 * at + trailing_zeros w64 word

      pub next : IsLowest (interactions_in w.system.now) (its w connector) at word k
      next = lowest (plant_of w.system.now).atoms (plant_of w.system.now).wires w.states.now (interactions_in w.system.now) (its w connector) possible at word k left some small

      pub next-within : number < length w.system.now.interactions.items
      next-within = kept-number number next.is_kept

      -- the next kept interaction adds its choices
      pub counted-next : (total : ℕ) → counted (64 * at + k) ≡ counted (64 * at) + total → counted (64 * at + (trailing_zeros w64 word + 1)) ≡ (counted (64 * at) + total) + ways w connector number
      counted-next total so_far =
          let after : 64 * at + (trailing_zeros w64 word + 1) ≡ number + 1 = omega arith in
          let skipped = counting.count-skips (plant_of w.system.now).atoms (plant_of w.system.now).wires w.states.now (interactions_in w.system.now) (its w connector) possible (64 * at + k) number (omega (arith, next.from)) next.none_before in
          ap counted after ∙ counting.count-adds (plant_of w.system.now).atoms (plant_of w.system.now).wires w.states.now (interactions_in w.system.now) (its w connector) possible number next.is_kept ∙
          ap (λ m. m + ways w connector number) (skipped ∙ so_far)

      entries-same : entries (64 * at + k) ≡ entries number
      entries-same =
          counting.entries-skip (plant_of w.system.now).atoms (plant_of w.system.now).wires w.states.now (interactions_in w.system.now) (its w connector) possible (64 * at + k) number (omega (arith, next.from)) next.none_before

      -- a choice of that interaction
      pub entry-its : (place : ℕ) → place < ways w connector number → slice_get (entries (64 * at + k)) place ≡ slice_get (choices_of (plant_of w.system.now).atoms w.states.now (get_or (interactions_in w.system.now) number no_interaction)) place
      entry-its place inside =
          ap (λ ys. slice_get ys place) entries-same ∙
          counting.entry-here (plant_of w.system.now).atoms (plant_of w.system.now).wires w.states.now (interactions_in w.system.now) (its w connector) possible number place next.is_kept inside

      -- a choice behind it
      pub entry-later : (place count : ℕ) → count ≡ ways w connector number → count ≤ place → slice_get (entries (64 * at + k)) place ≡ slice_get (entries (64 * at + (trailing_zeros w64 word + 1))) (place - count)
      entry-later place count is past =
          let after : number + 1 ≡ 64 * at + (trailing_zeros w64 word + 1) = omega arith in
          ap (λ ys. slice_get ys place) entries-same ∙
          counting.entry-after (plant_of w.system.now).atoms (plant_of w.system.now).wires w.states.now (interactions_in w.system.now) (its w connector) possible number place next.is_kept (omega (arith, is, past)) ∙
          ap (λ m. slice_get (entries m) (place - ways w connector number)) after ∙
          ap (λ m. slice_get (entries (64 * at + (trailing_zeros w64 word + 1))) (place - m)) (sym is)

  -- ---- where no leaf of the connector offers more than one transition

  module _ (none : slice_index_or w.leaves.now.many connector 0 ≡ 0) where
    pub one-each : (n : ℕ) → its w connector n ≡ true → ways w connector n ≡ 1
    one-each = one-way w.system.now w.states.now w.offers.now.sets w.offers.now.counts w.leaves.now (contains w.kept.now) w.of_plant w.offering connector possible none

    -- so they have no more choices than there are
    pub counted-few : (n : ℕ) → counted n ≤ n
    counted-few zero = omega arith
    counted-few (suc n) =
        let next : suc n ≡ n + 1 = omega arith in
        let before = counted-few n in
        ⊎_elim
        (λ here. omega (
          arith,
          ap counted next,
          counting.count-adds (plant_of w.system.now).atoms (plant_of w.system.now).wires w.states.now (interactions_in w.system.now) (its w connector) possible n here,
          one-each n here,
          before,
        ))
        (λ not_here. omega (
          arith,
          ap counted next,
          counting.count-skips (plant_of w.system.now).atoms (plant_of w.system.now).wires w.states.now (interactions_in w.system.now) (its w connector) possible n (n + 1) (omega arith)
              (λ m from below. let e : m ≡ n = omega (arith, from, below) in ap (its w connector) e ∙ not_here),
          before,
        ))
        (cases_Bool (its w connector n))

    module _ (at word : ℕ) (bits : (n : ℕ) → n / 64 ≡ at → has_bit word (n % 64) ≡ its w connector n) where
      pub bit-kept : (j : ℕ) → j < 64 → has_bit word j ≡ true → its w connector (64 * at + j) ≡ true
      bit-kept j low set =
          single.at-bit (plant_of w.system.now).atoms (plant_of w.system.now).wires w.states.now (interactions_in w.system.now) (its w connector) possible at word bits one-each j low ∙ set

      pub entry-behind : word < 2 ^ 64 → (place : ℕ) → count_ones word ≤ place → slice_get (entries (64 * at)) place ≡ slice_get (entries (64 * (at + 1))) (place - count_ones word)
      entry-behind = single.entry-later (plant_of w.system.now).atoms (plant_of w.system.now).wires w.states.now (interactions_in w.system.now) (its w connector) possible at word bits one-each

      pub entry-set : (j : ℕ) → j < 64 → has_bit word j ≡ true → slice_get (entries (64 * at)) (ones_below word j) ≡ slice_get (choices_of (plant_of w.system.now).atoms w.states.now (get_or (interactions_in w.system.now) (64 * at + j) no_interaction)) 0
      entry-set = single.entry-set (plant_of w.system.now).atoms (plant_of w.system.now).wires w.states.now (interactions_in w.system.now) (its w connector) possible at word bits one-each
