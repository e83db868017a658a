-- What stands is what the contents lead to.
use Rattle.std.proofs.Common.{◌≡◌, ℕ, ◌+◌, ◌-◌, ◌<◌, ◌≤◌, nat_lt, Bool, true, false, ◌||◌, List, length, slice_get, Option, Some, None, unwrap_or, Result, Ok, refl, sym, ◌∙◌, ap, arith}
use Rattle.std.specs.Option.{option_and_then}
use Rattle.std.proofs.lemmas.Bool.{ltb-false, le-ltb, true≢false}
use Rattle.std.proofs.lemmas.Option.{slice_get_within}
use Rattle.disk_model.specs.Cells.{Cell, cell}
use Rattle.gated_journal.specs.Bases.{base_cell_of}
use Rattle.petri_atom.specs.Definition.{AtomDefinition}
use Rattle.petri_atom.specs.Local.{Local}
use Rattle.record_codec.specs.Base.{base_in}
use Rattle.record_codec.proofs.Bases.{held_base_is_spelled}
use Rattle.record_replay.specs.Records.{count_of}
use Rattle.record_replay.specs.Replay.{Position}
use Rattle.record_replay.specs.declared.fault.ReplayFault.{ReplayFault}
use Rattle.plant_model.specs.Plant.{PlantDefinition}
use Rattle.plant_model.specs.Rules.{first_of, first_fault_in}
use Rattle.plant_image.specs.Contents.{Contents, contents_of, base_held, copied_at, last_number, most_firings, replayed, states_of, counts_of}
use Rattle.plant_image.specs.Faults.{cells_fault, count_fault, ends_unaccounted, fault_where, is_unaccounted, leading_fault, replay_fault, fault_of_replay}
use Rattle.plant_image.specs.Standing.{Leads, StandsFor}
use Rattle.plant_image.specs.declared.counts.TheConstants.{MOST_AHEAD}
use Rattle.plant_image.specs.declared.fault.ImageFault.{ImageFault}
use Rattle.plant_image.specs.declared.fault.ImageFault.TheVariants.{Gap}
use Rattle.plant_image.proofs.AtomSlots.{no_first, no_later, not_wrong}
use Rattle.plant_image.proofs.ByAtoms.{same_lists, element_at, told_none_at, told_none, states_length, counts_length, state_at, count_at}
use Rattle.plant_image.proofs.CountFaults.{leads_at}
use Rattle.plant_image.proofs.Firings.{most_by-within}

-- a base is 1 at least
pub base_some : (cells : List Cell) → 1 ≤ base_held cells
base_some cells = by_cell (cell cells (base_cell_of cells))
  where
    by_value : (body : List ℕ) (o : Option ℕ) → base_in body ≡ o → 1 ≤ unwrap_or o 1
    by_value body None is = omega arith
    by_value body (Some n) is = (held_base_is_spelled body n is).in_range.positive

    by_cell : (c : Cell) → 1 ≤ unwrap_or (option_and_then base_in c) 1
    by_cell None = omega arith
    by_cell (Some body) = by_value body (base_in body) refl

-- two tests fail together
neither : (a b : Bool) → a ≡ false → b ≡ false → (a || b) ≡ false
neither a b first second = ap (λ (t : Bool). t || b) first ∙ second

both_false : (a b : Bool) → (a || b) ≡ false → (a ≡ false) × (b ≡ false)
both_false true b is = absurd (true≢false is)
both_false false b is = (refl, is)

-- no fault, if the test does not apply
pub none_where : (wrong : Bool) (fault : ImageFault) → wrong ≡ false → fault_where wrong fault ≡ None
none_where wrong fault right = ap (λ (t : Bool). fault_where t fault) right

module _ (plant : PlantDefinition) (c : Contents) where
  -- if the contents lead, nothing is wrong with it
  module _ (states : List Local) (counts : List ℕ) (number : ℕ) (leads : Leads plant c states counts number) where
    last_is : last_number c ≡ number
    last_is = omega (arith, leads.last)

    ends_at : (i : ℕ) (a : AtomDefinition) → slice_get plant.atoms i ≡ Some a → (s : Local) × (slice_get states i ≡ Some s) × (replayed c i a ≡ Ok (record { state = s; count = count_of counts i }))
    ends_at i a at =
        let there = element_at states i (omega (arith, slice_get_within plant.atoms i a at, leads.as_many)) in
        (there.0, there.1, leads.each i a there.0 at there.1)

    replays : (j : ℕ) (a : AtomDefinition) → slice_get plant.atoms j ≡ Some a → replay_fault c (0 + j) a ≡ None
    replays j a at = ap (λ (k : ℕ). replay_fault c k a) (omega arith) ∙ ap (fault_of_replay j) (ends_at j a at).2

    counted : (j : ℕ) (a : AtomDefinition) → slice_get plant.atoms j ≡ Some a → count_fault c (0 + j) a ≡ None
    counted j a at =
        let below : j < length plant.atoms = slice_get_within plant.atoms j a at in
        let early : copied_at c j ≤ last_number c + MOST_AHEAD = omega (arith, leads.copied j below, last_is) in
        ap (λ (k : ℕ). count_fault c k a) (omega arith)
        ∙ ap (λ (r : Result Position ReplayFault). fault_where (ends_unaccounted c j r) (Gap j)) (ends_at j a at).2
        ∙ none_where (is_unaccounted c j (count_of counts j)) (Gap j)
        (neither (nat_lt (most_firings c j) (count_of counts j)) _ (le-ltb (most_firings c j) (count_of counts j) (leads.accounted j below)) (le-ltb (last_number c + MOST_AHEAD) (copied_at c j) early))

    nothing_wrong : leading_fault plant c ≡ None
    nothing_wrong =
        ap (λ (o : Option ImageFault). first_of o (first_of (first_fault_in (count_fault c) 0 plant.atoms) None)) (told_none (replay_fault c) plant.atoms 0 replays)
        ∙ ap (λ (o : Option ImageFault). first_of o None) (told_none (count_fault c) plant.atoms 0 counted)

    states_same : states_of plant c ≡ states
    states_same = same_lists (states_of plant c) states (omega (arith, states_length c plant, leads.as_many)) (λ i within.
        let there = element_at plant.atoms i (omega (arith, within, states_length c plant)) in
        let ends = ends_at i there.0 there.1 in
        state_at c plant i there.0 (record { state = ends.0; count = count_of counts i }) there.1 ends.2 ∙ sym ends.1)

  -- if nothing is wrong with it, the contents lead
  module _ (none : leading_fault plant c ≡ None) where
    replay_none : first_fault_in (replay_fault c) 0 plant.atoms ≡ None
    replay_none = no_first (first_fault_in (replay_fault c) 0 plant.atoms) _ none

    count_none : first_fault_in (count_fault c) 0 plant.atoms ≡ None
    count_none = no_first (first_fault_in (count_fault c) 0 plant.atoms) None (no_later (first_fault_in (replay_fault c) 0 plant.atoms) _ none)

    brought : (states : List Local) (i : ℕ) (a : AtomDefinition) (s : Local) → states_of plant c ≡ states → slice_get plant.atoms i ≡ Some a → slice_get states i ≡ Some s → replayed c i a ≡ Ok (record { state = s; count = count_of (counts_of plant c) i })
    brought states i a s are at its =
        let there = leads_at plant c replay_none i a at in
        let p : Position = there.0 in
        let both : Some p.state ≡ Some s = sym (state_at c plant i a p at there.1) ∙ ap (λ (l : List Local). slice_get l i) are ∙ its in
        let state : p.state ≡ s = cc in
        let count : p.count ≡ count_of (counts_of plant c) i = sym (count_at c plant i a p at there.1) in
        there.1 ∙ ap (λ (w : Local). Ok (record { state = w; count = p.count })) state ∙ ap (λ (k : ℕ). Ok (record { state = s; count = k })) count

    module _ (i : ℕ) (below : i < length plant.atoms) where
      tests : (nat_lt (most_firings c i) (count_of (counts_of plant c) i) ≡ false) × (nat_lt (last_number c + MOST_AHEAD) (copied_at c i) ≡ false)
      tests =
          let there = element_at plant.atoms i below in
          let a : AtomDefinition = there.0 in
          let led = leads_at plant c replay_none i a there.1 in
          let right : ends_unaccounted c i (replayed c i a) ≡ false = not_wrong (ends_unaccounted c i (replayed c i a)) (Gap i) (told_none_at (count_fault c) plant.atoms 0 i i a count_none there.1 (omega arith)) in
          let here : is_unaccounted c i led.0.count ≡ false = ap (ends_unaccounted c i) (sym led.1) ∙ right in
          both_false (nat_lt (most_firings c i) (count_of (counts_of plant c) i)) _ (ap (is_unaccounted c i) (count_at c plant i a led.0 there.1 led.1) ∙ here)

      accounted : count_of (counts_of plant c) i ≤ most_firings c i
      accounted = ltb-false (most_firings c i) (count_of (counts_of plant c) i) tests.0

      copied : copied_at c i ≤ last_number c + MOST_AHEAD
      copied = ltb-false (last_number c + MOST_AHEAD) (copied_at c i) tests.1

      within : count_of (counts_of plant c) i ≤ last_number c
      within = let few : c.base - 1 ≤ c.base - 1 = omega arith in omega (arith, accounted, most_by-within i c.records (c.base - 1) c.base few)

module _ (plant : PlantDefinition) (digest : List ℕ) (bytes : ℕ) (cells : List Cell) (states : List Local) (number : ℕ) where
  pub stands_leads : StandsFor plant digest bytes cells states number → Leads plant (contents_of (length plant.atoms) cells) states (counts_of plant (contents_of (length plant.atoms) cells)) number
  stands_leads stands =
      let c : Contents = contents_of (length plant.atoms) cells in
      let none : leading_fault plant c ≡ None = no_later (cells_fault plant digest bytes cells) (leading_fault plant c) stands.sound in
      let some : 1 ≤ c.base = base_some cells in
      let is = stands.number_is in
      record {
        last = omega (arith, some, is);
        as_many = ap (λ (l : List Local). length l) (sym stands.states_are) ∙ states_length c plant;
        counted = omega (arith, counts_length c plant);
        each = λ i a s at its. brought plant c none states i a s stands.states_are at its;
        within = λ i below. omega (arith, within plant c none i below, is);
        accounted = accounted plant c none;
        copied = λ i below. omega (arith, copied plant c none i below, is);
      }

  pub leads_stands : (counts : List ℕ) → cells_fault plant digest bytes cells ≡ None → Leads plant (contents_of (length plant.atoms) cells) states counts number → StandsFor plant digest bytes cells states number
  leads_stands counts none leads =
      let c : Contents = contents_of (length plant.atoms) cells in
      record {
        sound = ap (λ (o : Option ImageFault). first_of o (leading_fault plant c)) none ∙ nothing_wrong plant c states counts number leads;
        states_are = states_same plant c states counts number leads;
        number_is = last_is plant c states counts number leads;
      }
