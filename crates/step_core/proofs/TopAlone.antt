-- What is kept of a connector that no other one has to do with: nothing is above its interactions but others of them.
use Rattle.std.proofs.Common.{◌≡◌, ℕ, ◌<◌, ◌/◌, ◌%◌, ◌&&◌, not, refl, sym, ◌∙◌, ap, List, length, map, Bool, true, false, ⊎_elim}
use Rattle.std.specs.Prelude.{None, Some, slice_get}
use Rattle.std.specs.FinSet.{FinSet, contains}
use Rattle.std.specs.Ordering.{nat_cmp}
use Rattle.std.proofs.lemmas.Bool.{and_right, cases_Bool, cases_eq, false_from_ne_true, false≢true, true_from_ne_false}
use Rattle.petri_atom.specs.Definition.{AtomDefinition}
use Rattle.petri_atom.specs.Local.{Local}
use Rattle.priority_filter.specs.Active.{unconditional}
use Rattle.priority_filter.specs.Decided.{is_below, order_fault}
use Rattle.priority_filter.specs.Members.{has_bit}
use Rattle.priority_filter.specs.Order.{IsStrict}
use Rattle.priority_filter.proofs.Counting.{strict-counted}
use Rattle.priority_filter.proofs.DecidedOrder.{decides_below, decides_no_fault}
use Rattle.plant_model.specs.Choice.{Interaction, named}
use Rattle.plant_model.specs.ConnectorRows.{is_of_connector}
use Rattle.plant_model.specs.Plant.{PlantDefinition}
use Rattle.plant_model.specs.System.{interactions_in, plant_of}
use Rattle.plant_model.specs.declared.connector_rows.ConnectorRows.{ConnectorRows}
use Rattle.plant_model.specs.declared.ranks.Rank.{Rank}
use Rattle.plant_model.specs.declared.system.System.{System}
use Rattle.plant_model.proofs.NoDeadlock.{order-sound}
use Rattle.step_core.specs.Alone.{IsAlone}
use Rattle.step_core.specs.KeptAlone.{IsKeptAlone}
use Rattle.step_core.specs.Standing.{is_always_below, is_always_overruled, is_kept_always}
use Rattle.step_core.specs.Weights.{weight_of}
use Rattle.step_core.proofs.BoundedWeights.{weight-same}
use Rattle.step_core.proofs.ConnectorChoices.{none-never}
use Rattle.step_core.proofs.OfAlone.{over-elsewhere}
use Rattle.step_core.proofs.OwnRows.{only-one}
use Rattle.step_core.proofs.Ranked.{connector-of, flat-none, over-none, over-some, under-there}

-- no interaction is below itself
pub never-itself : (system : System) (n : ℕ) → is_always_below (plant_of system) (interactions_in system) n n ≡ false
never-itself system n =
    let rules = (plant_of system).rules in
    let names = map named (interactions_in system) in
    let sound : order_fault rules names ≡ None = ap (λ all. order_fault rules (map named all)) system.listed ∙ order-sound (plant_of system) system.valid in
    let strict : IsStrict (unconditional rules) names = strict-counted rules names (λ _. false) ((decides_no_fault rules names).0 sound).1 in
    false_from_ne_true (is_below (unconditional rules) names n n) (λ up. strict n ((decides_below (unconditional rules) names n n).0 up))

-- a connector of which nothing is kept has no choices
pub weight-empty : (atoms : List AtomDefinition) (states : List Local) (all : List Interaction) (kept : ℕ → Bool) (k : ℕ) → ((n : ℕ) → is_of_connector all k n ≡ true → kept n ≡ false) → weight_of atoms states all kept k ≡ 0
weight-empty atoms states all kept k none = weight-same atoms states all (λ _. false) kept k none ∙ ap length (none-never atoms states 0 all)

and-true : (b : Bool) → (b && true) ≡ b
and-true true = refl
and-true false = refl

module _ (system : System) (k : ℕ) (alone : IsAlone (plant_of system) (interactions_in system) k) where
  abbrev plant : PlantDefinition
  plant = plant_of system

  abbrev all : List Interaction
  all = interactions_in system

  -- what is above one of its interactions is one of them
  pub above-own : (n m : ℕ) → is_of_connector all k n ≡ true → is_always_below plant all n m ≡ true → is_of_connector all k m ≡ true
  above-own n m own up =
      let of = connector-of system m (under-there system n m up) in
      let e : ℕ = of.0 in
      ⊎_elim
      (λ same. ap (λ j. is_of_connector all j m) (sym same) ∙ of.2)
      (λ other. absurd (false≢true (sym (alone e n m other own of.2).0 ∙ up)))
      (cases_eq e k)

  -- so nothing is above an only one
  pub only-top : (r : ConnectorRows) → k < length plant.wires → slice_get system.connector_rows.items k ≡ Some r → r.count ≡ 1 → (rivals : ℕ → Bool) (n : ℕ) → is_of_connector all k n ≡ true → is_always_overruled plant all rivals n ≡ false
  only-top r within at one rivals n own =
      over-none system rivals n
      (λ m _ up. false≢true (sym (never-itself system n) ∙ sym (ap (is_always_below plant all n) (only-one system k r within at one n m own (above-own n m own up))) ∙ up))

  -- nor above one of a flat one
  pub flat-top : (rank : Rank) → slice_get system.ranks.of_connectors.items k ≡ Some rank → rank.is_flat ≡ true → (rivals : ℕ → Bool) (n : ℕ) → is_of_connector all k n ≡ true → is_always_overruled plant all rivals n ≡ false
  flat-top rank at flat rivals n own =
      over-none system rivals n (λ m _ up. false≢true (sym (flat-none system k rank at flat n m own (above-own n m own up)) ∙ up))

  -- ---- in one word, which has those that are possible

  module _ (place word : ℕ) (possible : ℕ → Bool) (in_word : (n : ℕ) → is_of_connector all k n ≡ true → n / 64 ≡ place)
      (bits : (n : ℕ) → n / 64 ≡ place → has_bit word (n % 64) ≡ (possible n && is_of_connector all k n)) where
    pub bit-possible : (n : ℕ) → is_of_connector all k n ≡ true → has_bit word (n % 64) ≡ possible n
    bit-possible n own = bits n (in_word n own) ∙ ap (λ b. possible n && b) own ∙ and-true (possible n)

    -- where nothing is above them, each is kept
    pub all-top : ((n : ℕ) → is_of_connector all k n ≡ true → is_always_overruled plant all possible n ≡ false) → (n : ℕ) → is_of_connector all k n ≡ true → has_bit word (n % 64) ≡ is_kept_always plant all possible n
    all-top top n own = bit-possible n own ∙ sym (ap (λ b. possible n && not b) (top n own) ∙ and-true (possible n))

    -- where those go that are below one of them, and no others, those stay that are kept
    pub word-top : (result : ℕ) → ((j : ℕ) → has_bit word j ≡ false → has_bit result j ≡ false)
        → ((n m : ℕ) → n / 64 ≡ place → m / 64 ≡ place → has_bit word (m % 64) ≡ true → is_always_below plant all n m ≡ true → has_bit result (n % 64) ≡ false)
        → ((n : ℕ) → n / 64 ≡ place → has_bit word (n % 64) ≡ true → has_bit result (n % 64) ≡ false → is_always_overruled plant all possible n ≡ true)
        → (n : ℕ) → is_of_connector all k n ≡ true → has_bit result (n % 64) ≡ is_kept_always plant all possible n
    word-top result within goes gone n own =
        ⊎_elim
        (λ can. ⊎_elim
        (λ over.
        let found = over-some system possible n over in
        let m : ℕ = found.0 in
        let its = above-own n m own found.2 in
        goes n m (in_word n own) (in_word m its) (bit-possible m its ∙ found.1) found.2 ∙
        sym (ap (λ b. possible n && not b) over ∙ and_right (possible n) false refl))
        (λ top.
        true_from_ne_false (has_bit result (n % 64)) (λ went. false≢true (sym top ∙ gone n (in_word n own) (bit-possible n own ∙ can) went)) ∙
        sym (ap (λ b. possible n && not b) top ∙ and-true (possible n) ∙ can))
        (cases_Bool (is_always_overruled plant all possible n)))
        (λ cannot. within (n % 64) (bit-possible n own ∙ cannot) ∙ sym (ap (λ b. b && not (is_always_overruled plant all possible n)) cannot))
        (cases_Bool (possible n))

  -- ---- in one of its words

  module _ (place word : ℕ) (possible : ℕ → Bool) (bits : (n : ℕ) → n / 64 ≡ place → has_bit word (n % 64) ≡ (possible n && is_of_connector all k n)) where
    bit-here : (n : ℕ) → n / 64 ≡ place → is_of_connector all k n ≡ true → has_bit word (n % 64) ≡ possible n
    bit-here n here own = bits n here ∙ ap (λ b. possible n && b) own ∙ and-true (possible n)

    -- where nothing is above them, each is kept
    pub all-top-here : ((n : ℕ) → is_of_connector all k n ≡ true → is_always_overruled plant all possible n ≡ false) → (n : ℕ) → n / 64 ≡ place → is_of_connector all k n ≡ true → has_bit word (n % 64) ≡ is_kept_always plant all possible n
    all-top-here top n here own = bit-here n here own ∙ sym (ap (λ b. possible n && not b) (top n own) ∙ and-true (possible n))

    -- where those go that are below a possible one of the connector, and no others, those stay that are kept
    pub top-here : (result : ℕ) → ((j : ℕ) → has_bit word j ≡ false → has_bit result j ≡ false)
        → ((n m : ℕ) → n / 64 ≡ place → is_of_connector all k m ≡ true → possible m ≡ true → is_always_below plant all n m ≡ true → has_bit result (n % 64) ≡ false)
        → ((n : ℕ) → n / 64 ≡ place → has_bit word (n % 64) ≡ true → has_bit result (n % 64) ≡ false → is_always_overruled plant all possible n ≡ true)
        → (n : ℕ) → n / 64 ≡ place → is_of_connector all k n ≡ true → has_bit result (n % 64) ≡ is_kept_always plant all possible n
    top-here result within goes gone n here own =
        ⊎_elim
        (λ can. ⊎_elim
        (λ over.
        let found = over-some system possible n over in
        let m : ℕ = found.0 in
        goes n m here (above-own n m own found.2) found.1 found.2 ∙
        sym (ap (λ b. possible n && not b) over ∙ and_right (possible n) false refl))
        (λ top.
        true_from_ne_false (has_bit result (n % 64)) (λ went. false≢true (sym top ∙ gone n here (bit-here n here own ∙ can) went)) ∙
        sym (ap (λ b. possible n && not b) top ∙ and-true (possible n) ∙ can))
        (cases_Bool (is_always_overruled plant all possible n)))
        (λ cannot. within (n % 64) (bit-here n here own ∙ cannot) ∙ sym (ap (λ b. b && not (is_always_overruled plant all possible n)) cannot))
        (cases_Bool (possible n))

  -- ---- of all interactions

  -- where it is judged and kept by itself, what is kept of all is right if it was
  pub kept-of-all : (states : List Local) (was_possible possible was_kept kept : FinSet nat_cmp) → IsKeptAlone plant all states k was_possible possible was_kept kept
      → ((n : ℕ) → contains was_kept n ≡ is_kept_always plant all (contains was_possible) n)
      → (n : ℕ) → contains kept n ≡ is_kept_always plant all (contains possible) n
  kept-of-all states was_possible possible was_kept kept its right n =
      let old = contains was_possible in
      let new = contains possible in
      ⊎_elim
      (λ own. its.keeps n own)
      (λ out.
      its.other_kept n out ∙ right n ∙
      ap (λ b. b && not (is_always_overruled plant all old n)) (sym (its.others n out)) ∙
      ap (λ b. new n && not b) (sym (over-elsewhere system k alone old new its.others n out)))
      (cases_Bool (is_of_connector all k n))
