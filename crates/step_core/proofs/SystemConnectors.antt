-- What a system keeps of its interactions and of the connectors that these are of.
use Rattle.std.proofs.Common.{◌≡◌, ℕ, zero, suc, ◌==◌, ◌<◌, ◌≤◌, refl, sym, ◌∙◌, ap, List, [], ◌∷◌, length, get_or, arith, true, false, ⊎_elim}
use Rattle.std.specs.Prelude.{Some, slice_get}
use Rattle.std.specs.FinSet.{contains}
use Rattle.std.specs.Option.{option_map_or}
use Rattle.std.proofs.lemmas.Bool.{cases_lt, eq-eqb, false≢true}
use Rattle.std.proofs.lemmas.List.{length-map}
use Rattle.std.proofs.lemmas.Option.{slice_get_past, slice_get_read, slice_get_within}
use Rattle.plant_model.specs.Choice.{Interaction, plant_interactions}
use Rattle.plant_model.specs.ConnectorRows.{is_of_connector}
use Rattle.plant_model.specs.Interaction.{interaction_of}
use Rattle.plant_model.specs.System.{interactions_in, plant_of}
use Rattle.plant_model.specs.Wire.{wire_of}
use Rattle.plant_model.specs.declared.connector_rows.ConnectorRows.{ConnectorRows}
use Rattle.plant_model.specs.declared.interaction.Interaction as kept
use Rattle.plant_model.specs.declared.system.System.{System}
use Rattle.plant_model.proofs.ByConnector.{kept-at}
use Rattle.plant_model.proofs.Membership.{entry-in}
use Rattle.plant_model.proofs.OfConnector.{has-connector, one-connector}
use Rattle.plant_model.proofs.OfInteractions.{interaction-of, within-limits}

-- there is an element at each place before the end
pub some-at : {X : Type 0} (xs : List X) (k : ℕ) → k < length xs → (x : X) × (slice_get xs k ≡ Some x)
some-at [] k below = absurd (omega (arith, below))
some-at (x ∷ xs) zero below = (x, refl)
some-at (x ∷ xs) (suc k) below = some-at xs k (omega (arith, below))

module _ (system : System) where
  -- the connectors are few
  pub few-connectors : length (plant_of system).wires ≤ 64
  few-connectors = (within-limits (plant_of system) system.valid).wires

  pub few-interactions : length (interactions_in system) ≤ 1024
  few-interactions = omega (arith, ap length system.listed, (within-limits (plant_of system) system.valid).interactions)

  pub interaction-count : length (interactions_in system) ≡ length system.interactions.items
  interaction-count = length-map system.interactions.items interaction_of

  pub row-count : length system.connector_rows.items ≡ length (plant_of system).wires
  row-count = system.in_rows.as_many

  -- a number of an interaction of a connector is one of an interaction
  pub of-one : (n k : ℕ) → is_of_connector (interactions_in system) k n ≡ true → n < length (interactions_in system)
  of-one n k its =
      ⊎_elim (λ within. within)
      (λ past. absurd (false≢true (sym (ap (λ o. option_map_or (λ (i : Interaction). i.connector == k) o false) (slice_get_past (interactions_in system) n past)) ∙ its)))
      (cases_lt n (length (interactions_in system)))

  -- and its connector is there
  pub of-there : (n k : ℕ) → is_of_connector (interactions_in system) k n ≡ true → k < length (plant_of system).wires
  of-there n k its =
      let own : is_of_connector (plant_interactions (plant_of system)) k n ≡ true = ap (λ xs. is_of_connector xs k n) (sym system.listed) ∙ its in
      let found = has-connector (plant_of system) system.valid n (omega (arith, of-one n k its, ap length system.listed)) in
      omega (arith, found.1, one-connector (plant_of system) system.valid n found.0 k found.2 own)

  -- an interaction is of the connector that it names, and that is there
  module _ (n : ℕ) (item : kept.Interaction) (within : n < length system.interactions.items) (is : item ≡ get_or system.interactions.items n item) where
    pub is-of-own : is_of_connector (interactions_in system) item.connector n ≡ true
    is-of-own =
        ap (λ o. option_map_or (λ (i : Interaction). i.connector == item.connector) o false) (kept-at system.interactions.items n item within is) ∙
        eq-eqb item.connector item.connector refl

    pub connector-there : item.connector < length (plant_of system).wires
    connector-there =
        let there : slice_get (plant_interactions (plant_of system)) n ≡ Some (interaction_of item) = ap (λ xs. slice_get xs n) (sym system.listed) ∙ kept-at system.interactions.items n item within is in
        let one = interaction-of (plant_of system) system.valid (interaction_of item) (entry-in (plant_interactions (plant_of system)) n (interaction_of item) there) in
        slice_get_within (plant_of system).wires item.connector one.wire one.there

  -- its rows have exactly its own interactions
  pub own-row : (k : ℕ) → k < length (plant_of system).wires → (r : ConnectorRows) → r ≡ get_or system.connector_rows.items k r → (n : ℕ) → contains r.own n ≡ is_of_connector (interactions_in system) k n
  own-row k within r is n =
      let wire = some-at (plant_of system).wires k within in
      let found = some-at system.bound.items k (omega (arith, system.all_bound, within, length-map system.wires.items wire_of)) in
      (system.in_rows.each k r wire.0 found.0
      (slice_get_read system.connector_rows.items (length system.connector_rows.items) k r refl (omega (arith, row-count, within)) is)
      wire.1 found.1).own n
