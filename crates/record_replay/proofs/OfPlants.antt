-- The record of a step is in the ranges of a record, and can be of its plant.
use Rattle.std.proofs.Common.{◌≡◌, ◌==◌, ◌<◌, ◌≤◌, ℕ, zero, suc, refl, sym, ◌∙◌, ap, subst, List, [], ◌∷◌, length, map, slice_get, is_none, arith, ⊎_elim, All, Contains, Bool, true, false, ◌&&◌, Option, Some, None}
use Rattle.std.specs.List.{list_all, list_any}
use Rattle.std.specs.List.Sorted.{IsStrictlyIncreasing}
use Rattle.std.specs.Option.{option_map_or}
use Rattle.std.proofs.lemmas.Bool.{and_parts, and_from, cases_lt, eq-eqb, eqb-true, false≢true, or_left, or_right}
use Rattle.std.proofs.lemmas.List.{get_or_past, length-map}
use Rattle.std.proofs.lemmas.List.Elements.{All-map, All-contains_itself, All-weaker}
use Rattle.std.proofs.lemmas.Option.{none-some, same_Some}
use Rattle.petri_atom.specs.Definition.{AtomDefinition, TransitionDefinition, exports_of, is_well_formed, offers_number}
use Rattle.petri_atom.specs.Local.{Local, Row, delivered_value}
use Rattle.petri_atom.proofs.Fitting.{few_transitions}
use Rattle.connector_tree.specs.declared.tree.Port.{Port}
use Rattle.record_codec.specs.Entry.{IsEntry}
use Rattle.record_codec.specs.Fired.{IsFired}
use Rattle.record_codec.specs.declared.entry.Entry.{Entry}
use Rattle.record_codec.specs.declared.layout.TheConstants.{LAST_NUMBER}
use Rattle.plant_model.specs.Choice.{Interaction, IsAllowed, plant_interactions}
use Rattle.plant_model.specs.Firing.{FiringDefinition, choice_in}
use Rattle.plant_model.specs.Laws.{IsInRange, IsWithinLimits, are_moves_at, is_move_at, is_of_port}
use Rattle.plant_model.specs.Plant.{PlantDefinition}
use Rattle.plant_model.specs.Rules.{fault_of}
use Rattle.plant_model.specs.Step.{transfer}
use Rattle.plant_model.specs.declared.choice.Move.{Move}
use Rattle.plant_model.proofs.Membership.{all-in, entry-in, here, later}
use Rattle.plant_model.proofs.OfChoices.{in-range, taking}
use Rattle.plant_model.proofs.OfInteractions.{within-limits}
use Rattle.plant_model.proofs.PastExports.{past-exports}
use Rattle.record_replay.specs.OfPlant.{are_parts_at, has_none_past, is_of_interaction, is_part_at, is_record_of}
use Rattle.record_replay.specs.Records.{count_of, entry_by, record_by}

-- a test that an element passes
pub any-of : {X : Type 0} (f : X → Bool) (xs : List X) (k : ℕ) (x : X) → slice_get xs k ≡ Some x → f x ≡ true → list_any f xs ≡ true
any-of f [] k x there passes = absurd (none-some x there)
any-of f (y ∷ ys) zero x there passes = or_left (f y) (list_any f ys) (ap f (same_Some y x there) ∙ passes)
any-of f (y ∷ ys) (suc k) x there passes = or_right (f y) (list_any f ys) (any-of f ys k x there passes)

-- there is an element at each place below the length
pub there-at : {X : Type 0} (xs : List X) (k : ℕ) → k < length xs → (x : X) × (slice_get xs k ≡ Some x)
there-at [] k within = absurd (omega arith)
there-at (x ∷ xs) zero within = (x, refl)
there-at (x ∷ xs) (suc k) within = there-at xs k (omega arith)

-- if each value past a number is none, the row has none past it
none-past : (row : Row) (n : ℕ) → ((j : ℕ) → n ≤ j → delivered_value row j ≡ None) → has_none_past n row ≡ true
none-past [] zero none = refl
none-past [] (suc n) none = refl
none-past (v ∷ vs) zero none =
    let from : 0 ≤ 0 = omega arith in
    and_from (is_none v) (list_all is_none vs) (ap is_none (none 0 from)) (none-past vs zero (λ j past. let above : 0 ≤ suc j = omega arith in none (suc j) above))
none-past (v ∷ vs) (suc n) none = none-past vs n (λ j past. let above : suc n ≤ suc j = omega arith in none (suc j) above)

module _ (plant : PlantDefinition) (states : List Local) (counts : List ℕ) (c : FiringDefinition) (valid : fault_of plant ≡ None) (allowed : IsAllowed plant states (choice_in c)) where
  -- what a participant of the choice did
  abbrev part : Move → Entry
  part m = entry_by counts m (transfer plant states c m.atom)

  -- it is of the port that the participant's move is of
  part-of-port : (p : Port) (m : Move) → Contains c.moves m → is_move_at plant.atoms states p m ≡ true → is_part_at plant.atoms p (part m) ≡ true
  part-of-port p m at moves =
      let parts = and_parts (m.atom == p.atom) _ moves in
      let own : m.atom ≡ p.atom = eqb-true m.atom p.atom parts.0 in
      and_from (m.atom == p.atom) _ parts.0 (each (slice_get plant.atoms p.atom) refl (slice_get states p.atom) parts.1 own)
    where
      by-transition : (a : AtomDefinition) (o : Option TransitionDefinition) → slice_get plant.atoms m.atom ≡ Some a → slice_get a.transitions m.transition ≡ o → option_map_or (λ t. t.port == p.port) o false ≡ true → has_none_past (length (exports_of a p.port)) (transfer plant states c m.atom) ≡ true
      by-transition a None its_atom none its_port = absurd (false≢true its_port)
      by-transition a (Some t) its_atom there its_port =
          let same : t.port ≡ p.port = eqb-true t.port p.port its_port in
          none-past (transfer plant states c m.atom) (length (exports_of a p.port)) (λ j past.
          past-exports plant states c m a t valid allowed at its_atom there j (subst (λ (n : ℕ). length (exports_of a n) ≤ j) (sym same) past))

      each : (o : Option AtomDefinition) → slice_get plant.atoms p.atom ≡ o → (w : Option Local) → option_map_or (λ a. option_map_or (λ s. is_of_port a p.port m.transition && offers_number a s m.transition) w false) o false ≡ true → m.atom ≡ p.atom
          → option_map_or (λ a. is_of_port a p.port m.transition && has_none_past (length (exports_of a p.port)) (transfer plant states c m.atom)) o false ≡ true
      each None none w moved own = moved
      each (Some a) there None moved own = absurd (false≢true moved)
      each (Some a) there (Some s) moved own =
          let its_port = (and_parts (is_of_port a p.port m.transition) (offers_number a s m.transition) moved).0 in
          and_from (is_of_port a p.port m.transition) (has_none_past (length (exports_of a p.port)) (transfer plant states c m.atom)) its_port
          (by-transition a (slice_get a.transitions m.transition) (ap (slice_get plant.atoms) own ∙ there) refl its_port)

  -- so are all, by place
  parts-of-ports : (ports : List Port) (moves : List Move) → ((m : Move) → Contains moves m → Contains c.moves m) → are_moves_at plant.atoms states ports moves ≡ true → are_parts_at plant.atoms ports (map part moves) ≡ true
  parts-of-ports [] [] inside all = refl
  parts-of-ports [] (m ∷ ms) inside all = absurd (false≢true all)
  parts-of-ports (p ∷ ps) [] inside all = absurd (false≢true all)
  parts-of-ports (p ∷ ps) (m ∷ ms) inside all =
      let both = and_parts (is_move_at plant.atoms states p m) (are_moves_at plant.atoms states ps ms) all in
      and_from (is_part_at plant.atoms p (part m)) (are_parts_at plant.atoms ps (map part ms))
      (part-of-port p m (inside m (here m ms)) both.0)
      (parts-of-ports ps ms (λ k at. inside k (later m ms k at)) both.1)

  -- the record of the choice can be of the plant
  pub record-of-plant : (n : ℕ) → is_record_of plant (record_by plant states counts n c) ≡ true
  record-of-plant n =
      let found = taking plant states (choice_in c) allowed in
      let takes = found.1 in
      let i : Interaction = takes.interaction in
      any-of (is_of_interaction plant.atoms (record_by plant states counts n c)) (plant_interactions plant) found.0 i takes.there
      (and_from (c.connector == i.connector) (are_parts_at plant.atoms i.ports (map part c.moves)) (eq-eqb c.connector i.connector takes.connector)
      (parts-of-ports i.ports c.moves (λ m at. at) takes.moves))

  -- no count is past the number of the record, since none was up to it before
  count-below : (n atom : ℕ) → 1 ≤ n → All (λ count. count < n) counts → count_of counts atom < n
  count-below n atom first all = ⊎_elim
      (λ within. all atom 0 within)
      (λ past. let none : count_of counts atom ≡ 0 = get_or_past counts atom 0 past in omega arith)
      (cases_lt atom (length counts))

  -- and it is in the ranges of a record
  pub record-in-range : (n : ℕ) → list_all is_well_formed plant.atoms ≡ true → All (λ count. count < n) counts → 1 ≤ n → n ≤ LAST_NUMBER → IsFired (record_by plant states counts n c)
  record-in-range n formed all first last =
      let range : IsInRange plant (choice_in c) = in-range plant states (choice_in c) valid allowed in
      let limits : IsWithinLimits plant = within-limits plant valid in
      let many : length (map part c.moves) ≡ length c.moves = length-map c.moves part in
      record {
        number_positive = first;
        number_within = last;
        connector_within = omega (arith, range.connector, limits.wires);
        some_entry = omega (arith, range.some, many);
        entries_within = omega (arith, range.few, many);
        entries = All-map (IsEntry n) part c.moves (All-weaker (Contains c.moves) (λ m. IsEntry n (part m)) (λ m at. entry-in-range m at range limits) c.moves (All-contains_itself c.moves));
        rising = subst IsStrictlyIncreasing (same-atoms c.moves) range.rising;
      }
    where
      same-atoms : (moves : List Move) → map (λ (m : Move). m.atom) moves ≡ map (λ (e : Entry). e.atom) (map part moves)
      same-atoms [] = refl
      same-atoms (m ∷ ms) = ap (λ ns. m.atom ∷ ns) (same-atoms ms)

      entry-in-range : (m : Move) → Contains c.moves m → IsInRange plant (choice_in c) → IsWithinLimits plant → IsEntry n (part m)
      entry-in-range m at range limits =
          let inside : m.atom < length plant.atoms = range.of_plant m at in
          let its = there-at plant.atoms m.atom inside in
          let well : is_well_formed its.0 ≡ true = all-in is_well_formed plant.atoms formed its.0 (entry-in plant.atoms m.atom its.0 its.1) in
          let below : count_of counts m.atom < n = count-below n m.atom first all in
          record {
            atom_within = omega (arith, inside, limits.atoms);
            transition_within = omega (arith, range.of_atom m its.0 at its.1, few_transitions its.0 well);
            participation_positive = omega arith;
            participation_within = omega arith;
          }
