-- What a choice delivers is a row of values, with nothing past the exports of a port.
use Rattle.std.proofs.Common.{◌≡◌, ℕ, ℤ, zero, suc, ◌+◌, ◌==◌, ◌≤◌, refl, sym, ◌∙◌, ap, subst, List, [], ◌∷◌, ◌++◌, length, map, get_or, Contains, nat_lt, arith, Bool, true, false, cond, ◌&&◌}
use Rattle.std.specs.Prelude.{Option, Some, None, slice_get, find, option_map}
use Rattle.std.specs.List.{list_all, range_with_len}
use Rattle.std.specs.Option.{option_map_or}
use Rattle.std.proofs.Math.Bool.{and-true}
use Rattle.std.proofs.lemmas.List.Folds.{list_all-append}
use Rattle.std.proofs.lemmas.Bool.{and_from, and_parts, eqb-true, ltb-true, false≢true, false_from_ne_true}
use Rattle.petri_atom.specs.Expression.{value_of}
use Rattle.petri_atom.specs.Local.{Local, delivered_value}
use Rattle.petri_atom.specs.Definition.{AtomDefinition, TransitionDefinition, exports_of}
use Rattle.petri_atom.specs.declared.state.TheConstants.{MAX_EXPORTS}
use Rattle.connector_tree.specs.Tree.{leaves}
use Rattle.connector_tree.specs.declared.tree.Port.{Port}
use Rattle.plant_model.specs.Choice.{IsAllowed}
use Rattle.plant_model.specs.Firing.{FiringDefinition, choice_in, handed}
use Rattle.plant_model.specs.Exports.{value_at}
use Rattle.plant_model.specs.Plant.{PlantDefinition, TransferDefinition, WireDefinition}
use Rattle.plant_model.specs.Rules.{fault_of, is_exported, is_known_input, names_known}
use Rattle.plant_model.specs.Step.{applies, delivered_by, is_leaf_of, is_to, nothing_delivered, transfer, transfer_to, transfers_with, value_to}
use Rattle.plant_model.specs.declared.choice.Move.{Move}
use Rattle.plant_model.specs.declared.wire.Input.{Input}
use Rattle.plant_model.proofs.Membership.{all-in, entry-in, here, later}
use Rattle.plant_model.proofs.OfChoices.{taking}
use Rattle.plant_model.proofs.OfInteractions.{interaction-of, known-inputs, known-transfers, same-port, sound-tree}
use Rattle.plant_model.proofs.OfPorts.{port-of-move, port-of-transition}

-- where nothing passes, nothing is found
none-found : {X : Type 0} (f : X → Bool) (xs : List X) → ((x : X) → Contains xs x → f x ≡ false) → find f xs ≡ None
none-found f [] fails = refl
none-found f (x ∷ xs) fails =
    ap (λ b. cond b (Some x) (find f xs)) (fails x (here x xs)) ∙ none-found f xs (λ y at. fails y (later x xs y at))

-- what is made of no number is nothing, at its place and past the end
none-made : {Y : Type 0} (f : ℕ → Option Y) (a n j : ℕ) → f (a + j) ≡ None → get_or (map f (range_with_len a n)) j None ≡ None
none-made f a zero j none = refl
none-made f a (suc n) zero none =
    let e : a ≡ a + zero = omega arith in
    ap f e ∙ none
none-made f a (suc n) (suc j) none =
    let e : (a + 1) + j ≡ a + suc j = omega arith in
    none-made f (a + 1) n j (ap f e ∙ none)

module _ (atoms : List AtomDefinition) (ports : List Port) (p : Port) (unique : (q : Port) → Contains ports q → q.atom ≡ p.atom → q ≡ p) (a : AtomDefinition) (there : slice_get atoms p.atom ≡ Some a) (j : ℕ) (past : length (exports_of a p.port) ≤ j) where
  -- no known variable of a leaf is past what the only leaf of its atom exports
  not-to : (t : TransferDefinition) → names_known atoms ports t ≡ true → is_to ports p.atom j t.target ≡ true → ⊥
  not-to t known goes = each (slice_get ports t.target.leaf) refl (and_parts _ _ known).0 parts.1
    where
      parts : ((t.target.export == j) ≡ true) × (is_leaf_of ports t.target.leaf p.atom ≡ true)
      parts = and_parts (t.target.export == j) (is_leaf_of ports t.target.leaf p.atom) goes

      each : (o : Option Port) → slice_get ports t.target.leaf ≡ o → option_map_or (λ q. is_exported atoms q t.target.export) o false ≡ true → option_map_or (λ q. q.atom == p.atom) o false ≡ true → ⊥
      each None found exported own = false≢true own
      each (Some q) found exported own =
          let same : q ≡ p = unique q (entry-in ports t.target.leaf q found) (eqb-true q.atom p.atom own) in
          let its : is_exported atoms p t.target.export ≡ true = ap (λ r. is_exported atoms r t.target.export) (sym same) ∙ exported in
          let below : nat_lt t.target.export (length (exports_of a p.port)) ≡ true = sym (ap (λ o. option_map_or (λ b. nat_lt t.target.export (length (exports_of b p.port))) o false) there) ∙ its in
          omega (arith, ltb-true t.target.export (length (exports_of a p.port)) below, eqb-true t.target.export j parts.0, past)

  -- so nothing is transferred there
  none-to : (transfers : List TransferDefinition) → list_all (names_known atoms ports) transfers ≡ true → (mask : ℕ) → transfer_to ports transfers mask p.atom j ≡ None
  none-to transfers known mask = none-found (λ t. applies mask t && is_to ports p.atom j t.target) transfers (λ t at.
      false_from_ne_true _ (λ both. not-to t (all-in (names_known atoms ports) transfers known t at) (and_parts (applies mask t) (is_to ports p.atom j t.target) both).1))

  pub none-delivered : (states : List Local) (transfers : List TransferDefinition) → list_all (names_known atoms ports) transfers ≡ true → (mask : ℕ) → delivered_value (delivered_by atoms states ports transfers mask p.atom) j ≡ None
  none-delivered states transfers known mask =
      let e : 0 + j ≡ j = omega arith in
      none-made (value_to atoms states ports transfers mask p.atom) 0 MAX_EXPORTS j
      (ap (value_to atoms states ports transfers mask p.atom) e ∙ ap (option_map (λ (t : TransferDefinition). value_of (value_at atoms states ports) t.value)) (none-to transfers known mask))

-- the values that come in go to variables that are there
known-handed : (atoms : List AtomDefinition) (ports : List Port) (inputs : List Input) (values : List ℤ) → list_all (is_known_input atoms ports) inputs ≡ true → list_all (names_known atoms ports) (handed inputs values) ≡ true
known-handed atoms ports [] values known = refl
known-handed atoms ports (i ∷ is) [] known = refl
known-handed atoms ports (i ∷ is) (v ∷ vs) known =
    let parts = and_parts (is_known_input atoms ports i) (list_all (is_known_input atoms ports) is) known in
    and_from _ (list_all (names_known atoms ports) (handed is vs)) (and-true (is_known_input atoms ports i) ∙ parts.0) (known-handed atoms ports is vs parts.1)

known-with : (atoms : List AtomDefinition) (ports : List Port) (w : WireDefinition) (values : List ℤ) → list_all (names_known atoms ports) w.transfers ≡ true → list_all (is_known_input atoms ports) w.inputs ≡ true → list_all (names_known atoms ports) (transfers_with w values) ≡ true
known-with atoms ports w values transfers inputs =
    list_all-append (names_known atoms ports) w.transfers (handed w.inputs values) ∙
    and_from _ _ transfers (known-handed atoms ports w.inputs values inputs)

-- a firing delivers nothing past what the port of a participant's transition exports
pub past-exports : (plant : PlantDefinition) (states : List Local) (c : FiringDefinition) (m : Move) (a : AtomDefinition) (t : TransitionDefinition) → fault_of plant ≡ None → IsAllowed plant states (choice_in c) → Contains c.moves m → slice_get plant.atoms m.atom ≡ Some a → slice_get a.transitions m.transition ≡ Some t → (j : ℕ) → length (exports_of a t.port) ≤ j → delivered_value (transfer plant states c m.atom) j ≡ None
past-exports plant states c m a t valid allowed at its_atom its_transition j past =
    let chosen = taking plant states (choice_in c) allowed in
    let takes = chosen.1 in
    let i = takes.interaction in
    let whole = interaction-of plant valid i (entry-in _ chosen.0 i takes.there) in
    let w : WireDefinition = whole.wire in
    let ports = leaves w.connector in
    let found = port-of-move plant.atoms states i.ports c.moves takes.moves m at in
    let p : Port = found.0 in
    let own : m.atom ≡ p.atom = eqb-true m.atom p.atom (and_parts (m.atom == p.atom) _ found.2).0 in
    let there : slice_get plant.atoms p.atom ≡ Some a = ap (slice_get plant.atoms) (sym own) ∙ its_atom in
    let its_port : t.port ≡ p.port = port-of-transition plant.atoms states p m found.2 a there t its_transition in
    let few : length (exports_of a p.port) ≤ j = subst (λ n. length (exports_of a n) ≤ j) its_port past in
    let is_leaf : Contains ports p = whole.of_connector p found.1 in
    let sound = sound-tree plant valid i.connector w whole.there in
    let unique : (q : Port) → Contains ports q → q.atom ≡ p.atom → q ≡ p = λ q leaf same. same-port ports sound.distinct_atoms q p leaf is_leaf same in
    let wire : slice_get plant.wires c.connector ≡ Some w = ap (slice_get plant.wires) takes.connector ∙ whole.there in
    ap (λ n. delivered_value (transfer plant states c n) j) own ∙
    ap (λ o. delivered_value (option_map_or (λ w. delivered_by plant.atoms states (leaves w.connector) (transfers_with w c.inputs) c.mask p.atom) o nothing_delivered) j) wire ∙
    none-delivered plant.atoms ports p unique a there j few states (transfers_with w c.inputs) (known-with plant.atoms ports w c.inputs (known-transfers plant valid i.connector w whole.there) (known-inputs plant valid i.connector w whole.there)) c.mask

-- what is delivered is a row with a place for each variable that a port may export
pub delivered-long : (plant : PlantDefinition) (states : List Local) (c : FiringDefinition) (atom : ℕ) → length (transfer plant states c atom) ≡ MAX_EXPORTS
delivered-long plant states c atom = each (slice_get plant.wires c.connector)
  where
    each : (o : Option WireDefinition) → length (option_map_or (λ w. delivered_by plant.atoms states (leaves w.connector) (transfers_with w c.inputs) c.mask atom) o nothing_delivered) ≡ MAX_EXPORTS
    each None = refl
    each (Some w) = refl
