-- What a system keeps of its connectors, their leaves and its atoms.
use Rattle.std.proofs.Common.{◌≡◌, ℕ, zero, suc, ◌<◌, ◌≤◌, ◌==◌, ◌&&◌, nat_lt, true, false, refl, sym, ◌∙◌, ap, subst, List, [], ◌∷◌, length, map, get_or, arith, ⊎_elim}
use Rattle.std.specs.Prelude.{IsTrue, Option, Some, None, option_map, slice_get}
use Rattle.std.specs.List.{list_all}
use Rattle.std.specs.Option.{option_map_or}
use Rattle.std.proofs.lemmas.Bool.{and_parts, and_right, cases_lt, false≢true, ne_eqb, or_from}
use Rattle.std.proofs.lemmas.List.{get_or_default, length-map}
use Rattle.std.proofs.lemmas.Option.{same_Some, slice_get-map, slice_get_past, slice_get_read}
use Rattle.connector_tree.specs.Tree.{leaves}
use Rattle.connector_tree.specs.declared.tree.Port.{Port}
use Rattle.connector_tree.specs.declared.tree.TheConstants.{MAX_LEAVES}
use Rattle.petri_atom.specs.Atom.{definition_of}
use Rattle.petri_atom.specs.Definition.{AtomDefinition, fired, offers, offers_number}
use Rattle.petri_atom.specs.Local.{Local, Row}
use Rattle.petri_atom.specs.declared.atom.Atom.{Atom}
use Rattle.priority_filter.specs.Members.{has_bit}
use Rattle.plant_model.specs.Reach.{row_of_port}
use Rattle.plant_model.specs.Plant.{WireDefinition}
use Rattle.plant_model.specs.Reach.{IsPortReach, can_read, has_atom}
use Rattle.plant_model.specs.Rules.{early_fault, fault_of_order, first_of, is_known_port, late_fault}
use Rattle.plant_model.specs.System.{plant_of}
use Rattle.plant_model.specs.Usual.{IsUsual, leaves_of}
use Rattle.plant_model.specs.Wire.{wire_of}
use Rattle.plant_model.specs.declared.limits.TheConstants.{MAX_ATOMS, MAX_WIRES}
use Rattle.plant_model.specs.declared.reach.PortReach.{PortReach}
use Rattle.plant_model.specs.declared.system.System.{System}
use Rattle.plant_model.specs.declared.usual.Usual.{Usual}
use Rattle.plant_model.proofs.ByConnector.{lent-count, lent-leaves}
use Rattle.plant_model.proofs.Judging.{atom-at}
use Rattle.plant_model.proofs.OfInteractions.{known-atom, known-leaves}
use Rattle.plant_model.proofs.RulesKept.{few_atoms, few_wires}
use Rattle.plant_model.proofs.TreeRules.{early_trees, few_leaves, first_none}

-- a list has something at each number before its end
pub some-at : {X : Type 0} (xs : List X) (n : ℕ) → n < length xs → (x : X) × (slice_get xs n ≡ Some x)
some-at [] n within = absurd (omega (arith, within))
some-at (x ∷ xs) zero within = (x, refl)
some-at (x ∷ xs) (suc n) within = some-at xs n (omega (arith, within))

-- known ports are of atoms that are there
none-of-atom : (atoms : List AtomDefinition) (n : ℕ) → length atoms ≤ n → (ps : List Port) → list_all (is_known_port atoms) ps ≡ true → has_atom ps n ≡ false
none-of-atom atoms n past [] all = refl
none-of-atom atoms n past (p ∷ ps) all =
    let parts = and_parts (is_known_port atoms p) (list_all (is_known_port atoms) ps) all in
    or_from (p.atom == n) (has_atom ps n) (ne_eqb p.atom n (λ same. absurd (omega (arith, same, past, known-atom atoms p parts.0)))) (none-of-atom atoms n past ps parts.1)

-- an entry that is read by its number, of what the entries show
read-shown : {X Y : Type 0} (show : X → Y) (xs : List X) (n k : ℕ) (x : X) → n ≡ k → k < length xs → x ≡ get_or xs n x → slice_get (map show xs) k ≡ Some (show x)
read-shown show xs n k x same within is =
    slice_get-map show xs k ∙ ap (option_map show) (slice_get_read xs (length xs) k x refl within (is ∙ ap (λ m. get_or xs m x) same))

-- what an atom offers is one of its transitions
pub offered-within : (a : AtomDefinition) (state : Local) (n : ℕ) → IsTrue (offers_number a state n) → n < length a.transitions
offered-within a state n offered =
    ⊎_elim
    (λ within. within)
    (λ past. absurd (false≢true (sym (ap (λ o. option_map_or (offers state) o false) (slice_get_past a.transitions n past)) ∙ offered)))
    (cases_lt n (length a.transitions))

-- the guards of no connector past the last can read an atom
pub none-reads : (wires : List WireDefinition) (atom k : ℕ) → length wires ≤ k → can_read wires atom k ≡ false
none-reads wires atom k past = ap (λ o. option_map_or (λ (w : WireDefinition). nat_lt 0 (length w.guards) && has_atom (leaves w.connector) atom) o false) (slice_get_past wires k past)

module _ (s : System) where
  -- its plant breaks no rule, so it has few wires and atoms, each wire with few leaves
  early : early_fault (plant_of s) ≡ None
  early = first_none (early_fault (plant_of s)) (first_of (late_fault (plant_of s)) (fault_of_order (plant_of s))) s.valid

  pub as-many-connectors : length s.ports.items ≡ length (plant_of s).wires
  as-many-connectors = lent-count (λ list. list.items) s.ports.items s.wires.items s.leaves ∙ sym (length-map s.wires.items wire_of)

  pub few-connectors : length (plant_of s).wires ≤ MAX_WIRES
  few-connectors = few_wires (plant_of s) early

  pub connector-there : (n : ℕ) → n < length s.ports.items → (w : WireDefinition) × (slice_get (plant_of s).wires n ≡ Some w)
  connector-there n within = some-at (plant_of s).wires n (omega (arith, within, as-many-connectors))

  pub its-leaves : (n : ℕ) → n < length s.ports.items → (p : _) → p ≡ get_or s.ports.items n p → (w : WireDefinition) → slice_get (plant_of s).wires n ≡ Some w → p.items ≡ leaves w.connector
  its-leaves n within p is w there = lent-leaves (λ list. list.items) s.ports.items s.wires.items s.leaves n p w within is there

  pub few-its-leaves : (n : ℕ) (w : WireDefinition) → slice_get (plant_of s).wires n ≡ Some w → length (leaves w.connector) ≤ MAX_LEAVES
  few-its-leaves n w there = few_leaves (plant_of s).wires (early_trees (plant_of s) early) n w there

  -- the row of a port of an atom is there, and has what stands on the port
  pub row-there : (atom port place : ℕ) → atom < length (plant_of s).atoms → place ≡ row_of_port atom port → place < length s.reach.ports.items
  row-there atom port place there is = omega (arith, there, is, length-map s.atoms.items definition_of, s.reached.port_count)

  pub row-reach : (place : ℕ) (r : PortReach) → place < length s.reach.ports.items → r ≡ get_or s.reach.ports.items place r → IsPortReach (plant_of s).wires place r
  row-reach place r within is = s.reached.ports place r (slice_get_read s.reach.ports.items (length s.reach.ports.items) place r refl within is)

  pub few-atoms : length (plant_of s).atoms ≤ MAX_ATOMS
  few-atoms = few_atoms (plant_of s) early

  pub atom-within : (n : ℕ) → n < length (plant_of s).atoms → n < length s.atoms.items
  atom-within n there = omega (arith, there, length-map s.atoms.items definition_of)

  -- an atom that is read by its number, as it was written
  pub atom-read : (n k : ℕ) (item : Atom) → n ≡ k → k < length (plant_of s).atoms → item ≡ get_or s.atoms.items n item → slice_get (plant_of s).atoms k ≡ Some (definition_of item)
  atom-read n k item same there is = atom-at s.atoms.items n k item same (atom-within n (omega (arith, same, there))) is

  -- the connectors whose guards can read it
  pub readers-are : (n k : ℕ) (word : ℕ) → n ≡ k → k < length (plant_of s).atoms → word ≡ get_or s.reach.readers.items n word → (j : ℕ) → has_bit word j ≡ can_read (plant_of s).wires k j
  readers-are n k word same there is j =
      let within : n < length s.atoms.items = atom-within n (omega (arith, same, there)) in
      ap (λ w. has_bit w j) (is ∙ get_or_default s.reach.readers.items n word 0 (omega (arith, within, s.reached.reader_count))) ∙
      s.reached.readers n j within ∙ ap (λ m. can_read (plant_of s).wires m j) same

  -- none can read an atom that is not there
  pub none-reads-past : (n : ℕ) → length (plant_of s).atoms ≤ n → (k : ℕ) → can_read (plant_of s).wires n k ≡ false
  none-reads-past n past k = each (slice_get (plant_of s).wires k) refl
    where
      by : (o : Option WireDefinition) → slice_get (plant_of s).wires k ≡ o → can_read (plant_of s).wires n k ≡ option_map_or (λ w. nat_lt 0 (length w.guards) && has_atom (leaves w.connector) n) o false
      by o there = ap (λ x. option_map_or (λ (w : WireDefinition). nat_lt 0 (length w.guards) && has_atom (leaves w.connector) n) x false) there

      each : (o : Option WireDefinition) → slice_get (plant_of s).wires k ≡ o → can_read (plant_of s).wires n k ≡ false
      each None none = by None none
      each (Some w) there =
          by (Some w) there ∙
          and_right (nat_lt 0 (length w.guards)) (has_atom (leaves w.connector) n) (none-of-atom (plant_of s).atoms n past (leaves w.connector) (known-leaves (plant_of s) s.valid k w there))

  -- the state of an atom that is read by its number
  pub state-read : (states : List Local) (n k : ℕ) (state : Local) → length states ≡ length (plant_of s).atoms → n ≡ k → k < length (plant_of s).atoms → state ≡ get_or states n state → slice_get states k ≡ Some state
  state-read states n k state as_many same there is = slice_get_read states (length states) k state refl (omega (arith, as_many, there)) (is ∙ ap (λ m. get_or states m state) same)

  -- what is right for an atom and its state as they are read is right for them by their number
  pub read-right : (f : AtomDefinition → Local → ℕ) (states : List Local) (n k : ℕ) (item : Atom) (state : Local) (x : ℕ) → length states ≡ length (plant_of s).atoms → n ≡ k → k < length (plant_of s).atoms
      → item ≡ get_or s.atoms.items n item → state ≡ get_or states n state → x ≡ f (definition_of item) state
      → (a : AtomDefinition) (t : Local) → slice_get (plant_of s).atoms k ≡ Some a → slice_get states k ≡ Some t → x ≡ f a t
  read-right f states n k item state x as_many same within is is_state right a t known there =
      right ∙ ap (λ b. f b state) (same_Some (definition_of item) a (sym (atom-read n k item same within is) ∙ known)) ∙
      ap (f a) (same_Some state t (sym (state-read states n k state as_many same within is_state) ∙ there))

  -- what could fire by the atom's number could by the atom as it is read
  pub could-fire : (n k : ℕ) (item : Atom) (transition : ℕ) (before : Local) → n ≡ k → k < length (plant_of s).atoms → item ≡ get_or s.atoms.items n item
      → (a : AtomDefinition) → slice_get (plant_of s).atoms k ≡ Some a → IsTrue (offers_number a before transition) → IsTrue (offers_number (definition_of item) before transition)
  could-fire n k item transition before same within is a known could =
      subst (λ b. IsTrue (offers_number b before transition)) (same_Some a (definition_of item) (sym known ∙ atom-read n k item same within is)) could

  -- what a firing leaves as it was is right for the state after it
  pub quiet-right : (f : AtomDefinition → Local → ℕ) (n k : ℕ) (item : Atom) (transition : ℕ) (before after : Local) (delivered : Row) (x : ℕ) → n ≡ k → k < length (plant_of s).atoms
      → item ≡ get_or s.atoms.items n item → f (definition_of item) (fired (definition_of item) transition delivered before) ≡ f (definition_of item) before
      → (a : AtomDefinition) → slice_get (plant_of s).atoms k ≡ Some a → after ≡ fired a transition delivered before → x ≡ f a before → x ≡ f a after
  quiet-right f n k item transition before after delivered x same within is quiet a known fires was =
      let its : definition_of item ≡ a = same_Some (definition_of item) a (sym (atom-read n k item same within is) ∙ known) in
      was ∙ sym (subst (λ b. f b (fired b transition delivered before) ≡ f b before) its quiet) ∙ ap (f a) (sym fires)

  -- the usual firings of an atom stand in a row that is there, with an entry or none for each of its transitions, and each entry is right
  usual-there : (k : ℕ) → k < length (plant_of s).atoms → k < length s.usual.items
  usual-there k there = omega (arith, there, s.foretold.as_many, length-map s.usual.items (λ row. row.items))

  pub usual-long : (n k t : ℕ) (row : _) → n ≡ k → k < length (plant_of s).atoms → row ≡ get_or s.usual.items n row → ((a : AtomDefinition) → slice_get (plant_of s).atoms k ≡ Some a → t < length a.transitions)
      → t < length row.items
  usual-long n k t row same there is fires =
      let atom = some-at (plant_of s).atoms k there in
      omega (arith, fires atom.0 atom.1, s.foretold.in_row k atom.0 row.items atom.1 (read-shown (λ r. r.items) s.usual.items n k row same (usual-there k there) is))

  pub usual-read : (n k t m : ℕ) (row : _) (entry : Option Usual) (usual : Usual) → n ≡ k → k < length (plant_of s).atoms → row ≡ get_or s.usual.items n row → m ≡ t → t < length row.items → entry ≡ get_or row.items m entry → entry ≡ Some usual
      → (a : AtomDefinition) → slice_get (plant_of s).atoms k ≡ Some a → IsUsual a (leaves_of (plant_of s).wires) k usual
  usual-read n k t m row entry usual same there is its within at found a known =
      s.foretold.right k t a row.items usual known (read-shown (λ r. r.items) s.usual.items n k row same (usual-there k there) is)
      (slice_get_read row.items (length row.items) t entry refl within (at ∙ ap (λ j. get_or row.items j entry) its) ∙ ap Some found)
