-- Connectors as the bits of words, and which of them have leaves of an atom, and which interactions.
use Rattle.std.proofs.Common.{◌≡◌, ℕ, zero, suc, ◌==◌, ◌<◌, ◌≤◌, refl, sym, ◌∙◌, ap, List, [], ◌∷◌, length, get_or, nat_lt, Contains, arith, true, false, ◌||◌, ⊎_elim}
use Rattle.std.specs.Prelude.{Option, Some, None, slice_get}
use Rattle.std.specs.FinSet.{contains}
use Rattle.std.specs.List.{list_all}
use Rattle.std.specs.Option.{option_map_or}
use Rattle.std.proofs.lemmas.Bool.{and_parts, cases_lt, eq-eqb, eqb-true, false_from_ne_true, false≢true, ltb-true, or_from, or_parts, or_right}
use Rattle.std.proofs.lemmas.List.{length-map}
use Rattle.std.proofs.lemmas.Option.{slice_get_past, slice_get_read}
use Rattle.petri_atom.specs.Atom.{definition_of}
use Rattle.petri_atom.specs.Definition.{AtomDefinition}
use Rattle.connector_tree.specs.Tree.{leaves}
use Rattle.connector_tree.specs.declared.tree.Port.{Port}
use Rattle.plant_model.specs.Choice.{Interaction, plant_interactions}
use Rattle.plant_model.specs.ConnectorRows.{is_of_connector}
use Rattle.plant_model.specs.Reach.{at_port, has_row, row_of_port}
use Rattle.plant_model.specs.Plant.{WireDefinition}
use Rattle.plant_model.specs.Reach.{has_atom, is_at}
use Rattle.plant_model.specs.Rules.{is_known_port}
use Rattle.plant_model.specs.System.{interactions_in, plant_of}
use Rattle.plant_model.specs.Wire.{wire_of}
use Rattle.plant_model.specs.declared.connector_rows.ConnectorRows.{ConnectorRows}
use Rattle.plant_model.specs.declared.system.System.{System}
use Rattle.plant_model.proofs.Membership.{entry-in, here-or-later, in-entry}
use Rattle.plant_model.proofs.OfInteractions.{interaction-of, known-leaves}
use Rattle.step_core.specs.SureJudgement.{has_leaf_of}

-- ---- lists

-- there is an element at each place before the end
some-at : {X : Type 0} (xs : List X) (k : ℕ) → k < length xs → (x : X) × (slice_get xs k ≡ Some x)
some-at [] k below = absurd (omega (arith, below))
some-at (x ∷ xs) zero below = (x, refl)
some-at (x ∷ xs) (suc k) below = some-at xs k (omega (arith, below))

-- each interaction is of its connector
pub own-connector : (all : List Interaction) (n : ℕ) → n < length all → (k : ℕ) × (is_of_connector all k n ≡ true)
own-connector all n within =
    let found = some-at all n within in
    (found.0.connector, ap (λ o. option_map_or (λ i. i.connector == found.0.connector) o false) found.1 ∙ eq-eqb found.0.connector found.0.connector refl)

-- and only one that is there is of a connector
pub of-connector-within : (all : List Interaction) (k n : ℕ) → is_of_connector all k n ≡ true → n < length all
of-connector-within all k n its =
    ⊎_elim
    (λ within. within)
    (λ past. absurd (false≢true (sym (ap (λ o. option_map_or (λ (i : Interaction). i.connector == k) o false) (slice_get_past all n past)) ∙ its)))
    (cases_lt n (length all))

-- ---- the atoms of leaves

-- a port of the atom among them
pub to-atom : (ps : List Port) (p : Port) → Contains ps p → has_atom ps p.atom ≡ true
to-atom [] p at = absurd (omega (arith, at.1))
to-atom (q ∷ qs) p at =
    ⊎_elim
    (λ is. ap (λ b. b || has_atom qs p.atom) (eq-eqb q.atom p.atom (ap (λ (x : Port). x.atom) is)))
    (λ more. or_right (q.atom == p.atom) (has_atom qs p.atom) (to-atom qs p more))
    (here-or-later q qs p at)

-- where no leaf has the row of a port of the atom, none is of the atom
no-atom : (atoms : List AtomDefinition) (atom : ℕ) (a : AtomDefinition) → slice_get atoms atom ≡ Some a → (ps : List Port) → list_all (is_known_port atoms) ps ≡ true
    → ((port : ℕ) → port < length a.ports → has_row ps (row_of_port atom port) ≡ false) → has_atom ps atom ≡ false
no-atom atoms atom a there [] known none = refl
no-atom atoms atom a there (p ∷ ps) known none =
    let both = and_parts (is_known_port atoms p) (list_all (is_known_port atoms) ps) known in
    let apart : (p.atom == atom) ≡ false = false_from_ne_true (p.atom == atom) (λ same.
    let its : p.atom ≡ atom = eqb-true p.atom atom same in
    let low : p.port < length a.ports = ltb-true p.port (length a.ports) (sym (ap (λ o. option_map_or (λ (b : AtomDefinition). nat_lt p.port (length b.ports)) o false) (ap (slice_get atoms) its ∙ there)) ∙ both.0) in
    false≢true (
    sym (or_parts (at_port p == row_of_port atom p.port) (has_row ps (row_of_port atom p.port)) (none p.port low)).0 ∙
    eq-eqb (at_port p) (row_of_port atom p.port) (ap (λ n. row_of_port n p.port) its))) in
    or_from (p.atom == atom) (has_atom ps atom) apart
    (no-atom atoms atom a there ps both.1 (λ port low. (or_parts (at_port p == row_of_port atom port) (has_row ps (row_of_port atom port)) (none port low)).1))

module _ (s : System) where
  abbrev wires : List WireDefinition
  wires = (plant_of s).wires

  -- a connector that stands on none of an atom's ports has no leaf of it
  pub no-leaf : (atom k : ℕ) (a : AtomDefinition) → slice_get (plant_of s).atoms atom ≡ Some a → ((port : ℕ) → port < length a.ports → is_at wires (row_of_port atom port) k ≡ false) → has_leaf_of wires atom k ≡ false
  no-leaf atom k a known none = each (slice_get wires k) refl
    where
      each : (o : Option WireDefinition) → slice_get wires k ≡ o → option_map_or (λ w. has_atom (leaves w.connector) atom) o false ≡ false
      each None there = refl
      each (Some w) there =
          no-atom (plant_of s).atoms atom a known (leaves w.connector) (known-leaves (plant_of s) s.valid k w there)
          (λ port low. sym (ap (λ o. option_map_or (λ v. has_row (leaves v.connector) (row_of_port atom port)) o false) there) ∙ none port low)

  -- an atom past the last one has no leaf
  pub no-leaf-past : (atom k : ℕ) → length s.atoms.items ≤ atom → has_leaf_of wires atom k ≡ false
  no-leaf-past atom k past = each (slice_get wires k) refl
    where
      none : (ps : List Port) → list_all (is_known_port (plant_of s).atoms) ps ≡ true → has_atom ps atom ≡ false
      none [] known = refl
      none (p ∷ ps) known =
          let both = and_parts (is_known_port (plant_of s).atoms p) (list_all (is_known_port (plant_of s).atoms) ps) known in
          or_from (p.atom == atom) (has_atom ps atom)
          (false_from_ne_true (p.atom == atom) (λ same.
          let its : atom ≡ p.atom = sym (eqb-true p.atom atom same) in
          false≢true (sym (ap (λ o. option_map_or (λ a. nat_lt p.port (length a.ports)) o false) (slice_get_past (plant_of s).atoms p.atom (omega (arith, past, its, length-map s.atoms.items definition_of)))) ∙ both.0)))
          (none ps both.1)

      each : (o : Option WireDefinition) → slice_get wires k ≡ o → option_map_or (λ w. has_atom (leaves w.connector) atom) o false ≡ false
      each None there = refl
      each (Some w) there = none (leaves w.connector) (known-leaves (plant_of s) s.valid k w there)

  -- a connector past the last one stands on no port
  pub at-none : (place k : ℕ) → length wires ≤ k → is_at wires place k ≡ false
  at-none place k past = ap (λ o. option_map_or (λ w. has_row (leaves w.connector) place) o false) (slice_get_past wires k past)

  -- ---- interactions

  -- the row of a connector's own interactions has exactly these
  pub own-row : (k : ℕ) (r : ConnectorRows) → k < length s.connector_rows.items → r ≡ get_or s.connector_rows.items k r → (n : ℕ) → contains r.own n ≡ is_of_connector (interactions_in s) k n
  own-row k r within is n =
      let of_wire = some-at wires k (omega (arith, within, s.in_rows.as_many)) in
      let bound = some-at s.bound.items k (omega (arith, within, s.in_rows.as_many, s.all_bound, length-map s.wires.items wire_of)) in
      (s.in_rows.each k r of_wire.0 bound.0 (slice_get_read s.connector_rows.items (length s.connector_rows.items) k r refl within is) of_wire.1 bound.1).own n

  -- each port of an interaction is a leaf of its connector
  module _ (n : ℕ) (i : Interaction) (there : slice_get (interactions_in s) n ≡ Some i) (p : Port) (at : Contains i.ports p) where
    pub port-leaf : (w : WireDefinition) × (leaf : ℕ) × (slice_get wires i.connector ≡ Some w) × (slice_get (leaves w.connector) leaf ≡ Some p)
    port-leaf =
        let is = interaction-of (plant_of s) s.valid i (entry-in (plant_interactions (plant_of s)) n i (ap (λ xs. slice_get xs n) (sym s.listed) ∙ there)) in
        let leaf = in-entry (leaves is.wire.connector) p (is.of_connector p at) in
        (is.wire, leaf.0, is.there, leaf.1)

    pub port-has-leaf : has_leaf_of wires p.atom i.connector ≡ true
    port-has-leaf =
        ap (λ o. option_map_or (λ w. has_atom (leaves w.connector) p.atom) o false) port-leaf.2 ∙
        to-atom (leaves port-leaf.0.connector) p (entry-in (leaves port-leaf.0.connector) port-leaf.1 p port-leaf.3)
