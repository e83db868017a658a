-- What a change did not reach is as it was: of a connector that is not told to be judged again the same interactions are possible, and of one
-- that is not told to be weighed again the kept interactions have as many choices.
use Rattle.std.proofs.Common.{◌≡◌, ⊎_elim, ℕ, ◌*◌, ◌==◌, ◌<◌, refl, sym, ◌∙◌, ap, List, [], ◌∷◌, length, map, nat_lt, arith, zero, suc, Bool, true, false, ◌&&◌, ◌||◌, not, pos, Contains}
use Rattle.std.specs.Prelude.{Option, Some, None, slice_get}
use Rattle.std.specs.List.{list_all}
use Rattle.std.specs.Option.{option_map_or}
use Rattle.std.proofs.lemmas.Bool.{and_parts, and_right, cases_Bool, lt-ltb, eqb-true, false≢true, or_left, or_right, eq-eqb}
use Rattle.std.proofs.lemmas.List.{length-map}
use Rattle.std.proofs.lemmas.Option.{none-some, same_Some}
use Rattle.petri_atom.specs.Local.{Local, is_in}
use Rattle.petri_atom.specs.Expression.{Tree, is_true, value_of}
use Rattle.petri_atom.specs.Definition.{AtomDefinition, exported_value}
use Rattle.connector_tree.specs.Tree.{leaves}
use Rattle.connector_tree.specs.declared.tree.Port.{Port}
use Rattle.priority_filter.specs.Members.{has_bit}
use Rattle.plant_model.specs.Choice.{Interaction, choices_of, combinations, is_offered_port, is_possible, is_possible_at, moves_of, passes_guards, plant_interactions}
use Rattle.plant_model.specs.ConnectorRows.{is_of_connector}
use Rattle.plant_model.specs.Exports.{clause_applies, exported_at, guards_hold, value_at}
use Rattle.plant_model.specs.Laws.{IsInteractionOf}
use Rattle.plant_model.specs.Plant.{WireDefinition, PlantDefinition}
use Rattle.plant_model.specs.Reach.{can_read, has_atom}
use Rattle.plant_model.specs.Rules.{fault_of}
use Rattle.plant_model.specs.System.{interactions_in, plant_of}
use Rattle.plant_model.specs.Ways.{ways_at}
use Rattle.plant_model.specs.declared.system.System.{System}
use Rattle.plant_model.specs.declared.wire.Export.{Export}
use Rattle.plant_model.proofs.Combinations.{length-rows}
use Rattle.plant_model.proofs.Membership.{entry-in, here, in-entry, later}
use Rattle.plant_model.proofs.OfInteractions.{interaction-of}
use Rattle.step_core.specs.Leaves.{AreToldOf, count_of}
use Rattle.step_core.specs.Weights.{is_kept_of, weight_of}
use Rattle.step_core.specs.declared.changes.Changes.{Changes}
use Rattle.step_core.proofs.Offering.{offered-told}
use Rattle.step_core.proofs.Unchanged.{total-kept}

-- ---- interactions whose ports stay

-- what is asked of atoms whose states stay has the same answer
module _ (atoms : List AtomDefinition) (wires : List WireDefinition) (old new : List Local) (changed : List ℕ) (same : (k : ℕ) → is_in changed k ≡ false → slice_get new k ≡ slice_get old k) where
  exported-same : (p : Port) (e : ℕ) → is_in changed p.atom ≡ false → exported_at atoms new p e ≡ exported_at atoms old p e
  exported-same p e still = ap (λ o. option_map_or (λ a. option_map_or (λ s. exported_value a s p.port e) o (pos 0)) (slice_get atoms p.atom) (pos 0)) (same p.atom still)

  value-same : (ports : List Port) → ((leaf : ℕ) (p : Port) → slice_get ports leaf ≡ Some p → is_in changed p.atom ≡ false) → (e : Export) → value_at atoms new ports e ≡ value_at atoms old ports e
  value-same ports still e = each (slice_get ports e.leaf) refl
    where
      each : (o : Option Port) → slice_get ports e.leaf ≡ o → option_map_or (λ p. exported_at atoms new p e.export) o (pos 0) ≡ option_map_or (λ p. exported_at atoms old p e.export) o (pos 0)
      each None there = refl
      each (Some p) there = exported-same p e.export (still e.leaf p there)

  guards-same : (i : Interaction) → ((w : WireDefinition) → slice_get wires i.connector ≡ Some w → 0 < length w.guards → (leaf : ℕ) (p : Port) → slice_get (leaves w.connector) leaf ≡ Some p → is_in changed p.atom ≡ false)
      → passes_guards atoms wires new i ≡ passes_guards atoms wires old i
  guards-same i unread = each (slice_get wires i.connector) refl
    where
      hold : List Local → WireDefinition → Bool
      hold states w = guards_hold atoms states (leaves w.connector) i.mask w.guards

      each : (o : Option WireDefinition) → slice_get wires i.connector ≡ o → option_map_or (hold new) o true ≡ option_map_or (hold old) o true
      each None there = refl
      each (Some w) there = by-guards w.guards (unread w there)
        where
          by-guards : (gs : List (Tree Export)) → (0 < length gs → (leaf : ℕ) (p : Port) → slice_get (leaves w.connector) leaf ≡ Some p → is_in changed p.atom ≡ false)
              → guards_hold atoms new (leaves w.connector) i.mask gs ≡ guards_hold atoms old (leaves w.connector) i.mask gs
          by-guards [] all = refl
          by-guards (g ∷ gs) all =
              ap (λ v. list_all (λ clause. not (clause_applies i.mask clause) || is_true (value_of v clause)) (g ∷ gs)) (λ n e. value-same (leaves w.connector) (all (omega arith)) e n)

-- ports that are offered where they were
offered-same : (atoms : List AtomDefinition) (before after : List Local) (ports : List Port) → ((p : Port) → Contains ports p → is_offered_port atoms after p ≡ is_offered_port atoms before p)
    → list_all (is_offered_port atoms after) ports ≡ list_all (is_offered_port atoms before) ports
offered-same atoms before after [] same = refl
offered-same atoms before after (p ∷ ps) same =
    ap (λ b. b && list_all (is_offered_port atoms after) ps) (same p (here p ps)) ∙
    ap (λ b. is_offered_port atoms before p && b) (offered-same atoms before after ps (λ q at. same q (later p ps q at)))

-- ports that have as many moves as before have as many rows of these
rows-same : (atoms : List AtomDefinition) (before after : List Local) (ports : List Port) → ((p : Port) → Contains ports p → length (moves_of atoms after p) ≡ length (moves_of atoms before p))
    → length (combinations (map (moves_of atoms after) ports)) ≡ length (combinations (map (moves_of atoms before) ports))
rows-same atoms before after [] same = refl
rows-same atoms before after (p ∷ ps) same =
    let rest = combinations (map (moves_of atoms after) ps) in
    length-rows rest (moves_of atoms after p) ∙ ap (λ k. k * length rest) (same p (here p ps)) ∙
    ap (λ k. length (moves_of atoms before p) * k) (rows-same atoms before after ps (λ q at. same q (later p ps q at))) ∙
    sym (length-rows (combinations (map (moves_of atoms before) ps)) (moves_of atoms before p))

-- ---- the connectors that a change did not reach

-- an atom of a leaf is one of the leaves' atoms
atom-here : (ps : List Port) (leaf : ℕ) (p : Port) → slice_get ps leaf ≡ Some p → has_atom ps p.atom ≡ true
atom-here [] leaf p at = absurd (none-some p at)
atom-here (q ∷ qs) zero p at = or_left (q.atom == p.atom) (has_atom qs p.atom) (eq-eqb q.atom p.atom (ap (λ (x : Port). x.atom) (same_Some q p at)))
atom-here (q ∷ qs) (suc leaf) p at = or_right (q.atom == p.atom) (has_atom qs p.atom) (atom-here qs leaf p at)

module _ (plant : PlantDefinition) (valid : fault_of plant ≡ None) (all : List Interaction) (listed : all ≡ plant_interactions plant)
    (changed : List ℕ) (before after : List Local) (old new : List (List ℕ)) (c : Changes)
    (stays : (k : ℕ) → is_in changed k ≡ false → slice_get after k ≡ slice_get before k)
    (were : (p : Port) → count_of old p ≡ length (moves_of plant.atoms before p))
    (are : (p : Port) → count_of new p ≡ length (moves_of plant.atoms after p))
    (told : AreToldOf plant.wires changed old new c) where
  -- a number is that of an interaction of the connector
  of-connector : (n k : ℕ) → is_of_connector all k n ≡ true → (i : Interaction) × (slice_get all n ≡ Some i) × (i.connector ≡ k)
  of-connector n k its = each (slice_get all n) refl
    where
      each : (o : Option Interaction) → slice_get all n ≡ o → (i : Interaction) × (o ≡ Some i) × (i.connector ≡ k)
      each None none = absurd (false≢true (sym (ap (λ o. option_map_or (λ i. i.connector == k) o false) none) ∙ its))
      each (Some i) some = (i, refl, eqb-true i.connector k (sym (ap (λ o. option_map_or (λ i. i.connector == k) o false) some) ∙ its))

  is-one : (n : ℕ) (i : Interaction) → slice_get all n ≡ Some i → IsInteractionOf plant i
  is-one n i there = interaction-of plant valid i (entry-in (plant_interactions plant) n i (ap (λ xs. slice_get xs n) (sym listed) ∙ there))

  -- each port of one is a leaf of its connector
  its-leaf : (i : Interaction) (k : ℕ) → i.connector ≡ k → (is : IsInteractionOf plant i) → (p : Port) → Contains i.ports p → (leaf : ℕ) × (slice_get plant.wires k ≡ Some is.wire) × (slice_get (leaves is.wire.connector) leaf ≡ Some p)
  its-leaf i k its is p at =
      let found = in-entry (leaves is.wire.connector) p (is.of_connector p at) in
      (found.0, ap (slice_get plant.wires) (sym its) ∙ is.there, found.1)

  -- the guards of a connector that is not judged again read no atom that changed
  unread : (k : ℕ) → has_bit c.dirty k ≡ false → (w : WireDefinition) → slice_get plant.wires k ≡ Some w → 0 < length w.guards → (leaf : ℕ) (p : Port) → slice_get (leaves w.connector) leaf ≡ Some p → is_in changed p.atom ≡ false
  unread k clean w there some leaf p at =
      ⊎_elim
      (λ yes_.
      let can : can_read plant.wires p.atom k ≡ (nat_lt 0 (length w.guards) && has_atom (leaves w.connector) p.atom) =
      ap (λ o. option_map_or (λ (v : WireDefinition). nat_lt 0 (length v.guards) && has_atom (leaves v.connector) p.atom) o false) there in
      absurd (false≢true (sym (told.read k p.atom clean yes_) ∙ can ∙ ap (λ b. b && has_atom (leaves w.connector) p.atom) (reads some) ∙ atom-here (leaves w.connector) leaf p at)))
      (λ no. no)
      (cases_Bool (is_in changed p.atom))
    where
      reads : 0 < length w.guards → nat_lt 0 (length w.guards) ≡ true
      reads some = lt-ltb 0 (length w.guards) some

  pub possible-clean : (n k : ℕ) → is_of_connector all k n ≡ true → has_bit c.dirty k ≡ false → is_possible_at plant.atoms plant.wires after all n ≡ is_possible_at plant.atoms plant.wires before all n
  possible-clean n k its clean =
      let found = of-connector n k its in
      let i = found.0 in
      let is = is-one n i found.1 in
      let offered : list_all (is_offered_port plant.atoms after) i.ports ≡ list_all (is_offered_port plant.atoms before) i.ports =
      offered-same plant.atoms before after i.ports (λ p at. as-told p is.wire (its-leaf i k found.2 is p at)) in
      let guards : passes_guards plant.atoms plant.wires after i ≡ passes_guards plant.atoms plant.wires before i =
      guards-same plant.atoms plant.wires before after changed stays i (λ w there. unread k clean w (ap (slice_get plant.wires) (sym found.2) ∙ there)) in
      ap (λ o. option_map_or (is_possible plant.atoms plant.wires after) o false) found.1 ∙
      ap (λ b. b && passes_guards plant.atoms plant.wires after i) offered ∙ ap (λ b. list_all (is_offered_port plant.atoms before) i.ports && b) guards ∙
      sym (ap (λ o. option_map_or (is_possible plant.atoms plant.wires before) o false) found.1)
    where
      as-told : (p : Port) (w : WireDefinition) → (leaf : ℕ) × (slice_get plant.wires k ≡ Some w) × (slice_get (leaves w.connector) leaf ≡ Some p) → is_offered_port plant.atoms after p ≡ is_offered_port plant.atoms before p
      as-told p w at =
          sym (offered-told plant.atoms after p (count_of new p) (are p)) ∙
          ap not (told.dirty k clean w at.0 p at.1 at.2) ∙
          offered-told plant.atoms before p (count_of old p) (were p)

  pub ways-clean : (n k : ℕ) → is_of_connector all k n ≡ true → has_bit c.heavy k ≡ false → ways_at plant.atoms after all n ≡ ways_at plant.atoms before all n
  ways-clean n k its light =
      let found = of-connector n k its in
      let i = found.0 in
      let is = is-one n i found.1 in
      ap (λ o. option_map_or (λ j. length (choices_of plant.atoms after j)) o 0) found.1 ∙
      length-map _ _ ∙ rows-same plant.atoms before after i.ports (λ p at. as-told p is.wire (its-leaf i k found.2 is p at)) ∙ sym (length-map _ _) ∙
      sym (ap (λ o. option_map_or (λ j. length (choices_of plant.atoms before j)) o 0) found.1)
    where
      as-told : (p : Port) (w : WireDefinition) → (leaf : ℕ) × (slice_get plant.wires k ≡ Some w) × (slice_get (leaves w.connector) leaf ≡ Some p) → length (moves_of plant.atoms after p) ≡ length (moves_of plant.atoms before p)
      as-told p w at = sym (are p) ∙ told.heavy k light w at.0 p at.1 at.2 ∙ were p

  pub weight-clean : (k : ℕ) → has_bit c.heavy k ≡ false → (kept later : ℕ → Bool) → ((n : ℕ) → is_of_connector all k n ≡ true → later n ≡ kept n) → weight_of plant.atoms after all later k ≡ weight_of plant.atoms before all kept k
  weight-clean k light kept later same =
      total-kept plant.atoms all before after (is_kept_of all kept k) (is_kept_of all later k) alike
      (λ n yes_. ways-clean n k (and_parts (later n) (is_of_connector all k n) yes_).1 light)
    where
      alike : (n : ℕ) → is_kept_of all later k n ≡ is_kept_of all kept k n
      alike n = ⊎_elim
          (λ its. ap (λ b. b && is_of_connector all k n) (same n its))
          (λ other. and_right (later n) (is_of_connector all k n) other ∙ sym (and_right (kept n) (is_of_connector all k n) other))
          (cases_Bool (is_of_connector all k n))

-- ---- the same of a system

pub possible-as-before : (s : System) (changed : List ℕ) (before after : List Local) (old new : List (List ℕ)) (c : Changes)
    → length before ≡ length after → length after ≡ length (plant_of s).atoms
    → ((k : ℕ) → is_in changed k ≡ false → slice_get after k ≡ slice_get before k)
    → ((p : Port) → count_of old p ≡ length (moves_of (plant_of s).atoms before p))
    → ((p : Port) → count_of new p ≡ length (moves_of (plant_of s).atoms after p))
    → AreToldOf (plant_of s).wires changed old new c
    → (n k : ℕ) → is_of_connector (interactions_in s) k n ≡ true → has_bit c.dirty k ≡ false
    → is_possible_at (plant_of s).atoms (plant_of s).wires after (interactions_in s) n ≡ is_possible_at (plant_of s).atoms (plant_of s).wires before (interactions_in s) n
possible-as-before s changed before after old new c as_many of_plant stays were are told =
    possible-clean (plant_of s) s.valid (interactions_in s) s.listed changed before after old new c stays were are told

pub weight-as-before : (s : System) (changed : List ℕ) (before after : List Local) (old new : List (List ℕ)) (c : Changes)
    → length before ≡ length after → length after ≡ length (plant_of s).atoms
    → ((k : ℕ) → is_in changed k ≡ false → slice_get after k ≡ slice_get before k)
    → ((p : Port) → count_of old p ≡ length (moves_of (plant_of s).atoms before p))
    → ((p : Port) → count_of new p ≡ length (moves_of (plant_of s).atoms after p))
    → AreToldOf (plant_of s).wires changed old new c
    → (k : ℕ) → has_bit c.heavy k ≡ false → (kept later : ℕ → Bool) → ((n : ℕ) → is_of_connector (interactions_in s) k n ≡ true → later n ≡ kept n)
    → weight_of (plant_of s).atoms after (interactions_in s) later k ≡ weight_of (plant_of s).atoms before (interactions_in s) kept k
weight-as-before s changed before after old new c as_many of_plant stays were are told =
    weight-clean (plant_of s) s.valid (interactions_in s) s.listed changed before after old new c stays were are told
