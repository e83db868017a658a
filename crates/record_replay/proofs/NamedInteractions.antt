-- The interaction that a record can be of: its leaves are those whose atoms have a part in the record, and no other of its connector has them.
use Rattle.std.proofs.Common.{◌≡◌, ◌==◌, ◌+◌, ◌-◌, ◌<◌, ◌≤◌, ◌^◌, ℕ, zero, suc, refl, sym, ◌∙◌, ap, subst, List, [], ◌∷◌, length, get_or, map, drop, find, nat_lt, arith, ⊎_elim, Contains, Bool, true, false, cond, not, ◌&&◌, ◌||◌, Option, Some, None, Result, Ok, Err, slice_get}
use Rattle.std.specs.List.{list_any, range_with_len, slice_range}
use Rattle.std.specs.List.Sorted.{IsBinarySearchResult, IsNonDecreasingBy, IsSearchInRange}
use Rattle.std.specs.Option.{option_map_or}
use Rattle.std.specs.Ordering.{nat_cmp, ordering_index}
use Rattle.std.specs.Result.{result_ok}
use Rattle.std.specs.declared.cmp.Ordering.TheVariants.{Less, Equal, Greater}
use Rattle.std.proofs.Math.Bool.{or-false}
use Rattle.std.proofs.lemmas.Bool.{and_from, and_parts, and_right, cases_eq, cases_lt, eq-eqb, eqb-true, false_from_ne_true, false≢true, le-ltb, lt-ltb, ltb-false, ltb-true, ne_eqb, not-true}
use Rattle.std.proofs.lemmas.Bool.Decides.{nat_tests}
use Rattle.std.proofs.lemmas.Cmp.{ranked}
use Rattle.std.proofs.lemmas.List.{get_or-drop, get_or-take, get_or_default, length-drop, length-map, length-take-le}
use Rattle.std.proofs.lemmas.List.FromFn.{get_or-range_with_len, length-range_with_len}
use Rattle.std.proofs.lemmas.Option.{get_or_from_slice_get, none-some, same_Some, slice_get-get_or, slice_get_past, slice_get_read, slice_get_within}
use Rattle.petri_atom.specs.Definition.{AtomDefinition}
use Rattle.petri_atom.specs.Local.{has}
use Rattle.petri_atom.proofs.Markings.{same_answer}
use Rattle.petri_atom.proofs.Sets.{has-above, same_numbers}
use Rattle.connector_tree.specs.Faults as tree
use Rattle.connector_tree.specs.Masks.{chosen, is_set, ports_of}
use Rattle.connector_tree.specs.PortSets.{is_port_set}
use Rattle.connector_tree.specs.Tree.{leaves}
use Rattle.connector_tree.specs.declared.tree.Port.{Port}
use Rattle.connector_tree.specs.declared.tree.TheConstants.{MAX_LEAVES}
use Rattle.record_codec.specs.Fired.{FiredFields}
use Rattle.record_codec.specs.declared.entry.Entry.{Entry}
use Rattle.plant_model.specs.Choice.{Interaction, plant_interactions}
use Rattle.plant_model.specs.ConnectorRows.{AreRowsOf, is_from}
use Rattle.plant_model.specs.Interaction.{interaction_of}
use Rattle.plant_model.specs.Laws.{IsInteractionOf}
use Rattle.plant_model.specs.Plant.{PlantDefinition, WireDefinition}
use Rattle.plant_model.specs.Rules.{fault_of}
use Rattle.plant_model.specs.System.{interactions_in, plant_of}
use Rattle.plant_model.specs.Wire.{wire_of}
use Rattle.plant_model.specs.declared.bound_expressions.BoundExpressions.{BoundExpressions}
use Rattle.plant_model.specs.declared.connector_rows.ConnectorRows.{ConnectorRows}
use Rattle.plant_model.specs.declared.interaction.Interaction as kept
use Rattle.plant_model.specs.declared.system.System.{System}
use Rattle.plant_model.specs.declared.wire.Wire.{Wire}
use Rattle.plant_model.proofs.ByConnector.{in-own-range, kept-at, lent-count, lent-leaves, range-within}
use Rattle.plant_model.proofs.InOrder.{interactions-rise}
use Rattle.plant_model.proofs.Membership.{entry-in, from-filter, in-entry}
use Rattle.plant_model.proofs.OfConnector.{chosen-at, to-chosen}
use Rattle.plant_model.proofs.OfInteractions.{apart, interaction-of, same-port, sound-tree}
use Rattle.record_replay.specs.Finding.{is_leaf_of, is_named}
use Rattle.record_replay.specs.OfPlant.{are_parts_at, is_of_interaction, is_part_at, is_record_of}
use Rattle.record_replay.specs.Parts.{IsOfParts, has_part}
use Rattle.record_replay.proofs.OfPlants.{any-of, there-at}

-- ---- the leaves of atoms

module _ (leaves : List Port) (atoms leaf : ℕ) where
  -- one leaf more
  pub leaf-more : (p : Port) → slice_get leaves leaf ≡ Some p → (old new : ℕ → Bool) → ((j : ℕ) → old j ≡ (nat_lt j leaf && is_leaf_of leaves atoms j))
      → ((j : ℕ) → new j ≡ (old j || (j == leaf) && has atoms p.atom)) → (j : ℕ) → new j ≡ (nat_lt j (leaf + 1) && is_leaf_of leaves atoms j)
  leaf-more p there old new so_far put j =
      let its = is_leaf_of leaves atoms in
      let b = has atoms p.atom in
      put j ∙ ap (λ x. x || (j == leaf) && b) (so_far j) ∙
      ⊎_elim
      (λ less.
      ap (λ x. x && its j || (j == leaf) && b) (lt-ltb j leaf less) ∙ ap (λ x. its j || x && b) (ne_eqb j leaf (λ same. absurd (omega (arith, less, same)))) ∙ or-false (its j) ∙
      sym (ap (λ x. x && its j) (lt-ltb j (leaf + 1) (omega (arith, less)))))
      (λ from. ap (λ x. x && its j || (j == leaf) && b) (le-ltb j leaf from) ∙
      ⊎_elim
      (λ same.
      ap (λ x. x && b) (eq-eqb j leaf same) ∙
      sym (ap (λ x. x && its j) (lt-ltb j (leaf + 1) (omega (arith, same))) ∙ ap its same ∙ ap (λ o. option_map_or (λ q. has atoms q.atom) o false) there))
      (λ other. ap (λ x. x && b) (ne_eqb j leaf other) ∙ sym (ap (λ x. x && its j) (le-ltb j (leaf + 1) (omega (arith, from, other)))))
      (cases_eq j leaf))
      (cases_lt j leaf)

  -- and all of them
  pub leaves-all : length leaves ≤ leaf → (j : ℕ) → (nat_lt j leaf && is_leaf_of leaves atoms j) ≡ is_leaf_of leaves atoms j
  leaves-all past j =
      ⊎_elim
      (λ less. ap (λ x. x && is_leaf_of leaves atoms j) (lt-ltb j leaf less))
      (λ from.
      let none : is_leaf_of leaves atoms j ≡ false = ap (λ o. option_map_or (λ q. has atoms q.atom) o false) (slice_get_past leaves j (omega (arith, past, from))) in
      and_right (nat_lt j leaf) (is_leaf_of leaves atoms j) none ∙ sym none)
      (cases_lt j leaf)

-- ---- a test that one element of a list passes at most

-- an element that passes a test, where some does
found-any : {X : Type 0} (f : X → Bool) (xs : List X) → list_any f xs ≡ true → (k : ℕ) × (x : X) × (slice_get xs k ≡ Some x) × (f x ≡ true)
found-any f [] any = absurd (false≢true any)
found-any f (x ∷ xs) any = each (found-any f xs) (f x) refl any
  where
    each : (list_any f xs ≡ true → (k : ℕ) × (y : _) × (slice_get xs k ≡ Some y) × (f y ≡ true)) → (b : Bool) → f x ≡ b → (b || list_any f xs) ≡ true → (k : ℕ) × (y : _) × (slice_get (x ∷ xs) k ≡ Some y) × (f y ≡ true)
    each behind true told some = (0, x, refl, told)
    each behind false told some = let rest = behind some in (suc rest.0, rest.1, rest.2, rest.3)

module _ {X : Type 0} (g : X → Bool) where
  -- those that pass are one
  pub record PassesOnce (xs : List X) : Type 0 where
    pub same : (m n : ℕ) (x y : X) → slice_get xs m ≡ Some x → slice_get xs n ≡ Some y → g x ≡ true → g y ≡ true → x ≡ y

  in-rest : (x : X) (xs : List X) → PassesOnce (x ∷ xs) → PassesOnce xs
  in-rest x xs once = record { same = λ m n y z first second. once.same (suc m) (suc n) y z first second }

  -- a search finds it
  pub finds-only : (xs : List X) → PassesOnce xs → (n : ℕ) (x : X) → slice_get xs n ≡ Some x → g x ≡ true → find g xs ≡ Some x
  finds-only [] once n x there passes = absurd (none-some x there)
  finds-only (y ∷ ys) once n x there passes = each (λ m at. finds-only ys (in-rest y ys once) m x at passes) (g y) refl n there
    where
      each : ((m : ℕ) → slice_get ys m ≡ Some x → find g ys ≡ Some x) → (b : Bool) → g y ≡ b → (n : ℕ) → slice_get (y ∷ ys) n ≡ Some x → cond b (Some y) (find g ys) ≡ Some x
      each behind true is n at = ap Some (once.same 0 n y x refl at is passes)
      each behind false is zero at = absurd (false≢true (sym is ∙ ap g (same_Some y x at) ∙ passes))
      each behind false is (suc m) at = behind m at

  -- or none, where none passes
  pub finds-none : (xs : List X) → ((n : ℕ) (x : X) → slice_get xs n ≡ Some x → g x ≡ false) → find g xs ≡ None
  finds-none [] never = refl
  finds-none (x ∷ xs) never = ap (λ b. cond b (Some x) (find g xs)) (never 0 x refl) ∙ finds-none xs (λ n y at. never (suc n) y at)

  -- a test that no other passes is passed by some element where the one that is found passes it
  pub asked-once : (f : X → Bool) (xs : List X) → PassesOnce xs → ((n : ℕ) (x : X) → slice_get xs n ≡ Some x → f x ≡ true → g x ≡ true) → list_any f xs ≡ option_map_or f (find g xs) false
  asked-once f [] once narrower = refl
  asked-once f (x ∷ xs) once narrower = each (asked-once f xs (in-rest x xs once) (λ n y at. narrower (suc n) y at)) (g x) refl
    where
      others : g x ≡ true → (b : Bool) → f x ≡ b → (b || list_any f xs) ≡ b
      others is true told = refl
      others is false told =
          false_from_ne_true (list_any f xs)
          (λ any.
          let found = found-any f xs any in
          let same : x ≡ found.1 = once.same 0 (suc found.0) x found.1 refl found.2 is (narrower (suc found.0) found.1 found.2 found.3) in
          false≢true (sym told ∙ ap f same ∙ found.3))

      each : list_any f xs ≡ option_map_or f (find g xs) false → (b : Bool) → g x ≡ b → (f x || list_any f xs) ≡ option_map_or f (cond b (Some x) (find g xs)) false
      each behind true is = others is (f x) refl
      each behind false is = ap (λ b. b || list_any f xs) (false_from_ne_true (f x) (λ passes. false≢true (sym is ∙ narrower 0 x refl passes))) ∙ behind

-- ---- an interaction by its connector and its mask

-- the masks of a connector's interactions rise
masks-rise : (plant : PlantDefinition) (m n : ℕ) (i j : Interaction) → m < n → slice_get (plant_interactions plant) m ≡ Some i → slice_get (plant_interactions plant) n ≡ Some j → i.connector ≡ j.connector → i.mask < j.mask
masks-rise plant m n i j less first second same =
    let all : List Interaction = plant_interactions plant in
    let left : get_or all m i ≡ i = get_or_from_slice_get all m i i first in
    let right : get_or all n i ≡ j = get_or_from_slice_get all n j i second in
    ⊎_elim
    (λ below. absurd (omega (arith, below, same, ap (λ (x : Interaction). x.connector) left, ap (λ (x : Interaction). x.connector) right)))
    (λ equal. omega (arith, equal.1, ap (λ (x : Interaction). x.mask) left, ap (λ (x : Interaction). x.mask) right))
    (interactions-rise (length plant.atoms) 0 plant.wires m n i less (slice_get_within all n j second))

-- two that have both are one
pub named-once : (plant : PlantDefinition) (connector mask : ℕ) → PassesOnce (is_named connector mask) (plant_interactions plant)
named-once plant connector mask = record { same = same }
  where
    all : List Interaction
    all = plant_interactions plant

    same : (m n : ℕ) (i j : Interaction) → slice_get all m ≡ Some i → slice_get all n ≡ Some j → is_named connector mask i ≡ true → is_named connector mask j ≡ true → i ≡ j
    same m n i j first second one other =
        let mine = and_parts (i.connector == connector) (i.mask == mask) one in
        let its = and_parts (j.connector == connector) (j.mask == mask) other in
        let connectors : i.connector ≡ j.connector = eqb-true i.connector connector mine.0 ∙ sym (eqb-true j.connector connector its.0) in
        let masks : i.mask ≡ j.mask = eqb-true i.mask mask mine.1 ∙ sym (eqb-true j.mask mask its.1) in
        ⊎_elim
        (λ less. absurd (omega (arith, masks, masks-rise plant m n i j less first second connectors)))
        (λ past. ⊎_elim
        (λ less. absurd (omega (arith, masks, masks-rise plant n m j i less second first (sym connectors))))
        (λ up_to.
        let place : m ≡ n = omega (arith, past, up_to) in
        same_Some i j (sym first ∙ ap (slice_get all) place ∙ second))
        (cases_lt n m))
        (cases_lt m n)

-- ---- the mask of an interaction that a record is one of

-- the atoms of the entries are those of the ports
same-atoms : (atoms : List AtomDefinition) (ports : List Port) (entries : List Entry) → are_parts_at atoms ports entries ≡ true → (atom : ℕ) → list_any (λ e. e.atom == atom) entries ≡ list_any (λ p. p.atom == atom) ports
same-atoms atoms [] [] all atom = refl
same-atoms atoms [] (e ∷ es) all atom = absurd (false≢true all)
same-atoms atoms (p ∷ ps) [] all atom = absurd (false≢true all)
same-atoms atoms (p ∷ ps) (e ∷ es) all atom =
    let both = and_parts (is_part_at atoms p e) (are_parts_at atoms ps es) all in
    let own : e.atom ≡ p.atom = eqb-true e.atom p.atom (and_parts (e.atom == p.atom) _ both.0).0 in
    ap (λ n. (n == atom) || list_any (λ (x : Entry). x.atom == atom) es) own ∙ ap (λ b. (p.atom == atom) || b) (same-atoms atoms ps es both.1 atom)

in-numbers : (n x : ℕ) → Contains (range_with_len 0 n) x → x < n
in-numbers n x at =
    let within : at.0 < n = omega (arith, at.1, length-range_with_len 0 n) in
    omega (arith, within, at.2, get_or-range_with_len 0 n at.0 x within)

module _ (plant : PlantDefinition) (valid : fault_of plant ≡ None) (r : FiredFields) (n : ℕ) (i : Interaction) (there : slice_get (plant_interactions plant) n ≡ Some i) (passes : is_of_interaction plant.atoms r i ≡ true)
    (w : WireDefinition) (its : slice_get plant.wires i.connector ≡ Some w) where
  abbrev ports : List Port
  ports = leaves w.connector

  is : IsInteractionOf plant i
  is = interaction-of plant valid i (entry-in (plant_interactions plant) n i there)

  wire : is.wire ≡ w
  wire = same_Some is.wire w (sym is.there ∙ its)

  distinct : tree.has_repeat (tree.atoms ports) ≡ false
  distinct = (sound-tree plant valid i.connector w its).distinct_atoms

  to-mask : (p : Port) → Contains i.ports p → Contains (chosen i.mask 0 ports) p
  to-mask p at = subst (λ (v : WireDefinition). Contains (ports_of v.connector i.mask) p) wire ((is.of_mask p).0 at)

  from-mask : (p : Port) → Contains (chosen i.mask 0 ports) p → Contains i.ports p
  from-mask p at = (is.of_mask p).1 (subst (λ (v : WireDefinition). Contains (ports_of v.connector i.mask) p) (sym wire) at)

  leaf-of : (p : Port) → Contains i.ports p → Contains ports p
  leaf-of p at = subst (λ (v : WireDefinition). Contains (leaves v.connector) p) wire (is.of_connector p at)

  part-of : (atom : ℕ) → has_part atom r ≡ list_any (λ p. p.atom == atom) i.ports
  part-of = same-atoms plant.atoms i.ports r.entries (and_parts (r.connector == i.connector) (are_parts_at plant.atoms i.ports r.entries) passes).1

  small : i.mask < 2 ^ length ports
  small =
      subst (λ (v : WireDefinition). i.mask < 2 ^ length (leaves v.connector)) wire
      (in-numbers (2 ^ length (leaves is.wire.connector)) i.mask
      (from-filter (λ m. is_port_set is.wire.connector (ports_of is.wire.connector m)) (range_with_len 0 (2 ^ length (leaves is.wire.connector))) i.mask is.mask).0)

  never-twice : (p : Port) (j k : ℕ) → slice_get ports j ≡ Some p → slice_get ports k ≡ Some p → j < k → ⊥
  never-twice p j k first second less =
      apart ports distinct j k p less (slice_get_within ports k p second)
      (ap (λ (x : Port). x.atom) (get_or_from_slice_get ports j p p first ∙ sym (get_or_from_slice_get ports k p p second)))

  one-place : (p : Port) (j k : ℕ) → slice_get ports j ≡ Some p → slice_get ports k ≡ Some p → j ≡ k
  one-place p j k first second =
      ⊎_elim
      (λ less. absurd (never-twice p j k first second less))
      (λ past. ⊎_elim (λ less. absurd (never-twice p k j second first less)) (λ up_to. omega (arith, past, up_to)) (cases_lt k j))
      (cases_lt j k)

  -- a leaf is in it where its atom has a part
  in-mask : (j : ℕ) (p : Port) → slice_get ports j ≡ Some p → is_set i.mask j ≡ has_part p.atom r
  in-mask j p at = same_answer (is_set i.mask j) (has_part p.atom r) forth back
    where
      forth : is_set i.mask j ≡ true → has_part p.atom r ≡ true
      forth set =
          let e : 0 + j ≡ j = omega arith in
          let found = in-entry i.ports p (from-mask p (to-chosen i.mask 0 ports j p at (ap (is_set i.mask) e ∙ set))) in
          part-of p.atom ∙ any-of (λ (q : Port). q.atom == p.atom) i.ports found.0 p found.1 (eq-eqb p.atom p.atom refl)

      at-leaf : (k : ℕ) → slice_get ports k ≡ Some p → is_set i.mask (0 + k) ≡ true → is_set i.mask j ≡ true
      at-leaf k there set = let e : j ≡ 0 + k = omega (arith, one-place p j k at there) in ap (is_set i.mask) e ∙ set

      of-port : (k : ℕ) (q : Port) → slice_get i.ports k ≡ Some q → (q.atom == p.atom) ≡ true → is_set i.mask j ≡ true
      of-port k q there its_atom =
          let inside : Contains i.ports q = entry-in i.ports k q there in
          let same : q ≡ p = same-port ports distinct q p (leaf-of q inside) (entry-in ports j p at) (eqb-true q.atom p.atom its_atom) in
          let leaf = chosen-at i.mask 0 ports p (to-mask p (subst (Contains i.ports) same inside)) in
          at-leaf leaf.0 leaf.1 leaf.2

      back : has_part p.atom r ≡ true → is_set i.mask j ≡ true
      back some =
          let found = found-any (λ (q : Port). q.atom == p.atom) i.ports (sym (part-of p.atom) ∙ some) in
          of-port found.0 found.1 found.2 found.3

  -- so it is the mask of the leaves of the record's atoms
  mask-is : (atoms mask : ℕ) → IsOfParts r atoms → ((j : ℕ) → is_set mask j ≡ is_leaf_of ports atoms j) → i.mask ≡ mask
  mask-is atoms mask parts right = same_numbers i.mask mask (λ j. each j (slice_get ports j) refl)
    where
      past : (j : ℕ) → slice_get ports j ≡ None → length ports ≤ j
      past j none =
          let d : Port = record { atom = 0; port = 0 } in
          ⊎_elim (λ less. absurd (none-some (get_or ports j d) (sym none ∙ slice_get-get_or ports j d less))) (λ from. from) (cases_lt j (length ports))

      each : (j : ℕ) (o : Option Port) → slice_get ports j ≡ o → has i.mask j ≡ has mask j
      each j None none =
          has-above i.mask (length ports) j small (past j none) ∙
          sym (right j ∙ ap (λ o. option_map_or (λ p. has atoms p.atom) o false) none)
      each j (Some p) some = in-mask j p some ∙ sym (parts p.atom) ∙ sym (right j ∙ ap (λ o. option_map_or (λ p. has atoms p.atom) o false) some)

-- ---- whether a record is of the plant

module _ (plant : PlantDefinition) (valid : fault_of plant ≡ None) (r : FiredFields) where
  own-connector : (i : Interaction) → is_of_interaction plant.atoms r i ≡ true → r.connector ≡ i.connector
  own-connector i passes = eqb-true r.connector i.connector (and_parts (r.connector == i.connector) (are_parts_at plant.atoms i.ports r.entries) passes).0

  -- one of a connector that is not there is not
  pub of-no-connector : length plant.wires ≤ r.connector → false ≡ is_record_of plant r
  of-no-connector past = sym (false_from_ne_true (is_record_of plant r) never)
    where
      never : is_record_of plant r ≡ true → ⊥
      never any =
          let found = found-any (is_of_interaction plant.atoms r) (plant_interactions plant) any in
          let is = interaction-of plant valid found.1 (entry-in (plant_interactions plant) found.0 found.1 found.2) in
          omega (arith, past, own-connector found.1 found.3, slice_get_within plant.wires found.1.connector is.wire is.there)

  -- any other is where it is of the interaction of its connector that has the leaves of its atoms
  module _ (connector : ℕ) (its : connector ≡ r.connector) (w : WireDefinition) (there : slice_get plant.wires r.connector ≡ Some w) (ports : List Port) (lent : ports ≡ leaves w.connector) where
    pub few-leaves : length ports ≤ MAX_LEAVES
    few-leaves = omega (arith, ap length lent, (sound-tree plant valid r.connector w there).few_leaves)

    pub of-named : (atoms mask : ℕ) → IsOfParts r atoms → ((j : ℕ) → is_set mask j ≡ is_leaf_of ports atoms j) → (o : Option Interaction) → find (is_named connector mask) (plant_interactions plant) ≡ o
        → is_record_of plant r ≡ option_map_or (is_of_interaction plant.atoms r) o false
    of-named atoms mask parts right o found =
        asked-once (is_named r.connector mask) (is_of_interaction plant.atoms r) (plant_interactions plant) (named-once plant r.connector mask) narrower ∙
        ap (λ p. option_map_or (is_of_interaction plant.atoms r) p false) (ap (λ k. find (is_named k mask) (plant_interactions plant)) (sym its) ∙ found)
      where
        narrower : (n : ℕ) (i : Interaction) → slice_get (plant_interactions plant) n ≡ Some i → is_of_interaction plant.atoms r i ≡ true → is_named r.connector mask i ≡ true
        narrower n i at passes =
            let own : i.connector ≡ r.connector = sym (own-connector i passes) in
            let masked : i.mask ≡ mask =
            mask-is plant valid r n i at passes w (ap (slice_get plant.wires) own ∙ there) atoms mask parts (λ j. right j ∙ ap (λ ps. is_leaf_of ps atoms j) lent) in
            and_from (i.connector == r.connector) (i.mask == mask) (eq-eqb i.connector r.connector own) (eq-eqb i.mask mask masked)

-- the wire whose leaves are read of what a system keeps
pub wire-of-leaves : {V : Type 0} (ports_in : V → List Port) (all : List V) (wires : List Wire) → map ports_in all ≡ map (λ w. leaves (wire_of w).connector) wires
    → (lists : List V) (place k : ℕ) (list : V) → lists ≡ all → place ≡ k → true ≡ nat_lt place (length lists) → list ≡ get_or lists place list
    → (w : WireDefinition) × (slice_get (map wire_of wires) k ≡ Some w) × (ports_in list ≡ leaves w.connector)
wire-of-leaves ports_in all wires same lists place k list are at inside read =
    let below : k < length all = omega (arith, ltb-true place (length lists) (sym inside), at, ap length are) in
    let wire = there-at (map wire_of wires) k (omega (arith, below, lent-count ports_in all wires same, length-map wires wire_of)) in
    let kept : list ≡ get_or all k list = read ∙ ap (λ xs. get_or xs place list) are ∙ ap (λ n. get_or all n list) at in
    (wire.0, wire.1, lent-leaves ports_in all wires same k list wire.0 below kept wire.1)

-- ---- the range of a connector

-- the interactions of a connector are those with so many numbers from a first one on, of the plant's as they are kept
pub record IsRange (plant : PlantDefinition) (connector : ℕ) (items : List kept.Interaction) (first count : ℕ) : Type 0 where
  pub listed : map interaction_of items ≡ plant_interactions plant
  pub inside : first + count ≤ length items
  pub own : (n : ℕ) (i : Interaction) → slice_get (plant_interactions plant) n ≡ Some i → is_from first (first + count) n ≡ (i.connector == connector)

-- so they are in a system, by its rows, as these are read
pub range-of : (system : System) (connector : ℕ) → connector < length (plant_of system).wires → (place : ℕ) (rows : ConnectorRows) → place ≡ connector → rows ≡ get_or system.connector_rows.items place rows
    → (items : List kept.Interaction) (first count : ℕ) → items ≡ system.interactions.items → first ≡ rows.first → count ≡ rows.count → IsRange (plant_of system) connector items first count
range-of system connector within place rows at read items first count same first_is count_is = record { listed = listed; inside = inside; own = own }
  where
    there : slice_get system.connector_rows.items connector ≡ Some rows
    there =
        slice_get_read system.connector_rows.items (length system.connector_rows.items) connector rows refl (omega (arith, within, system.in_rows.as_many))
        (read ∙ ap (λ n. get_or system.connector_rows.items n rows) at)

    wire : (w : WireDefinition) × (slice_get (plant_of system).wires connector ≡ Some w)
    wire = there-at (plant_of system).wires connector within

    bound : (b : BoundExpressions) × (slice_get system.bound.items connector ≡ Some b)
    bound = there-at system.bound.items connector (omega (arith, within, system.all_bound, length-map system.wires.items wire_of))

    right : AreRowsOf (interactions_in system) connector (length (leaves wire.0.connector)) bound.0.clauses.items rows
    right = system.in_rows.each connector rows wire.0 bound.0 there wire.1 bound.1

    listed : map interaction_of items ≡ plant_interactions (plant_of system)
    listed = ap (map interaction_of) same ∙ system.listed

    inside : first + count ≤ length items
    inside =
        omega (
          arith,
          first_is,
          count_is,
          ap length same,
          length-map system.interactions.items interaction_of,
          range-within (interactions_in system) connector rows (length (leaves wire.0.connector)) bound.0.clauses.items right,
        )

    own : (n : ℕ) (i : Interaction) → slice_get (plant_interactions (plant_of system)) n ≡ Some i → is_from first (first + count) n ≡ (i.connector == connector)
    own n i here =
        let e : first + count ≡ rows.first + rows.count = omega (arith, first_is, count_is) in
        ap (λ k. is_from k (first + count) n) first_is ∙ ap (λ k. is_from rows.first k n) e ∙
        in-own-range (interactions_in system) connector rows (length (leaves wire.0.connector)) bound.0.clauses.items right n ∙
        ap (λ o. option_map_or (λ (j : Interaction). j.connector == connector) o false) (ap (λ xs. slice_get xs n) system.listed ∙ here)

-- greater numbers compare no lower
compares-rising : (a b n : ℕ) → a ≤ b → ordering_index (nat_cmp a n) ≤ ordering_index (nat_cmp b n)
compares-rising a b n order = grind (arith, nat_tests)

module _ (plant : PlantDefinition) (connector : ℕ) (items : List kept.Interaction) (first count : ℕ) (range : IsRange plant connector items first count) where
  -- one of the plant, as it is kept
  kept-there : (n : ℕ) (d : kept.Interaction) → n < length items → slice_get (plant_interactions plant) n ≡ Some (interaction_of (get_or items n d))
  kept-there n d within = sym (ap (λ xs. slice_get xs n) range.listed) ∙ kept-at items n (get_or items n d) within (get_or_default items n d (get_or items n d) within)

  connector-of : (n : ℕ) (d : kept.Interaction) → first ≤ n → n < first + count → (get_or items n d).connector ≡ connector
  connector-of n d from before =
      eqb-true (get_or items n d).connector connector
      (sym (range.own n (interaction_of (get_or items n d)) (kept-there n d (omega (arith, before, range.inside)))) ∙
      and_from (not (nat_lt n first)) (nat_lt n (first + count)) (ap not (le-ltb n first from)) (lt-ltb n (first + count) before))

  rises : (m n : ℕ) (d : kept.Interaction) → first ≤ m → m < n → n < first + count → (get_or items m d).mask < (get_or items n d).mask
  rises m n d from less before =
      masks-rise plant m n (interaction_of (get_or items m d)) (interaction_of (get_or items n d)) less
      (kept-there m d (omega (arith, less, before, range.inside)))
      (kept-there n d (omega (arith, before, range.inside)))
      (connector-of m d from (omega (arith, less, before)) ∙ sym (connector-of n d (omega (arith, from, less)) before))

  -- those of the connector, as they are lent
  abbrev pub lent : List kept.Interaction
  lent = slice_range items first (first + count)

  long : length lent ≡ count
  long =
      let rest : length (drop first items) ≡ length items - first = length-drop first items in
      length-take-le (first + count - first) (drop first items) (omega (arith, rest, range.inside)) ∙ omega arith

  lent-at : (j : ℕ) (d : kept.Interaction) → j < count → get_or lent j d ≡ get_or items (first + j) d
  lent-at j d below = get_or-take (first + count - first) (drop first items) j d (omega (arith, below)) ∙ get_or-drop first items j d

  module _ (mask : ℕ) where
    abbrev found : Option Interaction
    found = find (is_named connector mask) (plant_interactions plant)

    -- one of them with the mask is found
    one-named : (place : ℕ) (item : kept.Interaction) → place < count → item ≡ get_or lent place item → item.mask ≡ mask → found ≡ Some (interaction_of item)
    one-named place item below read masked =
        let n : ℕ = first + place in
        let is : item ≡ get_or items n item = read ∙ lent-at place item below in
        let there : slice_get (plant_interactions plant) n ≡ Some (interaction_of item) =
        kept-there n item (omega (arith, below, range.inside)) ∙ ap (λ (x : kept.Interaction). Some (interaction_of x)) (sym is) in
        let its : item.connector ≡ connector = ap (λ (x : kept.Interaction). x.connector) is ∙ connector-of n item (omega arith) (omega (arith, below)) in
        finds-only (is_named connector mask) (plant_interactions plant) (named-once plant connector mask) n (interaction_of item) there
        (and_from (item.connector == connector) (item.mask == mask) (eq-eqb item.connector connector its) (eq-eqb item.mask mask masked))

    -- where none has it, none is
    none-named : ((j : ℕ) (d : kept.Interaction) → j < count → (get_or lent j d).mask ≡ mask → ⊥) → found ≡ None
    none-named none = finds-none (is_named connector mask) (plant_interactions plant) (λ n i at. false_from_ne_true (is_named connector mask i) (never n i at))
      where
        never : (n : ℕ) (i : Interaction) → slice_get (plant_interactions plant) n ≡ Some i → is_named connector mask i ≡ true → ⊥
        never n i at passes =
            let parts = and_parts (i.connector == connector) (i.mask == mask) passes in
            let sides = and_parts (not (nat_lt n first)) (nat_lt n (first + count)) (range.own n i at ∙ parts.0) in
            let from : first ≤ n = ltb-false n first (not-true (nat_lt n first) sides.0) in
            let before : n < first + count = ltb-true n (first + count) sides.1 in
            let within : n < length items = omega (arith, before, range.inside) in
            let place : first + (n - first) ≡ n = omega (arith, from) in
            let item : kept.Interaction = (there-at items n within).0 in
            let is : interaction_of (get_or items n item) ≡ i = same_Some (interaction_of (get_or items n item)) i (sym (kept-there n item within) ∙ at) in
            none (n - first) item (omega (arith, from, before))
            (ap (λ (x : kept.Interaction). x.mask) (lent-at (n - first) item (omega (arith, from, before)) ∙ ap (λ k. get_or items k item) place) ∙
            ap (λ (x : Interaction). x.mask) is ∙ eqb-true i.mask mask parts.1)

    at_most : (i j : ℕ) (d : kept.Interaction) → i ≤ j → j < count → (get_or lent i d).mask ≤ (get_or lent j d).mask
    at_most i j d order within =
        ⊎_elim
        (λ same. omega (arith, ap (λ m. (get_or lent m d).mask) same))
        (λ other.
        let left : (get_or lent i d).mask ≡ (get_or items (first + i) d).mask = ap (λ (x : kept.Interaction). x.mask) (lent-at i d (omega (arith, order, within))) in
        let right : (get_or lent j d).mask ≡ (get_or items (first + j) d).mask = ap (λ (x : kept.Interaction). x.mask) (lent-at j d within) in
        omega (arith, left, right, rises (first + i) (first + j) d (omega arith) (omega (arith, order, other)) (omega (arith, within))))
        (cases_eq i j)

    sorted : IsNonDecreasingBy (λ (i : kept.Interaction). ordering_index (nat_cmp i.mask mask)) lent
    sorted i j d order within = compares-rising (get_or lent i d).mask (get_or lent j d).mask mask (at_most i j d order (omega (arith, within, long)))

    -- halving finds the one with the mask
    pub search-finds : (r : Result ℕ ℕ) → IsSearchInRange r (length lent) → IsBinarySearchResult (λ (i : kept.Interaction). nat_cmp i.mask mask) lent r
        → (place : ℕ) (item : kept.Interaction) → result_ok r ≡ Some place → item ≡ get_or lent place item → found ≡ Some (interaction_of item)
    search-finds (Err gap) within answer place item none read = absurd (none-some place none)
    search-finds (Ok there) within equal place item some read =
        let is : there ≡ place = same_Some there place some in
        let compared : nat_cmp item.mask mask ≡ Equal = ap (λ (x : kept.Interaction). nat_cmp x.mask mask) (read ∙ ap (λ k. get_or lent k item) (sym is)) ∙ equal item in
        one-named place item (omega (arith, is, within, long)) read (ranked item.mask mask Equal (sym compared))

    -- or says that there is none
    pub search-fails : (r : Result ℕ ℕ) → IsSearchInRange r (length lent) → IsBinarySearchResult (λ (i : kept.Interaction). nat_cmp i.mask mask) lent r → result_ok r ≡ None → found ≡ None
    search-fails (Ok there) within equal some = absurd (none-some there (sym some))
    search-fails (Err gap) within answer none =
        let parted = answer sorted in
        none-named (λ j d below masked.
        ⊎_elim
        (λ less. omega (arith, masked, ranked (get_or lent j d).mask mask Less (sym (parted.0 j d (omega arith) less))))
        (λ past. omega (arith, masked, ranked (get_or lent j d).mask mask Greater (sym (parted.1 j d past (omega (arith, below, long))))))
        (cases_lt j gap))
