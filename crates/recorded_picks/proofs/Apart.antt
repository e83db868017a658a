-- The names of a plant's connectors and atoms, in an index.
use Rattle.std.proofs.Common.{◌≡◌, ℕ, ◌+◌, ◌<◌, ◌≤◌, refl, sym, ◌∙◌, ap, List, [], ◌∷◌, length, map, take, get_or, Bool, true, false, not, cond, position, arith}
use Rattle.std.specs.Prelude.{Option, Some, None, option_map, slice_get}
use Rattle.std.specs.List.{list_any, position_or_len}
use Rattle.std.proofs.lemmas.Bool.{le-ltb, or_parts}
use Rattle.std.proofs.lemmas.List.{length-map, take-map}
use Rattle.std.proofs.lemmas.Option.{none-some, same_Some, slice_get-map, slice_get_read}
use Rattle.petri_atom.specs.Name.{is_same_text}
use Rattle.petri_atom.specs.Definition.{AtomDefinition}
use Rattle.plant_words.proofs.Positions.{position_of_mapped}
use Rattle.plant_model.specs.Plant.{PlantDefinition, WireDefinition}
use Rattle.plant_model.specs.Rules.{atom_fault, early_fault, fault_of, fault_of_count, fault_of_order, fault_of_wire, fault_of_wires, first_broken, first_of, first_fault_in, is_within_limits, late_fault, tree_fault, wire_fault}
use Rattle.plant_model.specs.Choice.{plant_interactions}
use Rattle.plant_model.specs.declared.fault.SystemFault.TheVariants.{BadAtom, BadWire, Limit}
use Rattle.plant_model.specs.declared.fault.WireFault.{WireFault}
use Rattle.plant_model.specs.declared.limits.TheConstants.{MAX_ATOMS, MAX_WIRES}
use Rattle.plant_model.proofs.Initial.{map-map}
use Rattle.plant_model.proofs.OfInteractions.{none-told, within-limits}
use Rattle.plant_model.proofs.TreeRules.{first_none, second_none}
use Rattle.recorded_picks.specs.Names.{AreApart, atom_names, connector_names, place_of}

-- ---- one part more

module _ {X : Type 0} (name_of : X → List ℕ) (xs : List X) (i : ℕ) (x : X) (within : i < length xs) (here : x ≡ get_or xs i x) (names : List (List ℕ)) (so_far : names ≡ map name_of (take i xs)) where
  -- its name is none of those before it
  pub new-name : AreApart (map name_of xs) → place_of names (name_of x) ≡ None
  new-name apart =
      let at : slice_get (map name_of xs) i ≡ Some (name_of x) = slice_get-map name_of xs i ∙ ap (option_map name_of) (slice_get_read xs (length xs) i x refl within here) in
      ap (λ known. place_of known (name_of x)) (so_far ∙ sym (take-map name_of i xs)) ∙ apart i (name_of x) at

-- the names of parts that are kept are those of the parts that they stand for
pub names-kept : {X Y : Type 0} (name_of : Y → List ℕ) (stands_for : X → Y) (xs : List X) (ys : List Y) → map stands_for xs ≡ ys → map (λ x. name_of (stands_for x)) xs ≡ map name_of ys
names-kept name_of stands_for xs ys are = map-map name_of stands_for xs ∙ ap (map name_of) are

-- ---- what the rules of a plant say

-- where no element of a list passes a test, there is no first one
none-first : {X : Type 0} (test : X → Bool) (xs : List X) → list_any test xs ≡ false → position_or_len test xs ≡ length xs
none-first test [] none = refl
none-first test (x ∷ xs) none =
    let parts = or_parts (test x) (list_any test xs) none in
    let rest = none-first test xs parts.1 in
    ap (λ b. cond (not b) (1 + position_or_len test xs) 0) parts.0 ∙ omega (arith, rest)

no-position : {X : Type 0} (test : X → Bool) (xs : List X) → list_any test xs ≡ false → position test xs ≡ None
no-position test xs none =
    ap (λ b. cond b (Some (position_or_len test xs)) None) (le-ltb (position_or_len test xs) (length xs) (omega (arith, none-first test xs none)))

-- an entry of mapped elements is that of an element
of-entry : {X Y : Type 0} (f : X → Y) (xs : List X) (k : ℕ) (y : Y) → slice_get (map f xs) k ≡ Some y → (x : X) × (slice_get xs k ≡ Some x) × (f x ≡ y)
of-entry f xs k y there = each (slice_get xs k) refl (sym (slice_get-map f xs k) ∙ there)
  where
    each : (o : Option _) → slice_get xs k ≡ o → option_map f o ≡ Some y → (x : _) × (slice_get xs k ≡ Some x) × (f x ≡ y)
    each None is told = absurd (none-some y told)
    each (Some x) is told = (x, is, same_Some (f x) y told)

-- parts whose names stand not twice have names that stand apart
module _ {X : Type 0} (name_of : X → List ℕ) (xs : List X) where
  pub apart-by : ((k : ℕ) (x : X) → slice_get xs k ≡ Some x → list_any (λ y. is_same_text (name_of y) (name_of x)) (take k xs) ≡ false) → AreApart (map name_of xs)
  apart-by once k name there =
      let found = of-entry name_of xs k name there in
      let x : X = found.0 in
      let none : place_of (map name_of (take k xs)) (name_of x) ≡ None =
      sym (position_of_mapped name_of (λ known. is_same_text known (name_of x)) (take k xs)) ∙ no-position (λ y. is_same_text (name_of y) (name_of x)) (take k xs) (once k x found.1) in
      ap (λ known. place_of known name) (take-map name_of k xs) ∙ ap (place_of (map name_of (take k xs))) (sym found.2) ∙ none

module _ (plant : PlantDefinition) (valid : fault_of plant ≡ None) where
  early : early_fault plant ≡ None
  early = first_none (early_fault plant) (first_of (late_fault plant) (fault_of_order plant)) valid

  late : fault_of_wires plant ≡ None
  late =
      first_none (fault_of_wires plant) (fault_of_count (length (plant_interactions plant)))
      (first_none (late_fault plant) (fault_of_order plant) (second_none (early_fault plant) (first_of (late_fault plant) (fault_of_order plant)) valid))

  early-atoms : first_fault_in (atom_fault plant.atoms) 0 plant.atoms ≡ None
  early-atoms = each (is_within_limits plant) early
    where
      each : (b : Bool) → cond (not b) (Some Limit) (first_of (first_fault_in (atom_fault plant.atoms) 0 plant.atoms) (first_fault_in tree_fault 0 plant.wires)) ≡ None → first_fault_in (atom_fault plant.atoms) 0 plant.atoms ≡ None
      each true none = first_none (first_fault_in (atom_fault plant.atoms) 0 plant.atoms) (first_fault_in tree_fault 0 plant.wires) none
      each false none = absurd (cc)

  -- no two atoms have one name
  pub atoms-apart : AreApart (atom_names plant)
  atoms-apart = apart-by (λ (a : AtomDefinition). a.name) plant.atoms (λ k a there. each k (list_any (λ b. is_same_text b.name a.name) (take (0 + k) plant.atoms)) a (none-told (atom_fault plant.atoms) 0 plant.atoms early-atoms k a there) refl)
    where
      each : (k : ℕ) (b : Bool) (a : AtomDefinition) → cond b (Some (BadAtom (0 + k))) None ≡ None → list_any (λ c. is_same_text c.name a.name) (take (0 + k) plant.atoms) ≡ b → list_any (λ c. is_same_text c.name a.name) (take k plant.atoms) ≡ false
      each k true a none is = absurd (cc)
      each k false a none is = let e : k ≡ 0 + k = omega arith in ap (λ n. list_any (λ c. is_same_text c.name a.name) (take n plant.atoms)) e ∙ is

  -- no two connectors have one name
  pub connectors-apart : AreApart (connector_names plant)
  connectors-apart = apart-by (λ (w : WireDefinition). w.name) plant.wires (λ k w there.
      let e : k ≡ 0 + k = omega arith in
      ap (λ n. list_any (λ v. is_same_text v.name w.name) (take n plant.wires)) e
      ∙ named-once (list_any (λ v. is_same_text v.name w.name) (take (0 + k) plant.wires)) _ _ _ _ (unwired (0 + k) (fault_of_wire plant.atoms (take (0 + k) plant.wires) w) (none-told (wire_fault plant.atoms plant.wires) 0 plant.wires late k w there)))
    where
      unwired : (k : ℕ) (o : Option WireFault) → option_map (BadWire k) o ≡ None → o ≡ None
      unwired k None none = refl
      unwired k (Some f) none = absurd (cc)

      named-once : (name ports variables targets values : Bool) → first_broken name ports variables targets values ≡ None → name ≡ false
      named-once true ports variables targets values none = absurd (cc)
      named-once false ports variables targets values none = refl

  -- there are few of both
  pub few-atoms : length (atom_names plant) ≤ MAX_ATOMS
  few-atoms = omega (arith, length-map plant.atoms (λ (a : AtomDefinition). a.name), (within-limits plant valid).atoms)

  pub few-connectors : length (connector_names plant) ≤ MAX_WIRES
  few-connectors = omega (arith, length-map plant.wires (λ (w : WireDefinition). w.name), (within-limits plant valid).wires)
