-- The names of a plant that breaks no rule of plants are each of one part alone among those of its kind.
use Rattle.std.proofs.Common.{◌≡◌, ◌∙◌, refl, sym, ap, ℕ, zero, suc, ◌+◌, Bool, true, false, not, ◌&&◌, if◌then◌else◌, List, [], ◌∷◌, length, take, Option, Some, None, option_map, slice_get, nat_lt, Contains, arith}
use Rattle.std.specs.Cmp.Lexicographic.{nat_list_eq_equiv}
use Rattle.std.specs.List.{list_all, list_any}
use Rattle.std.specs.Option.{option_map_or}
use Rattle.std.proofs.lemmas.Bool.{and_parts, and_from, false≢true, or_parts, or_from, not_from_false}
use Rattle.std.proofs.lemmas.Option.{same_Some, none-some}
use Rattle.petri_atom.specs.Definition.{AtomDefinition, is_each_once, exports_once, has_each_place_once, has_each_once, is_well_formed}
use Rattle.petri_atom.specs.Expression.{all_variables}
use Rattle.petri_atom.specs.Name.{is_name, is_same_text}
use Rattle.petri_atom.proofs.Fitting.{all_get, all_weaker}
use Rattle.connector_tree.specs.Tree.{leaves}
use Rattle.priority_filter.specs.declared.rule.Rule.{Rule}
use Rattle.priority_filter.specs.declared.rule.Rule.TheVariants.{Under, UnderAt, Maximal}
use Rattle.plant_model.specs.Choice.{plant_interactions}
use Rattle.plant_model.specs.Plant.{WireDefinition, PlantDefinition}
use Rattle.plant_model.specs.Rules.{first_of, first_fault_in, is_known_condition, first_broken, atom_fault, tree_fault, wire_fault, fault_of_wire, fault_of_wires, fault_of_count, fault_of_order, is_within_limits, early_fault, late_fault, fault_of, is_known_port, is_known_export, names_known}
use Rattle.plant_model.specs.declared.fault.SystemFault.{SystemFault}
use Rattle.plant_model.specs.declared.fault.SystemFault.TheVariants.{Limit, BadAtom, BadWire}
use Rattle.plant_model.specs.declared.fault.WireFault.{WireFault}
use Rattle.plant_model.proofs.Membership.{all-in}
use Rattle.plant_model.proofs.TreeRules.{first_none, second_none}
use Rattle.read_back.specs.Names.{have_names, are_named, names_its_parts, are_named_atoms, has_names, plant_has_names}
use Rattle.read_back.specs.Rules.{has_named_condition}
use Rattle.read_back.proofs.Found.{passing}

-- ---- names that none before has

-- a name that is none of those after it
none_later : {X : Type 0} (name_of : X → List ℕ) (x : X) (xs : List X) → ((k : ℕ) (y : X) → slice_get xs k ≡ Some y → is_same_text (name_of x) (name_of y) ≡ false) →
    list_any (λ y. is_same_text (name_of y) (name_of x)) xs ≡ false
none_later name_of x [] differ = refl
none_later name_of x (y ∷ ys) differ =
    or_from (is_same_text (name_of y) (name_of x)) (list_any (λ z. is_same_text (name_of z) (name_of x)) ys)
    (nat_list_eq_equiv.symm (name_of y) (name_of x) ∙ differ zero y refl) (none_later name_of x ys (λ k z there. differ (suc k) z there))

-- if no name is one of those before it, each stands once
once_after : {X : Type 0} (name_of : X → List ℕ) (xs : List X) → ((k : ℕ) (x : X) → slice_get xs k ≡ Some x → list_any (λ b. is_same_text (name_of b) (name_of x)) (take k xs) ≡ false) →
    is_each_once (λ x y. is_same_text (name_of x) (name_of y)) xs ≡ true
once_after name_of [] new = refl
once_after name_of (x ∷ xs) new =
    and_from (not (list_any (λ y. is_same_text (name_of y) (name_of x)) xs)) (is_each_once (λ a b. is_same_text (name_of a) (name_of b)) xs)
    (not_from_false (list_any (λ y. is_same_text (name_of y) (name_of x)) xs)
    (none_later name_of x xs (λ k y there. (or_parts (is_same_text (name_of x) (name_of y)) (list_any (λ b. is_same_text (name_of b) (name_of y)) (take k xs)) (new (suc k) y there)).0)))
    (once_after name_of xs (λ k y there. (or_parts (is_same_text (name_of x) (name_of y)) (list_any (λ b. is_same_text (name_of b) (name_of y)) (take k xs)) (new (suc k) y there)).1))

-- ---- atoms

-- what follows of two tests follows of each that passes both
all_both : {X : Type 0} (f g h : X → Bool) → ((x : X) → f x ≡ true → g x ≡ true → h x ≡ true) → (xs : List X) → list_all f xs ≡ true → list_all g xs ≡ true → list_all h xs ≡ true
all_both f g h both [] one other = refl
all_both f g h both (x ∷ xs) one other =
    let first = and_parts (f x) (list_all f xs) one in
    let second = and_parts (g x) (list_all g xs) other in
    and_from (h x) (list_all h xs) (both x first.0 second.0) (all_both f g h both xs first.1 second.1)

-- the first three of five tests
first_three : (a b c d e : Bool) → a && b && c && d && e ≡ true → (a ≡ true) × (b ≡ true) × (c ≡ true)
first_three true true true d e all = (refl, refl, refl)
first_three false b c d e all = absurd (false≢true all)
first_three true false c d e all = absurd (false≢true all)
first_three true true false d e all = absurd (false≢true all)

-- the names of places, of variables and of ports stand once each
once_each : (a : AtomDefinition) → is_well_formed a ≡ true →
    (is_each_once (λ x y. is_same_text x.name y.name) a.places ≡ true) × (is_each_once (λ x y. is_same_text x.name y.name) a.variables ≡ true)
    × (is_each_once (λ x y. is_same_text x.name y.name) a.ports ≡ true)
once_each a formed =
    let each : has_each_once a ≡ true = (and_parts _ _ (and_parts _ _ (and_parts _ _ formed).0).0).1 in
    first_three (is_each_once (λ x y. is_same_text x.name y.name) a.places) (is_each_once (λ x y. is_same_text x.name y.name) a.variables)
    (is_each_once (λ x y. is_same_text x.name y.name) a.ports) (list_all exports_once a.ports) (list_all has_each_place_once a.transitions) each

-- the names of an atom's parts
parts_named : (a : AtomDefinition) → is_well_formed a ≡ true → has_names a ≡ true → names_its_parts a ≡ true
parts_named a formed names =
    let variables_once : Bool = is_each_once (λ x y. is_same_text x.name y.name) a.variables in
    let ports_once : Bool = is_each_once (λ x y. is_same_text x.name y.name) a.ports in
    let places_legal : Bool = have_names (λ p. p.name) a.places in
    let variables_legal : Bool = have_names (λ v. v.name) a.variables in
    let ports_legal : Bool = have_names (λ p. p.name) a.ports in
    let once = once_each a formed in
    let legal = and_parts (is_name a.name && places_legal && variables_legal) ports_legal names in
    let own = and_parts (is_name a.name && places_legal) variables_legal legal.0 in
    and_from (are_named (λ v. v.name) a.variables) (are_named (λ p. p.name) a.ports) (and_from variables_legal variables_once own.1 once.1) (and_from ports_legal ports_once legal.1 once.2)

-- and of its places
places_named : (a : AtomDefinition) → is_well_formed a ≡ true → has_names a ≡ true → are_named (λ p. p.name) a.places ≡ true
places_named a formed names =
    let places_legal : Bool = have_names (λ p. p.name) a.places in
    let variables_legal : Bool = have_names (λ v. v.name) a.variables in
    let legal = and_parts (is_name a.name && places_legal && variables_legal) (have_names (λ p. p.name) a.ports) names in
    let own = and_parts (is_name a.name && places_legal) variables_legal legal.0 in
    and_from places_legal (is_each_once (λ x y. is_same_text x.name y.name) a.places) (and_parts (is_name a.name) places_legal own.0).1 (once_each a formed).0

-- ---- what a plant keeps

unless_none : (test : Bool) (fault : SystemFault) → (if test then Some fault else None) ≡ None → test ≡ false
unless_none true fault none = absurd (cc)
unless_none false fault none = refl

untold : (k : ℕ) (told : Option WireFault) → option_map (BadWire k) told ≡ None → told ≡ None
untold k None none = refl
untold k (Some fault) none = absurd (cc)

-- a connector that breaks no rule has a name of its own, ports that are there, and variables that are there
unbroken : (named ports variables targets values : Bool) → first_broken named ports variables targets values ≡ None → (named ≡ false) × (ports ≡ true) × (variables ≡ true)
unbroken true ports variables targets values none = absurd (cc)
unbroken false false variables targets values none = absurd (cc)
unbroken false true false targets values none = absurd (cc)
unbroken false true true targets values none = (refl, refl, refl)

-- if the early rules find nothing, the limits are kept and no names are at fault
early_names : (kept : Bool) (names trees : Option SystemFault) → (if not kept then Some Limit else first_of names trees) ≡ None → (kept ≡ true) × (names ≡ None)
early_names true names trees none = (refl, first_none names trees none)
early_names false names trees none = absurd (cc)

-- if no element has a fault, none has one at its place
unfound_at : {X F : Type 0} (tell : ℕ → X → Option F) (n : ℕ) (xs : List X) → first_fault_in tell n xs ≡ None → (k : ℕ) (x : X) → slice_get xs k ≡ Some x → tell (n + k) x ≡ None
unfound_at tell n [] none k x there = absurd (none-some x there)
unfound_at tell n (y ∷ ys) none zero x there =
    let same : n + zero ≡ n = omega arith in
    ap (λ (m : ℕ). tell m x) same ∙ ap (tell n) (sym (same_Some y x there)) ∙ first_none (tell n y) (first_fault_in tell (suc n) ys) none
unfound_at tell n (y ∷ ys) none (suc k) x there =
    let same : n + suc k ≡ suc n + k = omega arith in
    ap (λ (m : ℕ). tell m x) same ∙ unfound_at tell (suc n) ys (second_none (tell n y) (first_fault_in tell (suc n) ys) none) k x there

told_at : {X F : Type 0} (tell : ℕ → X → Option F) (xs : List X) → first_fault_in tell 0 xs ≡ None → (k : ℕ) (x : X) → slice_get xs k ≡ Some x → tell k x ≡ None
told_at tell xs none k x there =
    let number : k ≡ 0 + k = omega arith in
    ap (λ (n : ℕ). tell n x) number ∙ unfound_at tell 0 xs none k x there

module _ (plant : PlantDefinition) (valid : fault_of plant ≡ None) where
  pub early : early_fault plant ≡ None
  early = first_none (early_fault plant) (first_of (late_fault plant) (fault_of_order plant)) valid

  early_keeps : (is_within_limits plant ≡ true) × (first_fault_in (atom_fault plant.atoms) 0 plant.atoms ≡ None)
  early_keeps = early_names (is_within_limits plant) (first_fault_in (atom_fault plant.atoms) 0 plant.atoms) (first_fault_in tree_fault 0 plant.wires) early

  pub within_limits : is_within_limits plant ≡ true
  within_limits = early_keeps.0

  late : fault_of_wires plant ≡ None
  late =
      let rules = first_none (late_fault plant) (fault_of_order plant) (second_none (early_fault plant) (first_of (late_fault plant) (fault_of_order plant)) valid) in
      first_none (fault_of_wires plant) (fault_of_count (length (plant_interactions plant))) rules

  -- what each connector keeps
  pub wire_keeps : (k : ℕ) (w : WireDefinition) → slice_get plant.wires k ≡ Some w →
      (list_any (λ v. is_same_text v.name w.name) (take k plant.wires) ≡ false) × (list_all (is_known_port plant.atoms) (leaves w.connector) ≡ true)
      × ((list_all (all_variables (is_known_export plant.atoms (leaves w.connector))) w.guards && list_all (names_known plant.atoms (leaves w.connector)) w.transfers) ≡ true)
  wire_keeps k w there =
      let kept = unbroken _ _ _ _ _ (untold k (fault_of_wire plant.atoms (take k plant.wires) w) (told_at (wire_fault plant.atoms plant.wires) plant.wires late k w there)) in
      (kept.0, kept.1, (and_parts _ _ kept.2).0)

  -- no atom has the name of one before it, and no connector
  new_atom : (k : ℕ) (a : AtomDefinition) → slice_get plant.atoms k ≡ Some a → list_any (λ b. is_same_text b.name a.name) (take k plant.atoms) ≡ false
  new_atom k a there = unless_none (list_any (λ b. is_same_text b.name a.name) (take k plant.atoms)) (BadAtom k) (told_at (atom_fault plant.atoms) plant.atoms early_keeps.1 k a there)

  new_wire : (k : ℕ) (w : WireDefinition) → slice_get plant.wires k ≡ Some w → list_any (λ v. is_same_text v.name w.name) (take k plant.wires) ≡ false
  new_wire k w there = (wire_keeps k w there).0

  pub wires_named : plant_has_names plant ≡ true → are_named (λ w. w.name) plant.wires ≡ true
  wires_named names = and_from (have_names (λ w. w.name) plant.wires) _ (and_parts _ _ names).1 (once_after (λ w. w.name) plant.wires new_wire)

  pub atoms_named : plant_has_names plant ≡ true → list_all is_well_formed plant.atoms ≡ true → are_named_atoms plant.atoms ≡ true
  atoms_named names formed =
      let legal : list_all has_names plant.atoms ≡ true = (and_parts _ _ names).0 in
      let own : have_names (λ a. a.name) plant.atoms ≡ true =
      all_weaker has_names (λ a. is_name a.name) (λ a all. (and_parts _ _ (and_parts _ _ (and_parts _ _ all).0).0).0) plant.atoms legal in
      and_from (are_named (λ a. a.name) plant.atoms) (list_all names_its_parts plant.atoms)
      (and_from (have_names (λ a. a.name) plant.atoms) _ own (once_after (λ a. a.name) plant.atoms new_atom))
      (all_both is_well_formed has_names names_its_parts parts_named plant.atoms formed legal)

  -- the conditions of its rules are over its atoms and places
  pub conditions_known : list_all (is_known_condition plant.atoms) plant.rules ≡ true
  conditions_known = (and_parts _ _ (and_parts _ _ (and_parts _ _ within_limits).0).1).1

  -- and names tell these apart
  pub condition_named : plant_has_names plant ≡ true → list_all is_well_formed plant.atoms ≡ true → (rule : Rule) → Contains plant.rules rule →
      has_named_condition plant rule ≡ true
  condition_named names formed rule own = each rule (all-in (is_known_condition plant.atoms) plant.rules conditions_known rule own)
    where
      legal : list_all has_names plant.atoms ≡ true
      legal = (and_parts _ _ names).0

      each : (r : Rule) → is_known_condition plant.atoms r ≡ true → has_named_condition plant r ≡ true
      each (Under left right) known = refl
      each (UnderAt left right at) known =
          let a = passing (λ b. nat_lt at.place (length b.places)) (slice_get plant.atoms at.atom) known in
          let well = all_get is_well_formed plant.atoms at.atom a.0 formed a.1 in
          let called = all_get has_names plant.atoms at.atom a.0 legal a.1 in
          and_from (are_named (λ b. b.name) plant.atoms) _ (and_parts _ _ (atoms_named names formed)).0
          (ap (λ o. option_map_or (λ b. are_named (λ p. p.name) b.places) o false) a.1 ∙ places_named a.0 well called)
      each (Maximal connector) known = refl
