-- Where an interaction is possible, there is a choice: priorities bring in no deadlock.
use Rattle.std.proofs.Common.{◌≡◌, ◌↔◌, ℕ, zero, suc, ◌+◌, ◌*◌, ◌<◌, ◌≤◌, refl, sym, ◌∙◌, ap, subst, List, [], ◌∷◌, ◌++◌, length, map, arith, Bool, true, false, cond, ◌||◌, ◌&&◌, not, filter}
use Rattle.std.specs.Prelude.{Option, Some, None, slice_get, option_map}
use Rattle.std.specs.List.{list_all, list_any}
use Rattle.std.specs.Option.{option_map_or}
use Rattle.std.proofs.lemmas.Bool.{and_parts, and_from, false≢true, false_from_ne_true}
use Rattle.std.proofs.lemmas.List.{length-map, length-append}
use Rattle.std.proofs.lemmas.Option.{none-some, same_Some}
use Rattle.petri_atom.specs.Local.{Local}
use Rattle.petri_atom.specs.Definition.{AtomDefinition, enabled, numbers_of, offers_number, offers_port}
use Rattle.connector_tree.specs.declared.tree.Port.{Port}
use Rattle.priority_filter.specs.Decided.{order_fault, is_overruled}
use Rattle.priority_filter.proofs.NoDeadlock.{top_is_not_overruled}
use Rattle.plant_model.specs.Plant.{PlantDefinition}
use Rattle.plant_model.specs.Choice.{Interaction, ChoiceDefinition, IsStuck, active_in, is_marked_at, named, is_offered_port, passes_guards, is_possible, is_possible_at, is_allowed_at, move_of, moves_of, combinations, choices_of, choices_at, choices, flat_from, plant_interactions}
use Rattle.plant_model.specs.Rules.{first_of, early_fault, late_fault, fault_of_order, fault_of}
use Rattle.plant_model.specs.declared.choice.Move.{Move}
use Rattle.plant_model.specs.declared.fault.SystemFault.{SystemFault}
use Rattle.plant_model.specs.declared.fault.SystemFault.TheVariants.{Order}
use Rattle.priority_filter.specs.declared.fault.OrderFault.{OrderFault}
use Rattle.plant_model.proofs.Combinations.{length-rows}

-- ---- lists

-- where something passes, something is kept
some-kept : {X : Type 0} (f : X → Bool) (xs : List X) → list_any f xs ≡ true → 1 ≤ length (filter f xs)
some-kept f [] some = absurd (false≢true some)
some-kept f (x ∷ xs) some = each (some-kept f xs) (f x) refl
  where
    each : (list_any f xs ≡ true → 1 ≤ length (filter f xs)) → (b : Bool) → f x ≡ b → 1 ≤ length (cond b (x ∷ filter f xs) (filter f xs))
    each more true told = omega arith
    each more false told = more (sym (ap (λ b. b || list_any f xs) told) ∙ some)

-- the place of something that passes
any-at : {X : Type 0} (f : X → Bool) (xs : List X) → list_any f xs ≡ true → (n : ℕ) × (n < length xs) × (option_map_or f (slice_get xs n) false ≡ true)
any-at f [] some = absurd (false≢true some)
any-at f (x ∷ xs) some = each (any-at f xs) (f x) refl
  where
    each : (list_any f xs ≡ true → (n : ℕ) × (n < length xs) × (option_map_or f (slice_get xs n) false ≡ true)) → (b : Bool) → f x ≡ b → (n : ℕ) × (n < length (x ∷ xs)) × (option_map_or f (slice_get (x ∷ xs) n) false ≡ true)
    each later true told = (0, omega arith, told)
    each later false told =
        let more = later (sym (ap (λ b. b || list_any f xs) told) ∙ some) in
        (suc more.0, omega (arith, more.1), more.2)

-- where nothing passes, nothing does at any place
none-at : {X : Type 0} (f : X → Bool) (xs : List X) → list_any f xs ≡ false → (n : ℕ) → option_map_or f (slice_get xs n) false ≡ false
none-at f [] none n = refl
none-at f (x ∷ xs) none n = each (none-at f xs) (f x) refl n
  where
    each : (list_any f xs ≡ false → (n : ℕ) → option_map_or f (slice_get xs n) false ≡ false) → (b : Bool) → f x ≡ b → (n : ℕ) → option_map_or f (slice_get (x ∷ xs) n) false ≡ false
    each later true told n = absurd (false≢true (sym none ∙ ap (λ b. b || list_any f xs) told))
    each later false told zero = told
    each later false told (suc n) = later (sym (ap (λ b. b || list_any f xs) told) ∙ none) n

-- where one element gives something, all give something
flat-some : {X Y : Type 0} (give : ℕ → X → List Y) (n : ℕ) (xs : List X) (k : ℕ) (x : X) → slice_get xs k ≡ Some x → 1 ≤ length (give (n + k) x) → 1 ≤ length (flat_from give n xs)
flat-some give n [] k x there some = absurd (none-some x there)
flat-some give n (y ∷ ys) zero x there some =
    let same : y ≡ x = same_Some y x there in
    let here : 1 ≤ length (give n y) = subst (λ z. 1 ≤ length (give n z)) (sym same) (subst (λ k. 1 ≤ length (give k x)) (omega arith) some) in
    omega (arith, here, length-append (give n y) (flat_from give (suc n) ys))
flat-some give n (y ∷ ys) (suc k) x there some =
    let later = flat-some give (suc n) ys k x there (subst (λ j. 1 ≤ length (give j x)) (omega arith) some) in
    omega (arith, later, length-append (give n y) (flat_from give (suc n) ys))

-- where no element gives anything, all give nothing
flat-none : {X Y : Type 0} (give : ℕ → X → List Y) → ((n : ℕ) (x : X) → give n x ≡ []) → (n : ℕ) (xs : List X) → flat_from give n xs ≡ []
flat-none give none n [] = refl
flat-none give none n (x ∷ xs) = ap (λ ys. ys ++ flat_from give (suc n) xs) (none n x) ∙ flat-none give none (suc n) xs

-- ---- choices

module _ (atoms : List AtomDefinition) (states : List Local) where
  -- an atom that offers a port can move
  pub some-moves : (p : Port) → is_offered_port atoms states p ≡ true → 1 ≤ length (moves_of atoms states p)
  some-moves p offered = each (slice_get atoms p.atom) (slice_get states p.atom) offered
    where
      each : (o : Option AtomDefinition) (w : Option Local) → option_map_or (λ a. option_map_or (λ s. offers_port a s p.port) w false) o false ≡ true → 1 ≤ length (option_map_or (λ a. option_map_or (λ s. map (move_of p.atom) (enabled a s p.port)) w []) o [])
      each None w ready = absurd (false≢true ready)
      each (Some a) None ready = absurd (false≢true ready)
      each (Some a) (Some s) ready =
          subst (λ n. 1 ≤ n) (sym (length-map (enabled a s p.port) (move_of p.atom))) (some-kept (offers_number a s) (numbers_of p.port a.transitions) ready)

  -- where each of the ports is offered there is a row of moves
  pub some-rows : (ports : List Port) → list_all (is_offered_port atoms states) ports ≡ true → 1 ≤ length (combinations (map (moves_of atoms states) ports))
  some-rows [] all = omega arith
  some-rows (p ∷ ports) all =
      let parts = and_parts (is_offered_port atoms states p) (list_all (is_offered_port atoms states) ports) all in
      let rest = combinations (map (moves_of atoms states) ports) in
      product (length (moves_of atoms states p)) (length rest) (length (combinations (map (moves_of atoms states) (p ∷ ports))))
      (some-moves p parts.0) (some-rows ports parts.1) (length-rows rest (moves_of atoms states p))
    where
      product : (a b c : ℕ) → 1 ≤ a → 1 ≤ b → c ≡ a * b → 1 ≤ c
      product zero b c first second told = absurd (omega arith)
      product (suc a) b c first second told = omega (arith, told)

  some-choices : (i : Interaction) → list_all (is_offered_port atoms states) i.ports ≡ true → 1 ≤ length (choices_of atoms states i)
  some-choices i all =
      let rows = combinations (map (moves_of atoms states) i.ports) in
      let make : List Move → ChoiceDefinition = λ moves. record { connector = i.connector; mask = i.mask; moves = moves } in
      subst (λ n. 1 ≤ n) (sym (length-map rows make)) (some-rows i.ports all)

-- the rules of a plant that breaks no rule put an order on its interactions
pub order-sound : (plant : PlantDefinition) → fault_of plant ≡ None → order_fault plant.rules (map named (plant_interactions plant)) ≡ None
order-sound plant sound =
    unmapped (order_fault plant.rules (map named (plant_interactions plant)))
    (second (late_fault plant) (fault_of_order plant) (second (early_fault plant) (first_of (late_fault plant) (fault_of_order plant)) sound))
  where
    second : (a b : Option SystemFault) → first_of a b ≡ None → b ≡ None
    second (Some f) b none = absurd (none-some f (sym none))
    second None b none = none

    unmapped : (o : Option OrderFault) → option_map Order o ≡ None → o ≡ None
    unmapped None none = refl
    unmapped (Some f) none = absurd (none-some (Order f) (sym none))

module _ (plant : PlantDefinition) (states : List Local) where
  abbrev all : List Interaction
  all = plant_interactions plant

  abbrev possible : ℕ → Bool
  possible = is_possible_at plant.atoms plant.wires states all

  -- what is allowed has a choice
  allowed-some : (n : ℕ) → is_allowed_at plant states all n ≡ true → 1 ≤ length (choices plant states)
  allowed-some n allowed = each (slice_get all n) refl
    where
      parts : (possible n ≡ true) × (not (is_overruled (active_in plant states) (map named all) possible n) ≡ true)
      parts = and_parts (possible n) (not (is_overruled (active_in plant states) (map named all) possible n)) allowed

      each : (o : Option Interaction) → slice_get all n ≡ o → 1 ≤ length (choices plant states)
      each None there = absurd (false≢true (sym (ap (λ o. option_map_or (is_possible plant.atoms plant.wires states) o false) there) ∙ parts.0))
      each (Some i) there =
          let ready : is_possible plant.atoms plant.wires states i ≡ true = sym (ap (λ o. option_map_or (is_possible plant.atoms plant.wires states) o false) there) ∙ parts.0 in
          let ports = and_parts (list_all (is_offered_port plant.atoms states) i.ports) (passes_guards plant.atoms plant.wires states i) ready in
          let has : 1 ≤ length (choices_at plant states all n i) =
          subst (λ b. 1 ≤ length (cond b (choices_of plant.atoms states i) [])) (sym allowed) (some-choices plant.atoms states i ports.0) in
          flat-some (choices_at plant states all) 0 all n i there (subst (λ k. 1 ≤ length (choices_at plant states all k i)) (omega arith) has)

  -- there is no choice exactly where nothing is possible
  pub stuck-told : order_fault plant.rules (map named all) ≡ None → (length (choices plant states) ≡ 0) ↔ IsStuck plant states
  stuck-told sound = (stuck, none)
    where
      stuck : length (choices plant states) ≡ 0 → IsStuck plant states
      stuck empty = false_from_ne_true (list_any (is_possible plant.atoms plant.wires states) all) (λ some.
          let at = any-at (is_possible plant.atoms plant.wires states) all some in
          let top = top_is_not_overruled plant.rules (map named all) (is_marked_at states) possible sound at.0 (omega (arith, at.1, length-map all named)) at.2 in
          let allowed = and_from (possible top.0) (not (is_overruled (active_in plant states) (map named all) possible top.0)) top.2 (ap not top.3) in
          omega (arith, empty, allowed-some top.0 allowed))

      none : IsStuck plant states → length (choices plant states) ≡ 0
      none nothing = ap length (flat-none (choices_at plant states all) (λ n i.
          ap (λ b. cond (b && not (is_overruled (active_in plant states) (map named all) possible n)) (choices_of plant.atoms states i) []) (none-at (is_possible plant.atoms plant.wires states) all nothing n)) 0 all)

  -- a number of choices is 0 exactly where nothing is possible
  pub none-where-stuck : fault_of plant ≡ None → (n : ℕ) → n ≡ length (choices plant states) → (n ≡ 0) ↔ IsStuck plant states
  none-where-stuck sound n counted =
      let told = stuck-told (order-sound plant sound) in
      (λ zero. told.0 (sym counted ∙ zero), λ stuck. counted ∙ told.1 stuck)
