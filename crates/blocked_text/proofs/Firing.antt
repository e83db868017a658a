-- A connector can be fired exactly if one of its interactions is allowed.
use Rattle.std.proofs.Common.{◌≡◌, ℕ, suc, ◌+◌, ◌≤◌, refl, sym, ◌∙◌, ap, List, [], ◌∷◌, map, length, arith, Bool, true, false, cond, ◌&&◌, ◌||◌, ◌==◌}
use Rattle.std.specs.Prelude.{Some, slice_get}
use Rattle.std.specs.List.{list_all, list_any, range_with_len}
use Rattle.std.specs.Option.{option_map_or}
use Rattle.std.proofs.lemmas.Bool.{and_parts}
use Rattle.std.proofs.lemmas.List.Folds.{list_any-append}
use Rattle.petri_atom.specs.Local.{Local}
use Rattle.plant_model.specs.Choice.{ChoiceDefinition, Interaction, choices_at, choices_of, combinations, flat_from, is_allowed_at, is_offered_port, is_possible, is_possible_at, moves_of, plant_interactions}
use Rattle.plant_model.specs.Plant.{PlantDefinition}
use Rattle.plant_model.specs.declared.choice.Move.{Move}
use Rattle.plant_model.proofs.NoDeadlock.{some-rows}
use Rattle.blocked_text.specs.Blocked.{can_fire, has_allowed, is_allowed_of}
use Rattle.blocked_text.proofs.Reasoning.{none-allowed}

-- ---- lists

-- one of what numbered elements give passes, where one of the elements gives such
any-flat : {X Y : Type 0} (p : Y → Bool) (give : ℕ → X → List Y) (pass : ℕ → X → Bool) (test : ℕ → Bool) (n : ℕ) (xs : List X)
    → ((k : ℕ) (x : X) → slice_get xs k ≡ Some x → list_any p (give (n + k) x) ≡ pass (n + k) x)
    → ((k : ℕ) (x : X) → slice_get xs k ≡ Some x → test (n + k) ≡ pass (n + k) x)
    → list_any p (flat_from give n xs) ≡ list_any test (range_with_len n (length xs))
any-flat p give pass test n [] gives tests = refl
any-flat p give pass test n (x ∷ xs) gives tests =
    list_any-append p (give n x) (flat_from give (suc n) xs) ∙
    ap (λ b. b || list_any p (flat_from give (suc n) xs)) here ∙
    ap (λ b. test n || b) (any-flat p give pass test (suc n) xs later-gives later-tests ∙ ap (λ k. list_any test (range_with_len k (length xs))) (let e : suc n ≡ n + 1 = omega arith in e))
  where
    here : list_any p (give n x) ≡ test n
    here =
        let e : n + 0 ≡ n = omega arith in
        ap (λ k. list_any p (give k x)) (sym e) ∙ gives 0 x refl ∙ sym (tests 0 x refl) ∙ ap test e

    later-gives : (k : ℕ) (y : _) → slice_get xs k ≡ Some y → list_any p (give (suc n + k) y) ≡ pass (suc n + k) y
    later-gives k y there =
        let e : n + suc k ≡ suc n + k = omega arith in
        ap (λ j. list_any p (give j y)) (sym e) ∙ gives (suc k) y there ∙ ap (λ j. pass j y) e

    later-tests : (k : ℕ) (y : _) → slice_get xs k ≡ Some y → test (suc n + k) ≡ pass (suc n + k) y
    later-tests k y there =
        let e : n + suc k ≡ suc n + k = omega arith in
        ap test (sym e) ∙ tests (suc k) y there ∙ ap (λ j. pass j y) e

-- if all of a list are alike, one passes exactly where they do, if there is one
any-alike : {X Y : Type 0} (p : Y → Bool) (f : X → Y) (b : Bool) → ((x : X) → p (f x) ≡ b) → (xs : List X) → 1 ≤ length xs → list_any p (map f xs) ≡ b
any-alike p f b alike [] some = absurd (omega arith)
any-alike p f b alike (x ∷ xs) some = ap (λ c. c || list_any p (map f xs)) (alike x) ∙ each b alike xs
  where
    none-of : ((y : _) → p (f y) ≡ false) → (ys : List _) → list_any p (map f ys) ≡ false
    none-of fails [] = refl
    none-of fails (y ∷ ys) = ap (λ c. c || list_any p (map f ys)) (fails y) ∙ none-of fails ys

    each : (b : Bool) → ((y : _) → p (f y) ≡ b) → (ys : List _) → (b || list_any p (map f ys)) ≡ b
    each true same ys = refl
    each false same ys = none-of same ys

-- ---- choices

module _ (plant : PlantDefinition) (states : List Local) (connector : ℕ) where
  abbrev all : List Interaction
  all = plant_interactions plant

  abbrev is_its : ChoiceDefinition → Bool
  is_its c = c.connector == connector

  abbrev allowed : ℕ → Bool
  allowed = is_allowed_at plant states all

  -- the choices of an interaction that is possible are of its connector, and there is one
  some-its : (i : Interaction) → list_all (is_offered_port plant.atoms states) i.ports ≡ true → list_any is_its (choices_of plant.atoms states i) ≡ (i.connector == connector)
  some-its i offered =
      any-alike is_its (λ (moves : List Move). record { connector = i.connector; mask = i.mask; moves = moves }) (i.connector == connector) (λ moves. refl)
      (combinations (map (moves_of plant.atoms states) i.ports)) (some-rows plant.atoms states i.ports offered)

  -- one of the choices of an interaction is of the connector if the interaction is allowed and is one of it
  its-choices : (n : ℕ) (i : Interaction) → slice_get all n ≡ Some i → list_any is_its (choices_at plant states all n i) ≡ (i.connector == connector && allowed n)
  its-choices n i there = each (allowed n) refl
    where
      ready : allowed n ≡ true → list_all (is_offered_port plant.atoms states) i.ports ≡ true
      ready known =
          let can : is_possible_at plant.atoms plant.wires states all n ≡ true = (and_parts _ _ known).0 in
          (and_parts _ _ (sym (ap (λ o. option_map_or (is_possible plant.atoms plant.wires states) o false) there) ∙ can)).0

      and-false : (b : Bool) → false ≡ (b && false)
      and-false true = refl
      and-false false = refl

      and-true : (b : Bool) → b ≡ (b && true)
      and-true true = refl
      and-true false = refl

      each : (b : Bool) → allowed n ≡ b → list_any is_its (cond b (choices_of plant.atoms states i) []) ≡ (i.connector == connector && b)
      each true known = some-its i (ready known) ∙ and-true (i.connector == connector)
      each false known = and-false (i.connector == connector)

  -- the connector can be fired if one of its interactions has no reason
  pub can-fire-known : has_allowed plant states all connector ≡ can_fire plant states connector
  can-fire-known =
      sym (any-flat is_its (choices_at plant states all) (λ n i. i.connector == connector && allowed n)
      (λ n. option_map_or (is_allowed_of plant states all connector n) (slice_get all n) false) 0 all
      (λ k i there. let e : k ≡ 0 + k = omega arith in its-choices (0 + k) i (ap (slice_get all) (sym e) ∙ there))
      (λ k i there.
      let e : 0 + k ≡ k = omega arith in
      let here : slice_get all (0 + k) ≡ Some i = ap (slice_get all) e ∙ there in
      ap (λ o. option_map_or (is_allowed_of plant states all connector (0 + k)) o false) here ∙
      ap (λ b. i.connector == connector && b) (none-allowed plant states all (0 + k) i here)))
