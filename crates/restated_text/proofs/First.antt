-- The first states of a plant that got states are these, and all else of it is the same.
use Rattle.std.proofs.Common.{◌≡◌, ◌∙◌, refl, sym, ap, subst, ⊎_elim, inl, inr, ◌⊎◌, ℕ, zero, suc, ◌+◌, ◌^◌, ◌<◌, ◌≤◌, arith, ℤ, pos, Bool, true, false, List, [], ◌∷◌, length, map, Option, Some, None, option_map}
use Rattle.std.specs.Prelude.{slice_get, nat_lt}
use Rattle.std.specs.List.{list_all}
use Rattle.std.specs.Option.{option_map_or}
use Rattle.std.proofs.lemmas.Bool.{and_parts, ltb-true, cases_lt}
use Rattle.std.proofs.lemmas.Nat.{pow_below}
use Rattle.std.proofs.lemmas.Option.{slice_get-map}
use Rattle.petri_atom.specs.Definition.{AtomDefinition, Fits, initial, is_marked_first}
use Rattle.petri_atom.specs.Local.{Local, has, set_below}
use Rattle.petri_atom.specs.declared.parts.Place.{Place}
use Rattle.petri_atom.specs.declared.parts.Variable.{Variable}
use Rattle.petri_atom.proofs.Sets.{has-above, same_set, set_below-lt, has-set_below, set_below-is}
use Rattle.plant_model.specs.Fitting.{IsOf, AllFit}
use Rattle.plant_model.specs.Plant.{PlantDefinition}
use Rattle.plant_model.specs.Step.{initial_states}
use Rattle.restated_text.specs.Plants.{each_numbered, place_with, first_valued, variable_with, atom_in_state, atom_with, plant_in_states, unmarked, unvalued, but_for_its_state, has_ranged_values, is_in_memory}
use Rattle.restated_text.proofs.LegalLines.{got_passes}
use Rattle.restated_text.proofs.Numbered.{length_numbered, get_numbered}

-- ---- lists by their elements

same_lists : {X : Type 0} (xs ys : List X) → ((k : ℕ) → slice_get xs k ≡ slice_get ys k) → xs ≡ ys
same_lists [] [] same = refl
same_lists [] (y ∷ ys) same = let first = same 0 in absurd (cc)
same_lists (x ∷ xs) [] same = let first = same 0 in absurd (cc)
same_lists (x ∷ xs) (y ∷ ys) same =
    let first : ◌≡◌ {A = Option _} (Some x) (Some y) = same 0 in
    let head : x ≡ y = cc in
    ap (λ z. z ∷ xs) head ∙ ap (λ l. y ∷ l) (same_lists xs ys (λ k. same (suc k)))

-- of two lists of one length both have an element with a number, or none has
data Both {X Y : Type 0} (xs : List X) (ys : List Y) (k : ℕ) : Type 0 where
  past : slice_get xs k ≡ None → slice_get ys k ≡ None → Both xs ys k
  there : (x : X) (y : Y) → slice_get xs k ≡ Some x → slice_get ys k ≡ Some y → Both xs ys k

both : {X Y : Type 0} (xs : List X) (ys : List Y) (k : ℕ) → length xs ≡ length ys → Both xs ys k
both [] [] k same = past refl refl
both [] (y ∷ ys) k same = absurd (omega (arith, same))
both (x ∷ xs) [] k same = absurd (omega (arith, same))
both (x ∷ xs) (y ∷ ys) zero same = there x y refl refl
both (x ∷ xs) (y ∷ ys) (suc k) same = deeper (both xs ys k (omega (arith, same)))
  where
    deeper : Both xs ys k → Both (x ∷ xs) (y ∷ ys) (suc k)
    deeper (past none nor) = past none nor
    deeper (there a b is also) = there a b is also

-- an element that is there is found
no_end : {X : Type 0} (xs : List X) (j : ℕ) → j < length xs → ¬ (slice_get xs j ≡ None)
no_end [] j below none = omega (arith, below)
no_end (x ∷ xs) zero below none = cc
no_end (x ∷ xs) (suc j) below none = no_end xs j (omega (arith, below)) none

-- ---- one atom

module _ (a : AtomDefinition) (s : Local) (fits : Fits a s) (small : s.marking < 2 ^ 64) where
  values_first : map (λ v. v.first) (atom_in_state a s).variables ≡ s.values
  values_first = same_lists (map (λ v. v.first) (atom_in_state a s).variables) s.values each
    where
      at : (k : ℕ) → Both a.variables s.values k → option_map (λ v. v.first) (option_map (variable_with s.values (0 + k)) (slice_get a.variables k)) ≡ slice_get s.values k
      at k (past none nor) = ap (λ o. option_map (λ v. v.first) (option_map (variable_with s.values (0 + k)) o)) none ∙ sym nor
      at k (there v value is also) =
          let number : 0 + k ≡ k = omega arith in
          ap (λ o. option_map (λ v. v.first) (option_map (variable_with s.values (0 + k)) o)) is ∙
          ap (λ o. Some (option_map_or (first_valued v) o v).first) (ap (slice_get s.values) number ∙ also) ∙ sym also

      each : (k : ℕ) → slice_get (map (λ v. v.first) (atom_in_state a s).variables) k ≡ slice_get s.values k
      each k =
          slice_get-map (λ v. v.first) (atom_in_state a s).variables k ∙
          ap (option_map (λ v. v.first)) (get_numbered (variable_with s.values) 0 a.variables k) ∙ at k (both a.variables s.values k (sym fits.variables))

  abbrev n : ℕ
  n = length a.places

  within : s.marking < 2 ^ n
  within =
      let wide : 2 ^ 64 < 2 ^ (65 + n) = pow_below 64 (65 + n) (omega arith) in
      let wider : 2 ^ n < 2 ^ (65 + n) = pow_below n (65 + n) (omega arith) in
      let low : set_below n (has s.marking) < 2 ^ n = set_below-lt n (has s.marking) in
      let same : s.marking ≡ set_below n (has s.marking) = same_set (65 + n) s.marking (set_below n (has s.marking)) (omega (arith, small, wide)) (omega (arith, low, wider)) (λ k h. each k) in
      subst (λ (w : ℕ). w < 2 ^ n) (sym same) low
    where
      each : (k : ℕ) → has s.marking k ≡ has (set_below n (has s.marking)) k
      each k =
          ⊎_elim (λ h. sym (has-set_below n (has s.marking) k h))
          (λ past. fits.places k past ∙ sym (has-above (set_below n (has s.marking)) n k (set_below-lt n (has s.marking)) past)) (cases_lt k n)

  marked_first : (k : ℕ) → k < n → has s.marking k ≡ is_marked_first (atom_in_state a s).places k
  marked_first k below =
      sym (ap (λ o. option_map_or (λ p. p.marked) o false) (get_numbered (place_with s.marking) 0 a.places k) ∙ at (slice_get a.places k) refl)
    where
      number : 0 + k ≡ k
      number = omega arith

      at : (o : Option Place) → slice_get a.places k ≡ o → option_map_or (λ p. p.marked) (option_map (place_with s.marking (0 + k)) o) false ≡ has s.marking k
      at None none = absurd (no_end a.places k below none)
      at (Some p) is = ap (has s.marking) number

  initial_is : initial (atom_in_state a s) ≡ s
  initial_is =
      let marking : set_below (length (atom_in_state a s).places) (is_marked_first (atom_in_state a s).places) ≡ s.marking =
      ap (λ (m : ℕ). set_below m (is_marked_first (atom_in_state a s).places)) (length_numbered (place_with s.marking) 0 a.places) ∙
      sym (set_below-is n s.marking (is_marked_first (atom_in_state a s).places) within marked_first) in
      ap (λ (m : ℕ). record { marking = m; values = map (λ v. v.first) (atom_in_state a s).variables }) marking ∙
      ap (λ (values : List ℤ). record { marking = s.marking; values = values }) values_first

-- ---- the plant

pub first_states_are : (plant : PlantDefinition) (states : List Local) → IsOf plant states → AllFit plant states → list_all is_in_memory states ≡ true →
    initial_states (plant_in_states states plant) ≡ states
first_states_are plant states many fit held = same_lists (initial_states (plant_in_states states plant)) states each
  where
    at : (k : ℕ) → Both plant.atoms states k → option_map initial (option_map (atom_with states (0 + k)) (slice_get plant.atoms k)) ≡ slice_get states k
    at k (past none nor) = ap (λ o. option_map initial (option_map (atom_with states (0 + k)) o)) none ∙ sym nor
    at k (there a s is also) =
        let number : 0 + k ≡ k = omega arith in
        let in_memory = and_parts (nat_lt s.marking (2 ^ 64)) (has_ranged_values s) (got_passes is_in_memory states k s held also) in
        ap (λ o. option_map initial (option_map (atom_with states (0 + k)) o)) is ∙
        ap (λ o. Some (initial (option_map_or (atom_in_state a) o a))) (ap (slice_get states) number ∙ also) ∙
        ap (λ l. Some l) (initial_is a s (fit k a s is also) (ltb-true s.marking (2 ^ 64) in_memory.0)) ∙ sym also

    each : (k : ℕ) → slice_get (initial_states (plant_in_states states plant)) k ≡ slice_get states k
    each k =
        slice_get-map initial (plant_in_states states plant).atoms k ∙ ap (option_map initial) (get_numbered (atom_with states) 0 plant.atoms k) ∙
        at k (both plant.atoms states k (sym many))

-- ---- all else

mapped_alike : {X Y : Type 0} (see : X → Y) (f : ℕ → X → X) → ((k : ℕ) (x : X) → see (f k x) ≡ see x) → (n : ℕ) (xs : List X) → map see (each_numbered f n xs) ≡ map see xs
mapped_alike see f same n [] = refl
mapped_alike see f same n (x ∷ xs) = ap (λ y. y ∷ map see (each_numbered f (n + 1) xs)) (same n x) ∙ ap (λ l. see x ∷ l) (mapped_alike see f same (n + 1) xs)

state_aside : (a : AtomDefinition) (s : Local) → but_for_its_state (atom_in_state a s) ≡ but_for_its_state a
state_aside a s =
    ap (λ (places : List Place). record a { places = places; variables = map unvalued (atom_in_state a s).variables })
    (mapped_alike unmarked (place_with s.marking) (λ k p. refl) 0 a.places) ∙
    ap (λ (variables : List Variable). record a { places = map unmarked a.places; variables = variables })
    (mapped_alike unvalued (variable_with s.values) (λ k v. each v (slice_get s.values k)) 0 a.variables)
  where
    each : (v : Variable) (o : Option ℤ) → unvalued (option_map_or (first_valued v) o v) ≡ unvalued v
    each v None = refl
    each v (Some value) = refl

pub all_else_is_the_same : (plant : PlantDefinition) (states : List Local) → map but_for_its_state (plant_in_states states plant).atoms ≡ map but_for_its_state plant.atoms
all_else_is_the_same plant states = mapped_alike but_for_its_state (atom_with states) (λ k a. each a (slice_get states k)) 0 plant.atoms
  where
    each : (a : AtomDefinition) (o : Option Local) → but_for_its_state (option_map_or (atom_in_state a) o a) ≡ but_for_its_state a
    each a None = refl
    each a (Some s) = state_aside a s
