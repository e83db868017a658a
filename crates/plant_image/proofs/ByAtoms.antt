-- Lists by their elements, and the places that the records bring the atoms to, atom by atom.
use Rattle.std.proofs.Common.{◌≡◌, ◌≢◌, inl, inr, ℕ, zero, suc, ◌+◌, ◌<◌, ◌≤◌, List, [], ◌∷◌, length, set, slice_get, Option, Some, None, option_map, Result, Ok, refl, sym, ◌∙◌, ap, arith, length-set, get_or-set_same, get_or-set_other}
use Rattle.std.proofs.lemmas.Bool.{cases_lt}
use Rattle.std.proofs.lemmas.List.{length-map, get_or_past}
use Rattle.std.proofs.lemmas.Option.{slice_get-map, slice_get-get_or, slice_get_past, get_or_from_slice_get}
use Rattle.petri_atom.specs.Definition.{AtomDefinition}
use Rattle.record_replay.specs.Records.{count_of}
use Rattle.record_replay.specs.Replay.{Position}
use Rattle.record_replay.specs.declared.fault.ReplayFault.{ReplayFault}
use Rattle.plant_model.specs.Plant.{PlantDefinition}
use Rattle.plant_model.specs.Rules.{first_of, first_fault_in}
use Rattle.plant_image.specs.Contents.{Contents, saved_position, replayed, place_or, places_from, states_of, counts_of}

-- ---- lists

-- lists that agree at each place are one
pub same_lists : {X : Type 0} (xs ys : List X) → length xs ≡ length ys → ((i : ℕ) → i < length xs → slice_get xs i ≡ slice_get ys i) → xs ≡ ys
same_lists [] [] long same = refl
same_lists [] (y ∷ ys) long same = absurd (omega arith)
same_lists (x ∷ xs) [] long same = absurd (omega arith)
same_lists {X} (x ∷ xs) (y ∷ ys) long same =
    let heads : Some x ≡ Some y = same 0 (omega arith) in
    let head : x ≡ y = cc in
    let tail : xs ≡ ys = same_lists xs ys (omega arith) (λ i within. same (suc i) (omega (arith, within))) in
    ap (λ (z : X). z ∷ xs) head ∙ ap (λ (zs : List X). y ∷ zs) tail

-- the element at a place that was written, and at any other
pub get_set_same : {X : Type 0} (xs : List X) (i : ℕ) (x : X) → i < length xs → slice_get (set xs i x) i ≡ Some x
get_set_same xs i x within =
    let long : i < length (set xs i x) = omega (arith, length-set xs i x, within) in
    slice_get-get_or (set xs i x) i x long ∙ ap (λ y. Some y) (get_or-set_same xs i x x within)

pub get_set_other : {X : Type 0} (xs : List X) (i k : ℕ) (x : X) → k ≢ i → slice_get (set xs i x) k ≡ slice_get xs k
get_set_other xs i k x ne = elim (cases_lt k (length xs)) [
  | inl within ↦
      let long : k < length (set xs i x) = omega (arith, length-set xs i x, within) in
      slice_get-get_or (set xs i x) k x long ∙ ap (λ y. Some y) (get_or-set_other xs i k x x ne) ∙ sym (slice_get-get_or xs k x within)
  | inr past ↦ slice_get_past (set xs i x) k (omega (arith, length-set xs i x, past)) ∙ sym (slice_get_past xs k past)
]

-- each place below the length has an element
pub element_at : {X : Type 0} (xs : List X) (i : ℕ) → i < length xs → (x : X) × (slice_get xs i ≡ Some x)
element_at [] i within = absurd (omega arith)
element_at (x ∷ xs) zero within = (x, refl)
element_at (x ∷ xs) (suc i) within = element_at xs i (omega arith)

-- ---- what the first element tells that tells something

-- if none has a fault, each has none
pub told_none_at : {X F : Type 0} (tell : ℕ → X → Option F) (xs : List X) (n j i : ℕ) (x : X) → first_fault_in tell n xs ≡ None → slice_get xs j ≡ Some x → n + j ≡ i → tell i x ≡ None
told_none_at tell [] n j i x none at sum = absurd (let at = at in cc)
told_none_at {X} {F} tell (y ∷ ys) n zero i x none at sum =
    let same : y ≡ x = let at = at in cc in
    let here : n ≡ i = omega arith in
    ap (λ (k : ℕ). tell k x) (sym here) ∙ ap (tell n) (sym same) ∙ first_none (tell n y) none
  where
    first_none : (found : Option F) → first_of found (first_fault_in tell (suc n) ys) ≡ None → found ≡ None
    first_none None is = refl
    first_none (Some f) is = is
told_none_at {X} {F} tell (y ∷ ys) n (suc j) i x none at sum = told_none_at tell ys (suc n) j i x (rest_none (tell n y) none) at (omega arith)
  where
    rest_none : (found : Option F) → first_of found (first_fault_in tell (suc n) ys) ≡ None → first_fault_in tell (suc n) ys ≡ None
    rest_none None is = is
    rest_none (Some f) is = absurd (let is = is in cc)

-- and if each has none, all have none
pub told_none : {X F : Type 0} (tell : ℕ → X → Option F) (xs : List X) (n : ℕ) → ((j : ℕ) (x : X) → slice_get xs j ≡ Some x → tell (n + j) x ≡ None) → first_fault_in tell n xs ≡ None
told_none tell [] n each = refl
told_none {X} {F} tell (y ∷ ys) n each =
    let here : tell n y ≡ None = ap (λ (k : ℕ). tell k y) (omega arith) ∙ each 0 y refl in
    ap (λ (o : Option F). first_of o (first_fault_in tell (suc n) ys)) here
    ∙ told_none tell ys (suc n) (λ j x at. ap (λ (k : ℕ). tell k x) (omega arith) ∙ each (suc j) x at)

-- what tells the same of each tells the same of all
pub told_same : {X F : Type 0} (tell other : ℕ → X → Option F) (xs : List X) (n : ℕ) → ((j : ℕ) (x : X) → slice_get xs j ≡ Some x → tell (n + j) x ≡ other (n + j) x) → first_fault_in tell n xs ≡ first_fault_in other n xs
told_same tell other [] n each = refl
told_same {X} {F} tell other (y ∷ ys) n each =
    let zero_more : n ≡ n + 0 = omega arith in
    let here : tell n y ≡ other n y = ap (λ (k : ℕ). tell k y) zero_more ∙ each 0 y refl ∙ ap (λ (k : ℕ). other k y) (sym zero_more) in
    ap (λ (o : Option F). first_of o (first_fault_in tell (suc n) ys)) here
    ∙ ap (first_of (other n y)) (told_same tell other ys (suc n) (λ j x at. let more : suc n + j ≡ n + suc j = omega arith in ap (λ (k : ℕ). tell k x) more ∙ each (suc j) x at ∙ ap (λ (k : ℕ). other k x) (sym more)))

-- ---- where the records bring the atoms

module _ (c : Contents) where
  places_at : (atoms : List AtomDefinition) (n j i : ℕ) (a : AtomDefinition) → slice_get atoms j ≡ Some a → n + j ≡ i → slice_get (places_from c n atoms) j ≡ Some (place_or (saved_position c i) (replayed c i a))
  places_at [] n j i a at sum = absurd (let at = at in cc)
  places_at (b ∷ bs) n zero i a at sum =
      let same : b ≡ a = let at = at in cc in
      let here : n ≡ i = omega arith in
      ap (λ (k : ℕ). Some (place_or (saved_position c k) (replayed c k b))) here ∙ ap (λ (x : AtomDefinition). Some (place_or (saved_position c i) (replayed c i x))) same
  places_at (b ∷ bs) n (suc j) i a at sum = places_at bs (suc n) j i a at (omega arith)

  places_length : (atoms : List AtomDefinition) (n : ℕ) → length (places_from c n atoms) ≡ length atoms
  places_length [] n = refl
  places_length (b ∷ bs) n = omega (arith, places_length bs (suc n))

  module _ (plant : PlantDefinition) where
    pub states_length : length (states_of plant c) ≡ length plant.atoms
    states_length = length-map (places_from c 0 plant.atoms) (λ (p : Position). p.state) ∙ places_length plant.atoms 0

    pub counts_length : length (counts_of plant c) ≡ length plant.atoms
    counts_length = length-map (places_from c 0 plant.atoms) (λ (p : Position). p.count) ∙ places_length plant.atoms 0

    -- past the last atom there is no count
    pub counts_past : (i : ℕ) → length plant.atoms ≤ i → count_of (counts_of plant c) i ≡ 0
    counts_past i past = get_or_past (counts_of plant c) i 0 (omega (arith, counts_length, past))

    -- where the records bring an atom is its state and its count
    module _ (i : ℕ) (a : AtomDefinition) (p : Position) (at : slice_get plant.atoms i ≡ Some a) (ends : replayed c i a ≡ Ok p) where
      place_is : slice_get (places_from c 0 plant.atoms) i ≡ Some p
      place_is = places_at plant.atoms 0 i i a at (omega arith) ∙ ap (λ (r : Result Position ReplayFault). Some (place_or (saved_position c i) r)) ends

      pub state_at : slice_get (states_of plant c) i ≡ Some p.state
      state_at = slice_get-map (λ (p : Position). p.state) (places_from c 0 plant.atoms) i ∙ ap (option_map (λ (p : Position). p.state)) place_is

      pub count_at : count_of (counts_of plant c) i ≡ p.count
      count_at = get_or_from_slice_get (counts_of plant c) i p.count 0 (slice_get-map (λ (p : Position). p.count) (places_from c 0 plant.atoms) i ∙ ap (option_map (λ (p : Position). p.count)) place_is)
