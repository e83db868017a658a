-- The states after moves, by number, and tests of the moves of choices.
use Rattle.std.proofs.Common.{◌≡◌, ℕ, zero, suc, ◌+◌, ◌<◌, refl, ◌∙◌, ap, List, [], ◌∷◌, ◌++◌, length, map, get_or, arith, Bool, true, false, cond, ◌&&◌}
use Rattle.std.specs.Prelude.{Option, Some, None, slice_get, filter, flat_map}
use Rattle.std.specs.List.{list_all}
use Rattle.std.specs.Option.{option_map_or}
use Rattle.std.proofs.lemmas.Bool.{and_parts, and_from}
use Rattle.std.proofs.lemmas.List.Folds.{list_all-append, list_all-map}
use Rattle.petri_atom.specs.Local.{Local, Row}
use Rattle.petri_atom.specs.Definition.{AtomDefinition, enabled, offers_number}
use Rattle.petri_atom.proofs.Fitting.{all_weaker}
use Rattle.connector_tree.specs.declared.tree.Port.{Port}
use Rattle.plant_model.specs.Plant.{PlantDefinition, of_atom}
use Rattle.plant_model.specs.Choice.{Interaction, ChoiceDefinition, move_of, moves_of, combinations, choices_of, choices_at, choices, is_allowed_at, flat_from, plant_interactions}
use Rattle.plant_model.specs.Step.{stepped, stepped_from}
use Rattle.plant_model.specs.declared.choice.Move.{Move}

-- the states after the moves, by number
pub length-stepped : (atoms : List AtomDefinition) (moves : List Move) (d : ℕ → Row) (n : ℕ) (states : List Local) → length (stepped_from atoms moves d n states) ≡ length states
length-stepped atoms moves d n [] = refl
length-stepped atoms moves d n (s ∷ states) = ap suc (length-stepped atoms moves d (suc n) states)

pub stepped-at : (atoms : List AtomDefinition) (moves : List Move) (d : ℕ → Row) (n i : ℕ) (states : List Local) (x : Local) → i < length states → get_or (stepped_from atoms moves d n states) i x ≡ stepped atoms moves d (n + i) (get_or states i x)
stepped-at atoms moves d n i [] x within = absurd (omega arith)
stepped-at atoms moves d n zero (s ∷ states) x within = ap (λ k. stepped atoms moves d k s) (omega arith)
stepped-at atoms moves d n (suc i) (s ∷ states) x within =
    let e : suc n + i ≡ n + suc i = omega arith in
    stepped-at atoms moves d (suc n) i states x (omega arith) ∙ ap (λ k. stepped atoms moves d k (get_or states i x)) e

-- tests of lists that are made of others
module _ {X : Type 0} (f : X → Bool) where
  pub all-append : (xs ys : List X) → list_all f xs ≡ true → list_all f ys ≡ true → list_all f (xs ++ ys) ≡ true
  all-append xs ys all more = list_all-append f xs ys ∙ and_from (list_all f xs) (list_all f ys) all more

  pub all-map : {Y : Type 0} (h : Y → X) (ys : List Y) → list_all (λ y. f (h y)) ys ≡ true → list_all f (map h ys) ≡ true
  all-map h ys all = list_all-map f h ys ∙ all

  all-filter : (xs : List X) → list_all f (filter f xs) ≡ true
  all-filter [] = refl
  all-filter (x ∷ xs) = each (all-filter xs) (f x) refl
    where
      each : list_all f (filter f xs) ≡ true → (b : Bool) → f x ≡ b → list_all f (cond b (x ∷ filter f xs) (filter f xs)) ≡ true
      each later true told = and_from (f x) (list_all f (filter f xs)) told later
      each later false told = later

  pub all-at : (xs : List X) (k : ℕ) (d : X) → list_all f xs ≡ true → k < length xs → f (get_or xs k d) ≡ true
  all-at [] k d all within = absurd (omega arith)
  all-at (x ∷ xs) zero d all within = (and_parts (f x) (list_all f xs) all).0
  all-at (x ∷ xs) (suc k) d all within = all-at xs k d (and_parts (f x) (list_all f xs) all).1 (omega arith)

  -- each row of one element from each list has elements that pass, if all do
  all-rows : (xs : List X) (rest : List (List X)) → list_all f xs ≡ true → list_all (list_all f) rest ≡ true → list_all (list_all f) (flat_map (λ x. map (λ row. x ∷ row) rest) xs) ≡ true
  all-rows [] rest all passed = refl
  all-rows (x ∷ xs) rest all passed =
      let parts = and_parts (f x) (list_all f xs) all in
      list_all-append (list_all f) (map (λ row. x ∷ row) rest) (flat_map (λ y. map (λ row. y ∷ row) rest) xs) ∙ and_from _ _ (each parts.0 rest passed) (all-rows xs rest parts.1 passed)
    where
      each : f x ≡ true → (rows : List (List X)) → list_all (list_all f) rows ≡ true → list_all (list_all f) (map (λ row. x ∷ row) rows) ≡ true
      each here [] passed = refl
      each here (row ∷ rows) passed =
          let parts = and_parts (list_all f row) (list_all (list_all f) rows) passed in
          and_from (f x && list_all f row) _ (and_from (f x) (list_all f row) here parts.0) (each here rows parts.1)

  -- and so have the rows of several lists
  all-combinations : (xss : List (List X)) → list_all (list_all f) xss ≡ true → list_all (list_all f) (combinations xss) ≡ true
  all-combinations [] all = refl
  all-combinations (xs ∷ rest) all =
      let parts = and_parts (list_all f xs) (list_all (list_all f) rest) all in
      all-rows xs (combinations rest) parts.0 (all-combinations rest parts.1)

-- what stands where there is no move
abbrev pub no_move : Move
no_move = record { atom = 0; transition = 0 }

-- a move that its atom's state offers
abbrev pub is_offered_move : List AtomDefinition → List Local → Move → Bool
is_offered_move atoms states m = of_atom atoms states m.atom (λ a s. offers_number a s m.transition) false

-- what an atom's state offers are moves that it offers
offered-moves : (atoms : List AtomDefinition) (states : List Local) (p : Port) → list_all (is_offered_move atoms states) (moves_of atoms states p) ≡ true
offered-moves atoms states p = by-atom (slice_get atoms p.atom) refl
  where
    by-state : (a : AtomDefinition) → slice_get atoms p.atom ≡ Some a → (o : Option Local) → slice_get states p.atom ≡ o → list_all (is_offered_move atoms states) (option_map_or (λ s. map (move_of p.atom) (enabled a s p.port)) o []) ≡ true
    by-state a there None none = refl
    by-state a there (Some s) known =
        all-map (is_offered_move atoms states) (move_of p.atom) (enabled a s p.port)
        (all_weaker (offers_number a s) (λ t. is_offered_move atoms states (move_of p.atom t)) (λ t here. ap (λ o. option_map_or (λ b. option_map_or (λ z. offers_number b z t) (slice_get states p.atom) false) o false) there ∙ ap (λ o. option_map_or (λ z. offers_number a z t) o false) known ∙ here) (enabled a s p.port) (all-filter (offers_number a s) _))

    by-atom : (o : Option AtomDefinition) → slice_get atoms p.atom ≡ o → list_all (is_offered_move atoms states) (option_map_or (λ a. option_map_or (λ s. map (move_of p.atom) (enabled a s p.port)) (slice_get states p.atom) []) o []) ≡ true
    by-atom None none = refl
    by-atom (Some a) there = by-state a there (slice_get states p.atom) refl

-- what each element gives passes a test where all that an element can give does
all-flat_from : {X Y : Type 0} (f : Y → Bool) (give : ℕ → X → List Y) → ((n : ℕ) (x : X) → list_all f (give n x) ≡ true) → (n : ℕ) (xs : List X) → list_all f (flat_from give n xs) ≡ true
all-flat_from f give each n [] = refl
all-flat_from f give each n (x ∷ xs) = all-append f (give n x) (flat_from give (suc n) xs) (each n x) (all-flat_from f give each (suc n) xs)

-- each choice of a state has moves that are offered
pub offered-choices : (plant : PlantDefinition) (states : List Local) → list_all (λ c. list_all (is_offered_move plant.atoms states) c.moves) (choices plant states) ≡ true
offered-choices plant states = all-flat_from offered (choices_at plant states (plant_interactions plant)) each 0 (plant_interactions plant)
  where
    offered : ChoiceDefinition → Bool
    offered c = list_all (is_offered_move plant.atoms states) c.moves

    each-true : {X : Type 0} {f : X → Bool} → ((x : X) → f x ≡ true) → (xs : List X) → list_all f xs ≡ true
    each-true each [] = refl
    each-true {f = f} each (x ∷ xs) = and_from (f x) (list_all f xs) (each x) (each-true each xs)

    of-interaction : (i : Interaction) → list_all offered (choices_of plant.atoms states i) ≡ true
    of-interaction i =
        all-map offered (λ moves. record { connector = i.connector; mask = i.mask; moves = moves }) (combinations (map (moves_of plant.atoms states) i.ports)) (all-combinations (is_offered_move plant.atoms states) (map (moves_of plant.atoms states) i.ports) (all-map (list_all (is_offered_move plant.atoms states)) (moves_of plant.atoms states) i.ports (each-true (λ p. offered-moves plant.atoms states p) i.ports)))

    each : (n : ℕ) (i : Interaction) → list_all offered (choices_at plant states (plant_interactions plant) n i) ≡ true
    each n i =
        elim (is_allowed_at plant states (plant_interactions plant) n) as (λ b. list_all offered (cond b (choices_of plant.atoms states i) []) ≡ true) [
          | true ↦ of-interaction i
          | false ↦ refl
        ]
