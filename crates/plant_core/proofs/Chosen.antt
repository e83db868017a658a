-- Runs as a test, and as a fact.
use Rattle.std.proofs.Common.{◌≡◌, ◌==◌, ◌&&◌, ℕ, refl, ◌∙◌, ap, List, [], ◌∷◌, ◌++◌, true}
use Rattle.std.specs.List.{list_any}
use Rattle.std.proofs.lemmas.Bool.{and_parts, and_from, eq-eqb, eqb-true, false≢true}
use Rattle.std.proofs.lemmas.Map.Views.{Contains-from_any}
use Rattle.petri_atom.specs.Local.{Local}
use Rattle.plant_model.specs.Choice.{ChoiceDefinition, IsAllowed, choices}
use Rattle.plant_model.specs.Firing.{CanFire, FiringDefinition, choice_in, has_its_inputs}
use Rattle.plant_model.specs.Plant.{PlantDefinition}
use Rattle.plant_model.specs.Runs.{IsRun, fold}
use Rattle.plant_model.specs.Step.{next}
use Rattle.plant_model.specs.declared.choice.Move.{Move}
use Rattle.plant_model.proofs.Membership.{in-entry}
use Rattle.record_replay.proofs.OfPlants.{any-of}
use Rattle.plant_core.specs.Invariant.{are_same_moves, can_fire, is_run_from, is_same_choice, is_same_move}

-- a choice is the same as itself
same-moves : (ms : List Move) → are_same_moves ms ms ≡ true
same-moves [] = refl
same-moves (m ∷ ms) =
    and_from (is_same_move m m) (are_same_moves ms ms)
    (and_from (m.atom == m.atom) (m.transition == m.transition) (eq-eqb m.atom m.atom refl) (eq-eqb m.transition m.transition refl))
    (same-moves ms)

same-choice : (c : ChoiceDefinition) → is_same_choice c c ≡ true
same-choice c =
    and_from (c.connector == c.connector && c.mask == c.mask) (are_same_moves c.moves c.moves)
    (and_from (c.connector == c.connector) (c.mask == c.mask) (eq-eqb c.connector c.connector refl) (eq-eqb c.mask c.mask refl))
    (same-moves c.moves)

-- and as none but itself
move-is : (m n : Move) → is_same_move m n ≡ true → m ≡ n
move-is m n same =
    let both = and_parts (m.atom == n.atom) (m.transition == n.transition) same in
    ap (λ (a : ℕ). record m { atom = a }) (eqb-true m.atom n.atom both.0) ∙
    ap (λ (t : ℕ). record n { transition = t }) (eqb-true m.transition n.transition both.1)

moves-are : (ms ns : List Move) → are_same_moves ms ns ≡ true → ms ≡ ns
moves-are [] [] same = refl
moves-are [] (n ∷ ns) same = absurd (false≢true same)
moves-are (m ∷ ms) [] same = absurd (false≢true same)
moves-are (m ∷ ms) (n ∷ ns) same =
    let both = and_parts (is_same_move m n) (are_same_moves ms ns) same in
    ap (λ x. x ∷ ms) (move-is m n both.0) ∙ ap (λ xs. n ∷ xs) (moves-are ms ns both.1)

choice-is : (c d : ChoiceDefinition) → is_same_choice c d ≡ true → c ≡ d
choice-is c d same =
    let both = and_parts (c.connector == d.connector && c.mask == d.mask) (are_same_moves c.moves d.moves) same in
    let named = and_parts (c.connector == d.connector) (c.mask == d.mask) both.0 in
    ap (λ (k : ℕ). record c { connector = k }) (eqb-true c.connector d.connector named.0) ∙
    ap (λ (k : ℕ). record d { mask = k; moves = c.moves }) (eqb-true c.mask d.mask named.1) ∙
    ap (λ (ms : List Move). record d { moves = ms }) (moves-are c.moves d.moves both.1)

module _ (plant : PlantDefinition) where
  -- an allowed choice is found among the choices, and what is found is allowed
  found-allowed : (states : List Local) (c : ChoiceDefinition) → IsAllowed plant states c → list_any (is_same_choice c) (choices plant states) ≡ true
  found-allowed states c allowed =
      let there = in-entry (choices plant states) c allowed in
      any-of (is_same_choice c) (choices plant states) there.0 c there.1 (same-choice c)

  allowed-found : (states : List Local) (c : ChoiceDefinition) → list_any (is_same_choice c) (choices plant states) ≡ true → IsAllowed plant states c
  allowed-found states c found = Contains-from_any choice-is c (choices plant states) found

  -- what passes the test can be fired, and the other way round
  passes-fires : (states : List Local) (f : FiringDefinition) → can_fire plant states f ≡ true → CanFire plant states f
  passes-fires states f passes =
      let both = and_parts (list_any (is_same_choice (choice_in f)) (choices plant states)) (has_its_inputs plant f) passes in
      (allowed-found states (choice_in f) both.0, both.1)

  fires-passes : (states : List Local) (f : FiringDefinition) → CanFire plant states f → can_fire plant states f ≡ true
  fires-passes states f can = and_from (list_any (is_same_choice (choice_in f)) (choices plant states)) (has_its_inputs plant f) (found-allowed states (choice_in f) can.0) can.1

  -- so what passes the test is a run
  pub run-from : (fs : List FiringDefinition) (states : List Local) → is_run_from plant states fs ≡ true → IsRun plant states fs (fold plant states fs)
  run-from [] states passes = refl
  run-from (f ∷ fs) states passes =
      let both = and_parts (can_fire plant states f) (is_run_from plant (next plant states f) fs) passes in
      (passes-fires states f both.0, run-from fs (next plant states f) both.1)

  -- and a run goes on by what can be fired
  pub run-more : (fs : List FiringDefinition) (states : List Local) (f : FiringDefinition) → is_run_from plant states fs ≡ true → CanFire plant (fold plant states fs) f → is_run_from plant states (fs ++ f ∷ []) ≡ true
  run-more [] states f passes can = and_from (can_fire plant states f) true (fires-passes states f can) refl
  run-more (x ∷ xs) states f passes can =
      let both = and_parts (can_fire plant states x) (is_run_from plant (next plant states x) xs) passes in
      and_from (can_fire plant states x) (is_run_from plant (next plant states x) (xs ++ f ∷ [])) both.0
      (run-more xs (next plant states x) f both.1 can)

  -- and leads to the next state
  pub fold-more : (fs : List FiringDefinition) (states : List Local) (f : FiringDefinition) → next plant (fold plant states fs) f ≡ fold plant states (fs ++ f ∷ [])
  fold-more [] states f = refl
  fold-more (x ∷ xs) states f = fold-more xs (next plant states x) f
