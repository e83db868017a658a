-- The states while a choice is fired, move by move.
use Rattle.std.proofs.Common.{◌≡◌, ◌≢◌, ℕ, suc, ◌+◌, ◌==◌, ◌<◌, refl, sym, ◌∙◌, ap, subst, List, [], ◌∷◌, ◌++◌, length, map, take, get_or, set, arith, true, false, cond, ⊎_elim, get_or-set_same, get_or-set_other}
use Rattle.std.specs.Prelude.{Option, Some, None, slice_get, find}
use Rattle.std.specs.List.{list_all}
use Rattle.std.specs.Option.{option_map_or, option_or}
use Rattle.std.proofs.lemmas.Bool.{cases_eq, cases_lt, eq-eqb, ne_eqb, false≢true}
use Rattle.std.proofs.lemmas.List.{length-map, take_more, length-set, same_lists, get_or_default}
use Rattle.std.proofs.lemmas.List.Folds.{find-append}
use Rattle.std.proofs.lemmas.Option.{slice_get-get_or, slice_get_within, slice_get_past, get_or_from_slice_get, same_Some}
use Rattle.petri_atom.specs.Atom.{definition_of}
use Rattle.petri_atom.specs.Local.{Local, Row}
use Rattle.petri_atom.specs.Definition.{AtomDefinition, Fits, fired, offers_number}
use Rattle.petri_atom.specs.declared.atom.Atom.{Atom}
use Rattle.plant_model.specs.Choice.{ChoiceDefinition, IsAllowed, choices}
use Rattle.plant_model.specs.Fitting.{AllFit}
use Rattle.plant_model.specs.Plant.{PlantDefinition, of_atom}
use Rattle.plant_model.specs.Step.{moved_by, stepped, stepped_from}
use Rattle.plant_model.specs.declared.choice.Move.{Move}
use Rattle.plant_model.proofs.Judging.{atom-there}
use Rattle.plant_model.proofs.FirstFault.{or_none}
use Rattle.plant_model.proofs.Stepping.{no_move, length-stepped, stepped-at, all-at, is_offered_move, offered-choices}

-- before the first move nothing has changed
pub none-fired : (atoms : List AtomDefinition) (d : ℕ → Row) (n : ℕ) (states : List Local) → stepped_from atoms [] d n states ≡ states
none-fired atoms d n [] = refl
none-fired atoms d n (s ∷ states) = ap (λ x. x ∷ stepped_from atoms [] d (suc n) states) (each (slice_get atoms n)) ∙ ap (λ xs. s ∷ xs) (none-fired atoms d (suc n) states)
  where
    each : (o : Option AtomDefinition) → option_map_or (λ a. s) o s ≡ s
    each None = refl
    each (Some a) = refl

-- each move of an allowed choice is offered
pub offered-at : (plant : PlantDefinition) (old : List Local) (c : ChoiceDefinition) (moves : List Move) (k : ℕ) → moves ≡ c.moves → IsAllowed plant old c → k < length moves → is_offered_move plant.atoms old (get_or moves k no_move) ≡ true
offered-at plant old c moves k lent allowed within =
    let all = all-at (λ d. list_all (is_offered_move plant.atoms old) d.moves) (choices plant old) allowed.0 c (offered-choices plant old) allowed.1 in
    let offered = ap (λ d. list_all (is_offered_move plant.atoms old) d.moves) (sym allowed.2) ∙ all in
    all-at (is_offered_move plant.atoms old) moves k no_move (ap (list_all (is_offered_move plant.atoms old)) lent ∙ offered) within

-- a move that is offered is of an atom of the plant
pub atom-within : (atoms : List AtomDefinition) (states : List Local) (m : Move) → is_offered_move atoms states m ≡ true → m.atom < length atoms
atom-within atoms states m offered = ⊎_elim
    (λ within. within)
    (λ past. absurd (false≢true (sym (ap (λ o. option_map_or (λ a. option_map_or (λ s. offers_number a s m.transition) (slice_get states m.atom) false) o false) (slice_get_past atoms m.atom past)) ∙ offered)))
    (cases_lt m.atom (length atoms))

-- the states after the first moves, and the next move, whose atom none of them is of
module _ (atoms : List Atom) (old : List Local) (moves : List Move) (d : ℕ → Row) (as_many : length old ≡ length (map definition_of atoms)) (k n : ℕ) (more : k < length moves) (same : n ≡ (get_or moves k no_move).atom) (fresh : find (λ j. j.atom == n) (take k moves) ≡ None) (atom : Atom) (within : n < length atoms) (here : atom ≡ get_or atoms n atom) where
  abbrev after : ℕ → List Local
  after i = stepped_from (map definition_of atoms) (take i moves) d 0 old

  abbrev m : Move
  m = get_or moves k no_move

  inside : n < length old
  inside = omega (arith, as_many, length-map atoms definition_of)

  after-at : (i j : ℕ) (x : Local) → j < length old → get_or (after i) j x ≡ stepped (map definition_of atoms) (take i moves) d j (get_or old j x)
  after-at i j x below =
      stepped-at (map definition_of atoms) (take i moves) d 0 j old x below ∙ ap (λ a. stepped (map definition_of atoms) (take i moves) d a (get_or old j x)) (omega arith)

  moved-here : (i : ℕ) (s : Local) → stepped (map definition_of atoms) (take i moves) d n s ≡ moved_by (definition_of atom) (take i moves) (d n) n s
  moved-here i s = ap (λ o. option_map_or (λ a. moved_by a (take i moves) (d n) n s) o s) (atom-there atoms n atom within here)

  longer : take (k + 1) moves ≡ take k moves ++ m ∷ []
  longer = take_more moves k no_move more

  module _ (now : Local) (there : now ≡ get_or (after k) n now) where
    -- its atom's state is still the one from before
    still : now ≡ get_or old n now
    still =
        there ∙ after-at k n now inside ∙ moved-here k (get_or old n now) ∙
        ap (λ o. option_map_or (λ j. fired (definition_of atom) j.transition (d n) (get_or old n now)) o (get_or old n now)) fresh

    -- which offers its transition
    pub offered-here : is_offered_move (map definition_of atoms) old m ≡ true → offers_number (definition_of atom) now m.transition ≡ true
    offered-here offered =
        let known : slice_get old n ≡ Some now = slice_get-get_or old n now inside ∙ ap Some (sym still) in
        sym (ap (λ i. of_atom (map definition_of atoms) old i (λ a s. offers_number a s m.transition) false) (sym same) ∙
        ap (λ o. option_map_or (λ a. option_map_or (λ s. offers_number a s m.transition) (slice_get old n) false) o false) (atom-there atoms n atom within here) ∙
        ap (λ o. option_map_or (λ s. offers_number (definition_of atom) s m.transition) o false) known) ∙
        offered

    -- with the state that its atom gets, one move more has been made
    pub fired-here : (new : Local) → new ≡ fired (definition_of atom) m.transition (d n) now → set (after k) n new ≡ after (k + 1)
    fired-here new told =
        same_lists (set (after k) n new) (after (k + 1)) (length-set (after k) n new ∙ long k ∙ sym (long (k + 1)))
        (λ j x below. ⊎_elim (λ its. one j x its) (λ other. others j x other (subst (λ z. j < z) (length-set (after k) n new ∙ long k) below)) (cases_eq j n))
      where
        long : (i : ℕ) → length (after i) ≡ length old
        long i = length-stepped (map definition_of atoms) (take i moves) d 0 old

        is : find (λ j. j.atom == n) (take (k + 1) moves) ≡ Some m
        is =
            ap (find (λ j. j.atom == n)) longer ∙ find-append (λ j. j.atom == n) (take k moves) (m ∷ []) ∙
            ap (λ o. option_or o (cond (m.atom == n) (Some m) None)) fresh ∙ ap (λ b. cond b (Some m) None) (eq-eqb m.atom n (sym same))

        is_not : (j : ℕ) → j ≢ n → find (λ i. i.atom == j) (take (k + 1) moves) ≡ find (λ i. i.atom == j) (take k moves)
        is_not j other =
            ap (find (λ i. i.atom == j)) longer ∙ find-append (λ i. i.atom == j) (take k moves) (m ∷ []) ∙
            ap (λ b. option_or (find (λ i. i.atom == j) (take k moves)) (cond b (Some m) None)) (ne_eqb m.atom j (λ its. other (sym its ∙ sym same))) ∙
            or_none (find (λ i. i.atom == j) (take k moves))

        one : (j : ℕ) (x : Local) → j ≡ n → get_or (set (after k) n new) j x ≡ get_or (after (k + 1)) j x
        one j x its =
            let was : now ≡ get_or old n x = still ∙ get_or_default old n now x inside in
            ap (λ i. get_or (set (after k) n new) i x) its ∙ get_or-set_same (after k) n new x (omega (arith, inside, long k)) ∙
            told ∙ ap (fired (definition_of atom) m.transition (d n)) was ∙
            sym (ap (λ i. get_or (after (k + 1)) i x) its ∙ after-at (k + 1) n x inside ∙ moved-here (k + 1) (get_or old n x) ∙
            ap (λ o. option_map_or (λ i. fired (definition_of atom) i.transition (d n) (get_or old n x)) o (get_or old n x)) is)

        others : (j : ℕ) (x : Local) → j ≢ n → j < length old → get_or (set (after k) n new) j x ≡ get_or (after (k + 1)) j x
        others j x other below =
            get_or-set_other (after k) n j new x other ∙ after-at k j x below ∙
            sym (after-at (k + 1) j x below ∙
            ap (λ o. option_map_or (λ a. option_map_or (λ i. fired a i.transition (d j) (get_or old j x)) o (get_or old j x)) (slice_get (map definition_of atoms) j) (get_or old j x)) (is_not j other))

-- where one atom's state goes on to fit, and the others stay, all fit on
pub fits-here : (plant : PlantDefinition) (items : List Local) (n : ℕ) (a : AtomDefinition) (now new : Local) → slice_get plant.atoms n ≡ Some a → n < length items → now ≡ get_or items n now → (Fits a now → Fits a new) → AllFit plant items → AllFit plant (set items n new)
fits-here plant items n atom now new its placed read kept fit k a s known state = ⊎_elim one others (cases_eq k n)
  where
    was : slice_get items n ≡ Some now
    was = slice_get-get_or items n now placed ∙ ap Some (sym read)

    bound : k < length items
    bound = omega (arith, slice_get_within (set items n new) k s state, length-set items n new)

    value : get_or (set items n new) k s ≡ s
    value = get_or_from_slice_get (set items n new) k s s state

    one : k ≡ n → Fits a s
    one same =
        let new_one : new ≡ s = sym (ap (λ j. get_or (set items n new) j s) same ∙ get_or-set_same items n new s placed) ∙ value in
        let its_atom : atom ≡ a = same_Some atom a (sym its ∙ ap (slice_get plant.atoms) (sym same) ∙ known) in
        subst (λ b. Fits b s) its_atom (subst (Fits atom) new_one (kept (fit n atom now its was)))

    others : k ≢ n → Fits a s
    others other =
        fit k a s known (slice_get-get_or items k s bound ∙ ap Some (sym (get_or-set_other items n k new s other) ∙ value))
