-- No two moves of an allowed choice are of one atom, since no two leaves of a connector are.
use Rattle.std.proofs.Common.{◌≡◌, ◌≢◌, ℕ, zero, suc, ◌+◌, ◌==◌, ◌<◌, ◌≤◌, refl, sym, ◌∙◌, ap, subst, List, [], ◌∷◌, ◌++◌, length, map, filter, take, get_or, arith, Bool, true, false, cond, ⊎_elim}
use Rattle.std.specs.Prelude.{Option, Some, None, slice_get, find, flat_map, nat_le}
use Rattle.std.specs.List.{list_all, list_any}
use Rattle.std.specs.Option.{option_map_or}
use Rattle.std.proofs.lemmas.Bool.{and_parts, and_from, or_parts, cases_eq, eq-eqb, ne_eqb, eqb-true, leb-true, le-leb, false≢true}
use Rattle.std.proofs.lemmas.List.{map-append}
use Rattle.std.proofs.lemmas.Option.{slice_get_within, get_or_from_slice_get}
use Rattle.petri_atom.specs.Local.{Local}
use Rattle.petri_atom.specs.Definition.{AtomDefinition, enabled}
use Rattle.connector_tree.specs.Faults.{has_repeat, atoms}
use Rattle.connector_tree.specs.Masks.{interactions_of, chosen, is_set}
use Rattle.connector_tree.specs.Tree.{leaves}
use Rattle.connector_tree.specs.declared.tree.Port.{Port}
use Rattle.connector_tree.proofs.Sound.{sound}
use Rattle.plant_model.specs.Choice.{Interaction, ChoiceDefinition, IsAllowed, by_atom, choices, choices_at, choices_of, combinations, flat_from, interaction_by, interactions_from, interactions_of_connector, is_allowed_at, move_of, moves_of, plant_interactions}
use Rattle.plant_model.specs.Delivery.{AreApart}
use Rattle.plant_model.specs.Plant.{PlantDefinition, WireDefinition}
use Rattle.plant_model.specs.Rules.{early_fault, fault_of, fault_of_order, first_of, first_fault_in, late_fault, tree_fault}
use Rattle.plant_model.specs.declared.choice.Move.{Move}
use Rattle.plant_model.proofs.Stepping.{all-at, all-append, all-map, no_move}
use Rattle.plant_model.proofs.TreeRules.{early_trees, first_none, second_none, tree_none}

-- how often a number is in a list
abbrev times : ℕ → List ℕ → ℕ
times a [] = 0
times a (n ∷ ns) = cond (n == a) 1 0 + times a ns

-- it is there at most once
abbrev once : ℕ → List ℕ → Bool
once a ns = nat_le (times a ns) 1

times-append : (a : ℕ) (ms ns : List ℕ) → times a (ms ++ ns) ≡ times a ms + times a ns
times-append a [] ns = omega arith
times-append a (m ∷ ms) ns = omega (arith, times-append a ms ns)

-- where no number stands twice
times-none : (n a : ℕ) (ns : List ℕ) → list_any (λ m. n == m) ns ≡ false → n ≡ a → times a ns ≡ 0
times-none n a [] none same = refl
times-none n a (m ∷ ms) none same =
    let parts = or_parts (n == m) (list_any (λ j. n == j) ms) none in
    let other : m ≢ a = λ its. false≢true (sym parts.0 ∙ eq-eqb n m (same ∙ sym its)) in
    ap (λ b. cond b 1 0 + times a ms) (ne_eqb m a other) ∙ omega (arith, times-none n a ms parts.1 same)

times-once : (a : ℕ) (ns : List ℕ) → has_repeat ns ≡ false → times a ns ≤ 1
times-once a [] none = omega arith
times-once a (n ∷ ns) none =
    let parts = or_parts (list_any (λ m. n == m) ns) (has_repeat ns) none in
    ⊎_elim
    (λ same. omega (arith, ap {B = ℕ} (λ b. cond b 1 0) (eq-eqb n a same), times-none n a ns parts.0 same))
    (λ other. omega (arith, ap {B = ℕ} (λ b. cond b 1 0) (ne_eqb n a other), times-once a ns parts.1))
    (cases_eq n a)

-- the ports of a mask, and of one atom, have an atom at most as often as the leaves
times-chosen : (a mask j : ℕ) (ps : List Port) → times a (atoms (chosen mask j ps)) ≤ times a (atoms ps)
times-chosen a mask j [] = omega arith
times-chosen a mask j (p ∷ ps) =
    elim (is_set mask j) as (λ b. times a (atoms (cond b (p ∷ chosen mask (j + 1) ps) (chosen mask (j + 1) ps))) ≤ times a (atoms (p ∷ ps))) [
      | true ↦ omega (arith, times-chosen a mask (j + 1) ps)
      | false ↦ omega (arith, times-chosen a mask (j + 1) ps)
    ]

times-same : (a : ℕ) (ps : List Port) → times a (atoms (filter (λ p. p.atom == a) ps)) ≤ times a (atoms ps)
times-same a [] = omega arith
times-same a (p ∷ ps) =
    elim (p.atom == a) as (λ b. times a (atoms (cond b (p ∷ filter (λ q. q.atom == a) ps) (filter (λ q. q.atom == a) ps))) ≤ cond (p.atom == a) 1 0 + times a (atoms ps)) [
      | true ↦ omega (arith, times-same a ps)
      | false ↦ omega (arith, times-same a ps)
    ]

times-other : (a n : ℕ) → n ≢ a → (ps : List Port) → times a (atoms (filter (λ p. p.atom == n) ps)) ≡ 0
times-other a n apart [] = refl
times-other a n apart (p ∷ ps) = each (times-other a n apart ps) (p.atom == n) refl
  where
    each : times a (atoms (filter (λ q. q.atom == n) ps)) ≡ 0 → (b : Bool) → (p.atom == n) ≡ b → times a (atoms (cond b (p ∷ filter (λ q. q.atom == n) ps) (filter (λ q. q.atom == n) ps))) ≡ 0
    each later true its = ap (λ b. cond b 1 0 + times a (atoms (filter (λ q. q.atom == n) ps))) (ne_eqb p.atom a (λ same. apart (sym (eqb-true p.atom n its) ∙ same))) ∙ omega (arith, later)
    each later false its = later

times-by_atom : (a n : ℕ) (ps : List Port) → (times a (atoms (by_atom n ps)) ≤ times a (atoms ps)) × (n ≤ a → times a (atoms (by_atom n ps)) ≡ 0)
times-by_atom a zero ps = (omega arith, λ _. refl)
times-by_atom a (suc n) ps =
    let before = times-by_atom a n ps in
    let sum : times a (atoms (by_atom (suc n) ps)) ≡ times a (atoms (by_atom n ps)) + times a (atoms (filter (λ p. p.atom == n) ps)) =
    ap (times a) (map-append (λ p. p.atom) (by_atom n ps) (filter (λ p. p.atom == n) ps)) ∙ times-append a (atoms (by_atom n ps)) (atoms (filter (λ p. p.atom == n) ps)) in
    ⊎_elim
    (λ same.
    let first : times a (atoms (by_atom n ps)) ≡ 0 = before.1 (omega arith) in
    let rest : times a (atoms (filter (λ p. p.atom == n) ps)) ≤ times a (atoms ps) = subst (λ k. times a (atoms (filter (λ p. p.atom == k) ps)) ≤ times a (atoms ps)) (sym same) (times-same a ps) in
    (omega arith, λ past. absurd (omega arith)))
    (λ apart.
    let rest : times a (atoms (filter (λ p. p.atom == n) ps)) ≡ 0 = times-other a n apart ps in
    (omega (arith, before.0), λ past. omega (arith, before.1 (omega arith))))
    (cases_eq n a)

module _ (a : ℕ) where
  -- of each interaction of sound connectors
  of-connectors : (n k : ℕ) (ws : List WireDefinition) → first_fault_in tree_fault k ws ≡ None → list_all (λ i. once a (atoms i.ports)) (interactions_from n k ws) ≡ true
  of-connectors n k [] none = refl
  of-connectors n k (w ∷ ws) none =
      all-append (λ i. once a (atoms i.ports)) (interactions_of_connector n k w.connector) (interactions_from n (suc k) ws)
      (all-map (λ i. once a (atoms i.ports)) (interaction_by n k (leaves w.connector)) (interactions_of w.connector) (each (interactions_of w.connector)))
      (of-connectors n (suc k) ws (second_none (tree_fault k w) (first_fault_in tree_fault (suc k) ws) none))
    where
      its : (mask : ℕ) → once a (atoms (by_atom n (chosen mask 0 (leaves w.connector)))) ≡ true
      its mask =
          let whole = tree_none k _ (first_none (tree_fault k w) (first_fault_in tree_fault (suc k) ws) none) in
          le-leb _ 1 (omega (arith, (times-by_atom a n (chosen mask 0 (leaves w.connector))).0, times-chosen a mask 0 (leaves w.connector), times-once a (atoms (leaves w.connector)) (sound w.connector whole).distinct_atoms))

      each : (masks : List ℕ) → list_all (λ mask. once a (atoms (by_atom n (chosen mask 0 (leaves w.connector))))) masks ≡ true
      each [] = refl
      each (mask ∷ masks) = and_from (once a (atoms (by_atom n (chosen mask 0 (leaves w.connector))))) _ (its mask) (each masks)

-- the atoms of moves
abbrev atoms_of : List Move → List ℕ
atoms_of moves = map (λ m. m.atom) moves

-- what the atom of a port can do are moves of that atom
own-moves : (defs : List AtomDefinition) (states : List Local) (p : Port) → list_all (λ m. m.atom == p.atom) (moves_of defs states p) ≡ true
own-moves defs states p = by-atom (slice_get defs p.atom)
  where
    own : (ts : List ℕ) → list_all (λ m. m.atom == p.atom) (map (move_of p.atom) ts) ≡ true
    own [] = refl
    own (t ∷ ts) = and_from (p.atom == p.atom) _ (eq-eqb p.atom p.atom refl) (own ts)

    by-state : (a : AtomDefinition) (o : Option Local) → list_all (λ m. m.atom == p.atom) (option_map_or (λ s. map (move_of p.atom) (enabled a s p.port)) o []) ≡ true
    by-state a None = refl
    by-state a (Some s) = own (enabled a s p.port)

    by-atom : (o : Option AtomDefinition) → list_all (λ m. m.atom == p.atom) (option_map_or (λ a. option_map_or (λ s. map (move_of p.atom) (enabled a s p.port)) (slice_get states p.atom) []) o []) ≡ true
    by-atom None = refl
    by-atom (Some a) = by-state a (slice_get states p.atom)

-- the moves of a row are of the atoms of the ports, so that what is told of these atoms is told of those
of-rows : (defs : List AtomDefinition) (states : List Local) (tell : List ℕ → Bool) (ports : List Port) → tell (atoms ports) ≡ true → list_all (λ row. tell (atoms_of row)) (combinations (map (moves_of defs states) ports)) ≡ true
of-rows defs states tell [] told = and_from (tell []) true told refl
of-rows defs states tell (p ∷ ps) told = each (λ f here. of-rows defs states f ps here) (moves_of defs states p) (own-moves defs states p)
  where
    each : ((f : List ℕ → Bool) → f (atoms ps) ≡ true → list_all (λ row. f (atoms_of row)) (combinations (map (moves_of defs states) ps)) ≡ true) → (xs : List Move) → list_all (λ m. m.atom == p.atom) xs ≡ true → list_all (λ row. tell (atoms_of row)) (flat_map (λ x. map (λ row. x ∷ row) (combinations (map (moves_of defs states) ps))) xs) ≡ true
    each later [] own = refl
    each later (x ∷ xs) own =
        let parts = and_parts (x.atom == p.atom) (list_all (λ m. m.atom == p.atom) xs) own in
        all-append (λ row. tell (atoms_of row)) (map (λ row. x ∷ row) (combinations (map (moves_of defs states) ps))) _
        (all-map (λ row. tell (atoms_of row)) (λ row. x ∷ row) (combinations (map (moves_of defs states) ps))
        (later (λ ns. tell (x.atom ∷ ns)) (ap (λ n. tell (n ∷ atoms ps)) (eqb-true x.atom p.atom parts.0) ∙ told)))
        (each later xs parts.1)

-- what each element gives passes a test where the element passes one
all-given : {X Y : Type 0} (h : X → Bool) (f : Y → Bool) (give : ℕ → X → List Y) → ((n : ℕ) (x : X) → h x ≡ true → list_all f (give n x) ≡ true) → (n : ℕ) (xs : List X) → list_all h xs ≡ true → list_all f (flat_from give n xs) ≡ true
all-given h f give each n [] all = refl
all-given h f give each n (x ∷ xs) all =
    let parts = and_parts (h x) (list_all h xs) all in
    all-append f (give n x) (flat_from give (suc n) xs) (each n x parts.0) (all-given h f give each (suc n) xs parts.1)

-- each choice of a state of a plant that keeps its rules has an atom at most once
of-choices : (plant : PlantDefinition) (states : List Local) (a : ℕ) → fault_of plant ≡ None → list_all (λ c. once a (atoms_of c.moves)) (choices plant states) ≡ true
of-choices plant states a valid =
    all-given (λ i. once a (atoms i.ports)) told (choices_at plant states (plant_interactions plant)) each 0 (plant_interactions plant)
    (of-connectors a (length plant.atoms) 0 plant.wires (early_trees plant (first_none (early_fault plant) (first_of (late_fault plant) (fault_of_order plant)) valid)))
  where
    told : ChoiceDefinition → Bool
    told c = once a (atoms_of c.moves)

    of-interaction : (i : Interaction) → once a (atoms i.ports) ≡ true → list_all told (choices_of plant.atoms states i) ≡ true
    of-interaction i single =
        all-map told (λ moves. record { connector = i.connector; mask = i.mask; moves = moves }) (combinations (map (moves_of plant.atoms states) i.ports)) (of-rows plant.atoms states (once a) i.ports single)

    each : (n : ℕ) (i : Interaction) → once a (atoms i.ports) ≡ true → list_all told (choices_at plant states (plant_interactions plant) n i) ≡ true
    each n i single =
        elim (is_allowed_at plant states (plant_interactions plant) n) as (λ b. list_all told (cond b (choices_of plant.atoms states i) []) ≡ true) [
          | true ↦ of-interaction i single
          | false ↦ refl
        ]

-- of moves that have an atom once, none before the one that has it is of it
none-before : (a : ℕ) (moves : List Move) (k : ℕ) (d : Move) → times a (atoms_of moves) ≤ 1 → k < length moves → (get_or moves k d).atom ≡ a → find (λ m. m.atom == a) (take k moves) ≡ None
none-before a [] k d few within is = absurd (omega arith)
none-before a (m ∷ ms) zero d few within is = refl
none-before a (m ∷ ms) (suc k) d few within is = each (λ fewer. none-before a ms k d fewer (omega arith) is) (m.atom == a) refl
  where
    some : (ns : List Move) (i : ℕ) → i < length ns → (get_or ns i d).atom ≡ a → 1 ≤ times a (atoms_of ns)
    some [] i below its = absurd (omega arith)
    some (n ∷ ns) zero below its = omega (arith, ap {B = ℕ} (λ b. cond b 1 0) (eq-eqb n.atom a its))
    some (n ∷ ns) (suc i) below its = omega (arith, some ns i (omega arith) its)

    each : (times a (atoms_of ms) ≤ 1 → find (λ j. j.atom == a) (take k ms) ≡ None) → (b : Bool) → (m.atom == a) ≡ b → cond b (Some m) (find (λ j. j.atom == a) (take k ms)) ≡ None
    each later true told = absurd (omega (arith, ap {B = ℕ} (λ b. cond b 1 0) told, some ms k (omega arith) is))
    each later false told = later (omega arith)

-- no move before one of an allowed choice is of the same atom
pub no-earlier : (plant : PlantDefinition) (states : List Local) (c : ChoiceDefinition) → fault_of plant ≡ None → IsAllowed plant states c → (moves : List Move) → moves ≡ c.moves → (k : ℕ) (d : Move) → k < length moves → (a : ℕ) → a ≡ (get_or moves k d).atom → find (λ m. m.atom == a) (take k moves) ≡ None
no-earlier plant states c valid allowed moves lent k d within a is =
    let all = all-at (λ e. once a (atoms_of e.moves)) (choices plant states) allowed.0 c (of-choices plant states a valid) allowed.1 in
    let single : once a (atoms_of moves) ≡ true = ap (λ ms. once a (atoms_of ms)) lent ∙ ap (λ e. once a (atoms_of e.moves)) (sym allowed.2) ∙ all in
    none-before a moves k d (leb-true _ 1 single) within (sym is)

-- so no two of its moves are of one atom
pub are-apart : (plant : PlantDefinition) (states : List Local) (c : ChoiceDefinition) → fault_of plant ≡ None → IsAllowed plant states c → AreApart c.moves
are-apart plant states c valid allowed place m there =
    no-earlier plant states c valid allowed c.moves refl place no_move (slice_get_within c.moves place m there) m.atom (sym (ap (λ k. k.atom) (get_or_from_slice_get c.moves place m no_move there)))
