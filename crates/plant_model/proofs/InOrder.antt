-- The choices of a state stand in their order.
use Rattle.std.proofs.Common.{◌≡◌, ◌⊎◌, inl, inr, ⊎_elim, ℕ, zero, suc, ◌+◌, ◌==◌, ◌<◌, ◌≤◌, refl, sym, ◌∙◌, ap, subst, List, [], ◌∷◌, length, map, get_or, Contains, AllPairs, nat_lt, arith, Bool, true, false, cond, ◌&&◌}
use Rattle.std.specs.Prelude.{Option, Some, None, slice_get, flat_map}
use Rattle.std.specs.Option.{option_map_or}
use Rattle.std.proofs.lemmas.Bool.{and_from, and_right, cases_lt, eq-eqb, false≢true, le-ltb, lt-ltb, or_from, or_left, or_right}
use Rattle.std.proofs.lemmas.List.Elements.{Contains-get_or}
use Rattle.std.proofs.lemmas.List.Kept.{AllPairs-cons, AllPairs-filter, AllPairs-from_increasing}
use Rattle.std.proofs.lemmas.Option.{get_or_from_slice_get, slice_get_within}
use Rattle.petri_atom.specs.Local.{Local}
use Rattle.petri_atom.specs.Definition.{AtomDefinition, TransitionDefinition, enabled, numbers_from, numbers_of, offers_number}
use Rattle.connector_tree.specs.Masks.{interactions_of, ports_of}
use Rattle.connector_tree.specs.PortSets.{is_port_set}
use Rattle.connector_tree.specs.Tree.{Tree, leaves}
use Rattle.connector_tree.specs.declared.tree.Port.{Port}
use Rattle.connector_tree.proofs.Filtered.{passing_rises}
use Rattle.plant_model.specs.Choice.{ChoiceDefinition, Interaction, choices, choices_of, combinations, flat_from, interaction_by, interactions_from, interactions_of_connector, is_allowed_at, move_of, moves_of, plant_interactions}
use Rattle.plant_model.specs.Laws.{IsBefore, comes_before, order_key}
use Rattle.plant_model.specs.Plant.{PlantDefinition, WireDefinition}
use Rattle.plant_model.specs.declared.choice.Move.{Move}
use Rattle.plant_model.proofs.Membership.{entry-in, from-flat_from, from-flat_map, from-map, here-or-later}
use Rattle.plant_model.proofs.OfInteractions.{from-wires, pairs-append}

-- ---- rows of numbers

-- behind equal numbers the others decide
same-then : (n : ℕ) (ms ns : List ℕ) → comes_before ms ns ≡ true → comes_before (n ∷ ms) (n ∷ ns) ≡ true
same-then n ms ns before = or_right (nat_lt n n) (n == n && comes_before ms ns) (and_from (n == n) (comes_before ms ns) (eq-eqb n n refl) before)

-- a lower number decides
lower-first : (m n : ℕ) (ms ns : List ℕ) → m < n → comes_before (m ∷ ms) (n ∷ ns) ≡ true
lower-first m n ms ns less = or_left (nat_lt m n) (m == n && comes_before ms ns) (lt-ltb m n less)

-- no row is before itself
not-itself : (ms : List ℕ) → comes_before ms ms ≡ false
not-itself [] = refl
not-itself (m ∷ ms) = or_from (nat_lt m m) (m == m && comes_before ms ms) (le-ltb m m (omega arith)) (and_right (m == m) (comes_before ms ms) (not-itself ms))

-- ---- pairs of lists that are made of others

-- an element and one that is in the rest
first-of-pair : {X : Type 0} (S : X → X → Type 0) (x : X) (xs : List X) → AllPairs S (x ∷ xs) → (y : X) → Contains xs y → S x y
first-of-pair S x xs all y at = subst (S x) at.2 (all zero (suc at.0) y (omega arith) (omega (arith, at.1)))

module _ {X Y : Type 0} where
  pairs-map : (R : Y → Y → Type 0) (f : X → Y) (xs : List X) → AllPairs (λ x y. R (f x) (f y)) xs → AllPairs R (map f xs)
  pairs-map R f [] all = λ i j d less within. absurd (omega (arith, within))
  pairs-map R f (x ∷ xs) all =
      AllPairs-cons R (f x) (map f xs)
      (λ k d within.
      let at = from-map f xs (get_or (map f xs) k d) (Contains-get_or (map f xs) k d within) in
      let place = at.1 in
      subst (R (f x)) at.2 (subst (λ z. R (f x) (f z)) place.2 (all zero (suc place.0) at.0 (omega arith) (omega (arith, place.1)))))
      (pairs-map R f xs (λ i j d less within. all (suc i) (suc j) d (omega (arith, less)) (omega (arith, within))))

  pairs-flat_map : (S : X → X → Type 0) (R : Y → Y → Type 0) (g : X → List Y) → ((x : X) → AllPairs R (g x)) → ((x y : X) (u v : Y) → S x y → Contains (g x) u → Contains (g y) v → R u v) → (xs : List X) → AllPairs S xs → AllPairs R (flat_map g xs)
  pairs-flat_map S R g own across [] all = λ i j d less within. absurd (omega (arith, within))
  pairs-flat_map S R g own across (x ∷ xs) all =
      pairs-append R (g x) (flat_map g xs) (own x)
      (pairs-flat_map S R g own across xs (λ i j d less within. all (suc i) (suc j) d (omega (arith, less)) (omega (arith, within))))
      (λ u v first second.
      let at = from-flat_map g xs v second in
      across x at.0 u v (first-of-pair S x xs all at.0 at.1) first at.2)

  pairs-flat_from : (S : X → X → Type 0) (R : Y → Y → Type 0) (g : ℕ → X → List Y) → ((n : ℕ) (x : X) → AllPairs R (g n x)) → ((m n : ℕ) (x y : X) (u v : Y) → S x y → Contains (g m x) u → Contains (g n y) v → R u v) → (n : ℕ) (xs : List X) → AllPairs S xs → AllPairs R (flat_from g n xs)
  pairs-flat_from S R g own across n [] all = λ i j d less within. absurd (omega (arith, within))
  pairs-flat_from S R g own across n (x ∷ xs) all =
      pairs-append R (g n x) (flat_from g (suc n) xs) (own n x)
      (pairs-flat_from S R g own across (suc n) xs (λ i j d less within. all (suc i) (suc j) d (omega (arith, less)) (omega (arith, within))))
      (λ u v first second.
      let at = from-flat_from g (suc n) xs v second in
      across n (suc n + at.0) x at.1 u v (first-of-pair S x xs all at.1 (entry-in xs at.0 at.1 at.2)) first at.3)

-- ---- the choices of an interaction

-- the numbers of a port's transitions rise
module _ (port : ℕ) where
  numbers-past : (n : ℕ) (ts : List TransitionDefinition) (k : ℕ) → Contains (numbers_from n port ts) k → n ≤ k
  numbers-past n [] k at = absurd (omega (arith, at.1))
  numbers-past n (t ∷ ts) k at = each (λ more. omega (arith, numbers-past (suc n) ts k more)) (t.port == port) at
    where
      each : (Contains (numbers_from (suc n) port ts) k → n ≤ k) → (b : Bool) → Contains (cond b (n ∷ numbers_from (suc n) port ts) (numbers_from (suc n) port ts)) k → n ≤ k
      each behind true in_it = ⊎_elim (λ is. omega (arith, is)) behind (here-or-later n (numbers_from (suc n) port ts) k in_it)
      each behind false in_it = behind in_it

  numbers-rise : (n : ℕ) (ts : List TransitionDefinition) → AllPairs (λ x y. x < y) (numbers_from n port ts)
  numbers-rise n [] = λ i j d less within. absurd (omega (arith, within))
  numbers-rise n (t ∷ ts) = each (numbers-rise (suc n) ts) (t.port == port)
    where
      each : AllPairs (λ x y. x < y) (numbers_from (suc n) port ts) → (b : Bool) → AllPairs (λ x y. x < y) (cond b (n ∷ numbers_from (suc n) port ts) (numbers_from (suc n) port ts))
      each rest true =
          AllPairs-cons (λ x y. x < y) n (numbers_from (suc n) port ts)
          (λ k d within. omega (arith, numbers-past (suc n) ts (get_or (numbers_from (suc n) port ts) k d) (Contains-get_or (numbers_from (suc n) port ts) k d within))) rest
      each rest false = rest

module _ (atoms : List AtomDefinition) (states : List Local) where
  abbrev IsLower : Move → Move → Type 0
  IsLower m n = m.transition < n.transition

  -- so do those of what an atom can do
  moves-rise : (p : Port) → AllPairs IsLower (moves_of atoms states p)
  moves-rise p = each (slice_get atoms p.atom) (slice_get states p.atom)
    where
      each : (o : Option AtomDefinition) (w : Option Local) → AllPairs IsLower (option_map_or (λ a. option_map_or (λ s. map (move_of p.atom) (enabled a s p.port)) w []) o [])
      each None w = λ i j d less within. absurd (omega (arith, within))
      each (Some a) None = λ i j d less within. absurd (omega (arith, within))
      each (Some a) (Some s) =
          pairs-map IsLower (move_of p.atom) (enabled a s p.port)
          (AllPairs-filter (λ x y. x < y) (offers_number a s) (numbers_of p.port a.transitions) (numbers-rise p.port 0 a.transitions))

  -- the transitions of a row of moves
  abbrev transitions : List Move → List ℕ
  transitions row = map (λ m. m.transition) row

  abbrev IsRowBefore : List Move → List Move → Type 0
  IsRowBefore row other = comes_before (transitions row) (transitions other) ≡ true

  -- rows of one move for each port, the last varying fastest
  rows-rise : (ports : List Port) → AllPairs IsRowBefore (combinations (map (moves_of atoms states) ports))
  rows-rise [] = λ i j d less within. absurd (omega (arith, less, within))
  rows-rise (p ∷ ps) =
      let rest = combinations (map (moves_of atoms states) ps) in
      pairs-flat_map IsLower IsRowBefore (λ x. map (λ row. x ∷ row) rest)
      (λ x. pairs-map IsRowBefore (λ row. x ∷ row) rest (weaker x rest (rows-rise ps)))
      (λ x y u v lower first second.
      let u_is = from-map (λ row. x ∷ row) rest u first in
      let v_is = from-map (λ row. y ∷ row) rest v second in
      subst (λ r. IsRowBefore r v) u_is.2 (subst (λ r. IsRowBefore (x ∷ u_is.0) r) v_is.2 (lower-first x.transition y.transition (transitions u_is.0) (transitions v_is.0) lower)))
      (moves_of atoms states p) (moves-rise p)
    where
      weaker : (x : Move) (rows : List (List Move)) → AllPairs IsRowBefore rows → AllPairs (λ r s. IsRowBefore (x ∷ r) (x ∷ s)) rows
      weaker x rows all i j d less within = same-then x.transition (transitions (get_or rows i d)) (transitions (get_or rows j d)) (all i j d less within)

  -- so stand the choices of an interaction
  own-order : (i : Interaction) → AllPairs IsBefore (choices_of atoms states i)
  own-order i =
      let rows = combinations (map (moves_of atoms states) i.ports) in
      pairs-map IsBefore (λ moves. record { connector = i.connector; mask = i.mask; moves = moves }) rows
      (λ j k d less within.
      let r = transitions (get_or rows j d) in
      let s = transitions (get_or rows k d) in
      same-then i.connector (i.mask ∷ r) (i.mask ∷ s) (same-then i.mask r s (rows-rise i.ports j k d less within)))

-- ---- the interactions of a plant

-- by connector, and then by mask
abbrev pub IsEarlier : Interaction → Interaction → Type 0
IsEarlier i j = (i.connector < j.connector) ⊎ ((i.connector ≡ j.connector) × (i.mask < j.mask))

-- an interaction of a connector has its number
own-connector : (n k : ℕ) (t : Tree) (i : Interaction) → Contains (interactions_of_connector n k t) i → i.connector ≡ k
own-connector n k t i at = ap (λ (x : Interaction). x.connector) (sym (from-map (interaction_by n k (leaves t)) (interactions_of t) i at).2)

masks-rise : (t : Tree) → AllPairs (λ x y. x < y) (interactions_of t)
masks-rise t = AllPairs-from_increasing (interactions_of t) (passing_rises (λ mask. is_port_set t (ports_of t mask)) _)

pub interactions-rise : (n k : ℕ) (ws : List WireDefinition) → AllPairs IsEarlier (interactions_from n k ws)
interactions-rise n k [] = λ i j d less within. absurd (omega (arith, within))
interactions-rise n k (w ∷ ws) =
    pairs-append IsEarlier (interactions_of_connector n k w.connector) (interactions_from n (suc k) ws)
    (pairs-map IsEarlier (interaction_by n k (leaves w.connector)) (interactions_of w.connector) (λ i j d less within. inr (refl, masks-rise w.connector i j d less within)))
    (interactions-rise n (suc k) ws)
    (λ i j first second.
    let later = from-wires n (suc k) ws j second in
    inl (omega (arith, own-connector n k w.connector i first, own-connector n (suc k + later.0) later.1.connector j later.3)))

-- ---- the choices of a state

-- the choices of those interactions that are kept, whichever they are
module _ (plant : PlantDefinition) (states : List Local) (kept : ℕ → Bool) where
  abbrev given : ℕ → Interaction → List ChoiceDefinition
  given n i = cond (kept n) (choices_of plant.atoms states i) []

  given-order : (n : ℕ) (i : Interaction) → AllPairs IsBefore (given n i)
  given-order n i = each (kept n)
    where
      each : (b : Bool) → AllPairs IsBefore (cond b (choices_of plant.atoms states i) [])
      each true = own-order plant.atoms states i
      each false = λ j k d less within. absurd (omega (arith, within))

  -- a choice of an interaction has its connector and its mask
  given-by : (n : ℕ) (i : Interaction) (c : ChoiceDefinition) → Contains (given n i) c → (moves : List Move) × (record { connector = i.connector; mask = i.mask; moves = moves } ≡ c)
  given-by n i c at = each (kept n) at
    where
      each : (b : Bool) → Contains (cond b (choices_of plant.atoms states i) []) c → (moves : List Move) × (record { connector = i.connector; mask = i.mask; moves = moves } ≡ c)
      each true in_it = let made = from-map (λ moves. record { connector = i.connector; mask = i.mask; moves = moves }) (combinations (map (moves_of plant.atoms states) i.ports)) c in_it in (made.0, made.2)
      each false in_it = absurd (omega (arith, in_it.1))

  earlier-before : (m n : ℕ) (i j : Interaction) (c d : ChoiceDefinition) → IsEarlier i j → Contains (given m i) c → Contains (given n j) d → IsBefore c d
  earlier-before m n i j c d earlier first second =
      let c_is = given-by m i c first in
      let d_is = given-by n j d second in
      let c_moves = map (λ (x : Move). x.transition) c_is.0 in
      let d_moves = map (λ (x : Move). x.transition) d_is.0 in
      let keys : comes_before (i.connector ∷ i.mask ∷ c_moves) (j.connector ∷ j.mask ∷ d_moves) ≡ true =
      ⊎_elim
      (λ less. lower-first i.connector j.connector (i.mask ∷ c_moves) (j.mask ∷ d_moves) less)
      (λ same. subst (λ k. comes_before (i.connector ∷ i.mask ∷ c_moves) (k ∷ j.mask ∷ d_moves) ≡ true) same.0 (same-then i.connector (i.mask ∷ c_moves) (j.mask ∷ d_moves) (lower-first i.mask j.mask c_moves d_moves same.1)))
      earlier in
      subst (λ e. IsBefore e d) c_is.1 (subst (λ e. comes_before (i.connector ∷ i.mask ∷ c_moves) (order_key e) ≡ true) d_is.1 keys)

  pub kept-rise : AllPairs IsBefore (flat_from (λ n i. cond (kept n) (choices_of plant.atoms states i) []) 0 (plant_interactions plant))
  kept-rise = pairs-flat_from IsEarlier IsBefore given given-order earlier-before 0 (plant_interactions plant) (interactions-rise (length plant.atoms) 0 plant.wires)

module _ (plant : PlantDefinition) (states : List Local) where
  -- each choice is before each later one
  pub choices-rise : AllPairs IsBefore (choices plant states)
  choices-rise = kept-rise plant states (is_allowed_at plant states (plant_interactions plant))

  -- so none stands at two places
  pub stands-once : (i j : ℕ) (c : ChoiceDefinition) → slice_get (choices plant states) i ≡ Some c → slice_get (choices plant states) j ≡ Some c → i ≡ j
  stands-once i j c first second =
      ⊎_elim
      (λ less. absurd (never i j first second less))
      (λ past. ⊎_elim
      (λ less. absurd (never j i second first less))
      (λ past'. omega (arith, past, past'))
      (cases_lt j i))
      (cases_lt i j)
    where
      never : (k l : ℕ) → slice_get (choices plant states) k ≡ Some c → slice_get (choices plant states) l ≡ Some c → k < l → ⊥
      never k l one other less =
          let before = choices-rise k l c less (slice_get_within (choices plant states) l c other) in
          let same : IsBefore c c =
          subst (λ e. IsBefore e c) (get_or_from_slice_get (choices plant states) k c c one)
          (subst (λ e. IsBefore (get_or (choices plant states) k c) e) (get_or_from_slice_get (choices plant states) l c c other) before) in
          false≢true (sym (not-itself (order_key c)) ∙ same)
