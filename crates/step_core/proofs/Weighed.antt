-- The weights of all connectors together are how many choices there are; and how many that can be.
use Rattle.std.proofs.Common.{◌≡◌, ℕ, zero, suc, ◌+◌, ◌*◌, ◌==◌, ◌<◌, ◌≤◌, ◌^◌, refl, sym, ◌∙◌, ap, subst, List, [], ◌∷◌, ◌++◌, length, map, filter, nat_lt, arith, le_trans, pow_mono, Bool, true, false, cond, ◌&&◌, ◌||◌, ⊎_elim}
use Rattle.std.specs.Prelude.{Some, None, Option, slice_get, slice_index_or}
use Rattle.std.specs.Option.{option_map_or}
use Rattle.std.specs.List.{list_all}
use Rattle.std.proofs.lemmas.Bool.{and_parts, cases_eq, cases_lt, eq-eqb, ne_eqb, leb-true, le-ltb, lt-ltb}
use Rattle.std.proofs.lemmas.List.{length-append, length-map}
use Rattle.std.proofs.lemmas.Option.{slice_get_within}
use Rattle.petri_atom.specs.Definition.{AtomDefinition, TransitionDefinition, enabled, is_well_formed, offers_number, is_within_limits as is_atom_within_limits, numbers_from, numbers_of}
use Rattle.petri_atom.specs.Local.{Local}
use Rattle.petri_atom.specs.declared.parts.TheConstants.{MAX_TRANSITIONS}
use Rattle.connector_tree.specs.declared.tree.Port.{Port}
use Rattle.plant_model.specs.Choice.{Interaction, choices_of, combinations, flat_from, move_of, moves_of, plant_interactions}
use Rattle.plant_model.specs.ConnectorRows.{is_before}
use Rattle.plant_model.specs.Laws.{IsInteractionOf}
use Rattle.plant_model.specs.System.{interactions_in, plant_of}
use Rattle.plant_model.specs.declared.limits.TheConstants.{MAX_INTERACTIONS}
use Rattle.plant_model.specs.declared.system.System.{System}
use Rattle.plant_model.proofs.Combinations.{length-rows, product-bound}
use Rattle.plant_model.proofs.Membership.{all-in, entry-in}
use Rattle.plant_model.proofs.OfInteractions.{interaction-of, within-limits}
use Rattle.plant_model.proofs.RulesKept.{well_formed}
use Rattle.step_core.specs.ChoicesIn.{choices_in, choices_where}
use Rattle.step_core.specs.Weights.{AreWeights, is_kept_of, sum_of, weight_of}

-- ---- two sets that make up a third

-- a number is in the third where it is in one of them, and in no case in both
abbrev pub IsSplit : Bool → Bool → Bool → Type 0
IsSplit one other both = (both ≡ (one || other)) × ((one && other) ≡ false)

module _ (atoms : List AtomDefinition) (states : List Local) where
  one-split : (i : Interaction) (one other both : Bool) → IsSplit one other both → length (cond both (choices_of atoms states i) []) ≡ length (cond one (choices_of atoms states i) []) + length (cond other (choices_of atoms states i) [])
  one-split i true true both split = absurd (cc)
  one-split i true false both split = ap (λ b. length (cond b (choices_of atoms states i) [])) split.0 ∙ omega arith
  one-split i false true both split = ap (λ b. length (cond b (choices_of atoms states i) [])) split.0 ∙ omega arith
  one-split i false false both split = ap (λ b. length (cond b (choices_of atoms states i) [])) split.0 ∙ omega arith

  -- there are as many choices as of both
  pub length-split : (one other both : ℕ → Bool) (n : ℕ) (xs : List Interaction) → ((m : ℕ) (i : Interaction) → slice_get xs m ≡ Some i → IsSplit (one (n + m)) (other (n + m)) (both (n + m)))
      → length (flat_from (choices_where atoms states both) n xs) ≡ length (flat_from (choices_where atoms states one) n xs) + length (flat_from (choices_where atoms states other) n xs)
  length-split one other both n [] split = refl
  length-split one other both n (x ∷ xs) split =
      let start : n + 0 ≡ n = omega arith in
      let here : length (choices_where atoms states both n x) ≡ length (choices_where atoms states one n x) + length (choices_where atoms states other n x) =
      one-split x (one n) (other n) (both n) (subst (λ k. IsSplit (one k) (other k) (both k)) start (split 0 x refl)) in
      let later = length-split one other both (suc n) xs
      (λ m i there. let e : n + suc m ≡ suc n + m = omega arith in subst (λ k. IsSplit (one k) (other k) (both k)) e (split (suc m) i there)) in
      omega (
        arith,
        length-append (choices_where atoms states both n x) (flat_from (choices_where atoms states both) (suc n) xs),
        length-append (choices_where atoms states one n x) (flat_from (choices_where atoms states one) (suc n) xs),
        length-append (choices_where atoms states other n x) (flat_from (choices_where atoms states other) (suc n) xs),
        here,
        later,
      )

  -- sets that agree at the interactions of a list have the same choices
  pub same-choices : (one other : ℕ → Bool) (n : ℕ) (xs : List Interaction) → ((m : ℕ) (i : Interaction) → slice_get xs m ≡ Some i → one (n + m) ≡ other (n + m))
      → flat_from (choices_where atoms states one) n xs ≡ flat_from (choices_where atoms states other) n xs
  same-choices one other n [] same = refl
  same-choices one other n (x ∷ xs) same =
      let start : n + 0 ≡ n = omega arith in
      let here : one n ≡ other n = ap one (sym start) ∙ same 0 x refl ∙ ap other start in
      ap (λ b. cond b (choices_of atoms states x) [] ++ flat_from (choices_where atoms states one) (suc n) xs) here ∙
      ap (λ ys. choices_where atoms states other n x ++ ys)
      (same-choices one other (suc n) xs (λ m i there. let e : n + suc m ≡ suc n + m = omega arith in ap one (sym e) ∙ same (suc m) i there ∙ ap other e))

-- ---- the connectors in their order

-- those interactions of a set that are of a connector before one
abbrev pub is_kept_before : List Interaction → (ℕ → Bool) → ℕ → ℕ → Bool
is_kept_before interactions kept connector n = kept n && is_before interactions connector n

-- one connector more
one-more : (kept : Bool) (c k : ℕ) → IsSplit (kept && nat_lt c k) (kept && (c == k)) (kept && nat_lt c (suc k))
one-more false c k = (refl, refl)
one-more true c k =
    ⊎_elim
    (λ is. (
      lt-ltb c (suc k) (omega (arith, is)) ∙ sym (ap (λ b. nat_lt c k || b) (eq-eqb c k is) ∙ ap (λ b. b || true) (le-ltb c k (omega (arith, is)))),
      ap (λ b. b && (c == k)) (le-ltb c k (omega (arith, is))),
    ))
    (λ other. ⊎_elim
    (λ less. (
      lt-ltb c (suc k) (omega (arith, less)) ∙ sym (ap (λ b. b || (c == k)) (lt-ltb c k less)),
      ap (λ b. b && (c == k)) (lt-ltb c k less) ∙ ne_eqb c k other,
    ))
    (λ past. (
      le-ltb c (suc k) (omega (arith, past, other)) ∙ sym (ap (λ b. b || (c == k)) (le-ltb c k past) ∙ ne_eqb c k other),
      ap (λ b. b && (c == k)) (le-ltb c k past),
    ))
    (cases_lt c k))
    (cases_eq c k)

module _ (atoms : List AtomDefinition) (states : List Local) (all : List Interaction) (kept : ℕ → Bool) where
  -- how many choices the connectors before one have
  abbrev pub lighter : ℕ → ℕ
  lighter k = length (choices_in atoms states all (is_kept_before all kept k))

  split-at : (k m : ℕ) (i : Interaction) → slice_get all m ≡ Some i → IsSplit (is_kept_before all kept k m) (is_kept_of all kept k m) (is_kept_before all kept (suc k) m)
  split-at k m i there =
      subst (λ o. IsSplit (kept m && option_map_or (λ j. nat_lt j.connector k) o false) (kept m && option_map_or (λ j. j.connector == k) o false) (kept m && option_map_or (λ j. nat_lt j.connector (suc k)) o false))
      (sym there) (one-more (kept m) i.connector k)

  pub lighter-more : (k : ℕ) → lighter (suc k) ≡ lighter k + weight_of atoms states all kept k
  lighter-more k =
      length-split atoms states (is_kept_before all kept k) (is_kept_of all kept k) (is_kept_before all kept (suc k)) 0 all
      (λ m i there. let e : m ≡ 0 + m = omega arith in subst (λ n. IsSplit (is_kept_before all kept k n) (is_kept_of all kept k n) (is_kept_before all kept (suc k) n)) e (split-at k m i there))

  pub lighter-rises : (k e : ℕ) → lighter k ≤ lighter (k + e)
  lighter-rises k zero = let e : k + 0 ≡ k = omega arith in omega (arith, ap lighter e)
  lighter-rises k (suc e) = let next : k + suc e ≡ suc (k + e) = omega arith in omega (arith, ap lighter next, lighter-more (k + e), lighter-rises k e)

  sums : (ws : List ℕ) (k : ℕ) → ((j : ℕ) → slice_index_or ws j 0 ≡ weight_of atoms states all kept (k + j)) → lighter k + sum_of ws ≡ lighter (k + length ws)
  sums [] k are = let e : k ≡ k + 0 = omega arith in omega (arith, ap lighter e)
  sums (w ∷ ws) k are =
      let start : k + 0 ≡ k = omega arith in
      let here : w ≡ weight_of atoms states all kept k = are 0 ∙ ap (weight_of atoms states all kept) start in
      let later = sums ws (suc k) (λ j. let e : k + suc j ≡ suc k + j = omega arith in are (suc j) ∙ ap (weight_of atoms states all kept) e) in
      let end : suc k + length ws ≡ k + suc (length ws) = omega arith in
      omega (arith, here, later, lighter-more k, ap lighter end)

  none-lighter : lighter 0 ≡ 0
  none-lighter =
      ap length (same-choices atoms states (is_kept_before all kept 0) (λ n. false) 0 all
      (λ m i there. let e : 0 + m ≡ m = omega arith in ap (is_kept_before all kept 0) e ∙ at-none m i there)) ∙ nothing 0 all
    where
      at-none : (m : ℕ) (i : Interaction) → slice_get all m ≡ Some i → is_kept_before all kept 0 m ≡ false
      at-none m i there =
          ap (λ o. kept m && option_map_or (λ j. nat_lt j.connector 0) o false) there ∙ ap (λ b. kept m && b) (le-ltb i.connector 0 (omega arith)) ∙ never (kept m)
        where
          never : (b : Bool) → (b && false) ≡ false
          never true = refl
          never false = refl

      nothing : (n : ℕ) (xs : List Interaction) → length (flat_from (choices_where atoms states (λ n. false)) n xs) ≡ 0
      nothing n [] = refl
      nothing n (x ∷ xs) = nothing (suc n) xs

  all-lighter : (count : ℕ) → ((n : ℕ) (i : Interaction) → slice_get all n ≡ Some i → i.connector < count) → lighter count ≡ length (choices_in atoms states all kept)
  all-lighter count below =
      ap length (same-choices atoms states (is_kept_before all kept count) kept 0 all
      (λ m i there. let e : 0 + m ≡ m = omega arith in ap (is_kept_before all kept count) e ∙ at-all m i there ∙ ap kept (sym e)))
    where
      at-all : (m : ℕ) (i : Interaction) → slice_get all m ≡ Some i → is_kept_before all kept count m ≡ kept m
      at-all m i there =
          ap (λ o. kept m && option_map_or (λ j. nat_lt j.connector count) o false) there ∙ ap (λ b. kept m && b) (lt-ltb i.connector count (below m i there)) ∙ always (kept m)
        where
          always : (b : Bool) → (b && true) ≡ b
          always true = refl
          always false = refl

-- the weights of all connectors together are how many choices there are
pub sum-of-weights : (atoms : List AtomDefinition) (states : List Local) (all : List Interaction) (kept : ℕ → Bool) (weights : List ℕ)
    → ((n : ℕ) (i : Interaction) → slice_get all n ≡ Some i → i.connector < length weights)
    → AreWeights atoms states all kept weights → sum_of weights ≡ length (choices_in atoms states all kept)
sum-of-weights atoms states all kept weights below are =
    let total : lighter atoms states all kept 0 + sum_of weights ≡ lighter atoms states all kept (0 + length weights) =
    sums atoms states all kept weights 0 (λ j. let e : j ≡ 0 + j = omega arith in are j ∙ ap (weight_of atoms states all kept) e) in
    let end : 0 + length weights ≡ length weights = omega arith in
    omega (arith, total, none-lighter atoms states all kept, ap (lighter atoms states all kept) end, all-lighter atoms states all kept (length weights) below)

-- ---- how many choices there can be

few-from : (atoms : List AtomDefinition) (states : List Local) (kept : ℕ → Bool) (bound n : ℕ) (xs : List Interaction) → ((m : ℕ) (i : Interaction) → slice_get xs m ≡ Some i → length (choices_of atoms states i) ≤ bound)
    → length (flat_from (choices_where atoms states kept) n xs) ≤ length xs * bound
few-from atoms states kept bound n [] each = omega arith
few-from atoms states kept bound n (x ∷ xs) each =
    let later = few-from atoms states kept bound (suc n) xs (λ m i there. each (suc m) i there) in
    omega (arith, length-append (choices_where atoms states kept n x) (flat_from (choices_where atoms states kept) (suc n) xs), here (kept n), later)
  where
    here : (b : Bool) → length (cond b (choices_of atoms states x) []) ≤ bound
    here true = each 0 x refl
    here false = omega arith

-- the kept interactions, each with so many choices at most, have no more than 2 ^ 122
pub few-choices : (atoms : List AtomDefinition) (states : List Local) (all : List Interaction) (kept : ℕ → Bool)
    → length all ≤ MAX_INTERACTIONS → ((n : ℕ) (i : Interaction) → slice_get all n ≡ Some i → length (choices_of atoms states i) ≤ 2 ^ 112)
    → length (choices_in atoms states all kept) ≤ 2 ^ 122
few-choices atoms states all kept few each =
    omega (arith, few-from atoms states kept (2 ^ 112) 0 all each, few)

-- ---- the interactions of a system

module _ (s : System) where
  pub is-one : (n : ℕ) (i : Interaction) → slice_get (interactions_in s) n ≡ Some i → IsInteractionOf (plant_of s) i
  is-one n i there = interaction-of (plant_of s) s.valid i (entry-in (plant_interactions (plant_of s)) n i (ap (λ xs. slice_get xs n) (sym s.listed) ∙ there))

  -- the connectors of its interactions are below 64
  pub known-connectors : (n : ℕ) (i : Interaction) → slice_get (interactions_in s) n ≡ Some i → i.connector < length (plant_of s).wires
  known-connectors n i there = let is = is-one n i there in slice_get_within (plant_of s).wires i.connector is.wire is.there

  pub small-connectors : (n : ℕ) (i : Interaction) → slice_get (interactions_in s) n ≡ Some i → i.connector < 64
  small-connectors n i there = omega (arith, known-connectors n i there, (within-limits (plant_of s) s.valid).wires)

-- ---- how many choices an interaction can have

fewer-kept : (f : ℕ → Bool) (xs : List ℕ) → length (filter f xs) ≤ length xs
fewer-kept f [] = omega arith
fewer-kept f (x ∷ xs) = each (fewer-kept f xs) (f x)
  where
    each : length (filter f xs) ≤ length xs → (b : Bool) → length (cond b (x ∷ filter f xs) (filter f xs)) ≤ suc (length xs)
    each later true = omega (arith, later)
    each later false = omega (arith, later)

fewer-numbers : (n port : ℕ) (ts : List TransitionDefinition) → length (numbers_from n port ts) ≤ length ts
fewer-numbers n port [] = omega arith
fewer-numbers n port (t ∷ ts) = each (fewer-numbers (suc n) port ts) (t.port == port)
  where
    each : length (numbers_from (suc n) port ts) ≤ length ts → (b : Bool) → length (cond b (n ∷ numbers_from (suc n) port ts) (numbers_from (suc n) port ts)) ≤ suc (length ts)
    each later true = omega (arith, later)
    each later false = omega (arith, later)

few-transitions : (a : AtomDefinition) → is_well_formed a ≡ true → length a.transitions ≤ MAX_TRANSITIONS
few-transitions a well =
    let limits : is_atom_within_limits a ≡ true = (and_parts _ _ (and_parts _ _ (and_parts _ _ well).0).0).0 in
    leb-true (length a.transitions) MAX_TRANSITIONS (and_parts _ _ (and_parts _ _ (and_parts _ _ limits).0).0).1

-- an atom offers 128 transitions at a port at most
few-enabled : (a : AtomDefinition) (s : Local) (port : ℕ) → is_well_formed a ≡ true → length (enabled a s port) ≤ 128
few-enabled a s port well =
    omega (arith, fewer-kept (offers_number a s) (numbers_of port a.transitions), fewer-numbers 0 port a.transitions, few-transitions a well)

module _ (atoms : List AtomDefinition) (states : List Local) (formed : list_all is_well_formed atoms ≡ true) where
  pub few-moves : (p : Port) → length (moves_of atoms states p) ≤ 128
  few-moves p = each (slice_get atoms p.atom) refl (slice_get states p.atom)
    where
      each : (o : Option AtomDefinition) → slice_get atoms p.atom ≡ o → (w : Option Local) → length (option_map_or (λ a. option_map_or (λ s. map (move_of p.atom) (enabled a s p.port)) w []) o []) ≤ 128
      each None none w = omega arith
      each (Some a) known None = omega arith
      each (Some a) known (Some s) =
          omega (arith, length-map (enabled a s p.port) (move_of p.atom), few-enabled a s p.port (all-in is_well_formed atoms formed a (entry-in atoms p.atom a known)))

  few-rows : (ports : List Port) → length (combinations (map (moves_of atoms states) ports)) ≤ 2 ^ (7 * length ports)
  few-rows [] = omega arith
  few-rows (p ∷ ps) =
      subst (λ n. n ≤ 2 ^ (7 * suc (length ps))) (sym (length-rows (combinations (map (moves_of atoms states) ps)) (moves_of atoms states p)))
      (product-bound (length (moves_of atoms states p)) (length (combinations (map (moves_of atoms states) ps))) (length ps) (suc (length ps)) (few-moves p) (few-rows ps) refl)

-- each of a system has at most 2 ^ 112
pub few-of-each : (s : System) (states : List Local) → length states ≡ length (plant_of s).atoms → (n : ℕ) (i : Interaction) → slice_get (interactions_in s) n ≡ Some i
    → length (choices_of (plant_of s).atoms states i) ≤ 2 ^ 112
few-of-each s states of_plant n i there =
    let bits : 7 * length i.ports ≤ 112 = omega (arith, (is-one s n i there).few) in
    subst (λ k. k ≤ 2 ^ 112) (sym (length-map (combinations (map (moves_of (plant_of s).atoms states) i.ports)) (λ moves. record { connector = i.connector; mask = i.mask; moves = moves })))
    (le_trans (few-rows (plant_of s).atoms states (well_formed s.atoms.items) i.ports) (pow_mono bits))
