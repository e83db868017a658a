-- The weights of connectors are bounded by how many interactions they have, so that their sum is, whichever sets of interactions they are of.
use Rattle.std.proofs.Common.{◌≡◌, ℕ, suc, ◌+◌, ◌*◌, ◌==◌, ◌<◌, ◌≤◌, ◌^◌, ◌&&◌, refl, sym, ◌∙◌, ap, List, [], ◌∷◌, length, nat_lt, arith, Bool, true, false, cond, ⊎_elim}
use Rattle.std.specs.Prelude.{Some, slice_get, slice_index_or, slice_set}
use Rattle.std.specs.Option.{option_map_or}
use Rattle.std.proofs.lemmas.Bool.{and_parts, and_right, cases_eq, cases_lt, eq-eqb, false≢true, ne_eqb, le-ltb, lt-ltb}
use Rattle.std.proofs.lemmas.List.{get_or-set_other, get_or-set_same, length-append}
use Rattle.petri_atom.specs.Definition.{AtomDefinition}
use Rattle.petri_atom.specs.Local.{Local}
use Rattle.plant_model.specs.Choice.{Interaction, choices_of, flat_from}
use Rattle.plant_model.specs.ConnectorRows.{is_of_connector}
use Rattle.plant_model.specs.System.{interactions_in, plant_of}
use Rattle.plant_model.specs.declared.system.System.{System}
use Rattle.step_core.specs.ChoicesIn.{choices_where}
use Rattle.step_core.specs.Settling.{AreBounded, own_count}
use Rattle.step_core.specs.Weights.{AreSums, is_kept_of, sum_of, weight_of}
use Rattle.step_core.specs.declared.weights.Weights.{Weights}
use Rattle.step_core.proofs.SystemConnectors.{few-interactions}
use Rattle.step_core.proofs.Weighed.{few-of-each, same-choices}

-- ---- the weight of one connector

module _ (atoms : List AtomDefinition) (states : List Local) (k bound : ℕ) (test : ℕ → Bool) where
  bounded-from : (n : ℕ) (xs : List Interaction) → ((m : ℕ) (i : Interaction) → slice_get xs m ≡ Some i → length (choices_of atoms states i) ≤ bound)
      → ((m : ℕ) (i : Interaction) → slice_get xs m ≡ Some i → test (n + m) ≡ true → (i.connector == k) ≡ true)
      → length (flat_from (choices_where atoms states test) n xs) ≤ own_count xs k * bound
  bounded-from n [] few its = omega arith
  bounded-from n (x ∷ xs) few its =
      let later = bounded-from (suc n) xs (λ m i there. few (suc m) i there) (λ m i there passes. let e : suc n + m ≡ n + suc m = omega arith in its (suc m) i there (ap test (sym e) ∙ passes)) in
      let start : n + 0 ≡ n = omega arith in
      let here = one (test n) (x.connector == k) (λ passes. its 0 x refl (ap test start ∙ passes)) in
      omega (arith, length-append (choices_where atoms states test n x) (flat_from (choices_where atoms states test) (suc n) xs), here, later)
    where
      one : (passes own : Bool) → (passes ≡ true → own ≡ true) → length (cond passes (choices_of atoms states x) []) ≤ (cond own 1 0) * bound
      one false own told = omega arith
      one true true told = omega (arith, few 0 x refl)
      one true false told = absurd (false≢true (told refl))

-- a weight is bounded by how many interactions the connector has
pub weight-bounded : (s : System) (states : List Local) → length states ≡ length (plant_of s).atoms → (kept : ℕ → Bool) (k : ℕ)
    → weight_of (plant_of s).atoms states (interactions_in s) kept k ≤ own_count (interactions_in s) k * 2 ^ 112
weight-bounded s states of_plant kept k =
    bounded-from (plant_of s).atoms states k (2 ^ 112) (is_kept_of (interactions_in s) kept k) 0 (interactions_in s) (few-of-each s states of_plant)
    (λ m i there passes.
    let e : 0 + m ≡ m = omega arith in
    sym (ap (λ o. option_map_or (λ (x : Interaction). x.connector == k) o false) there) ∙ (and_parts (kept m) (is_of_connector (interactions_in s) k m) (ap (is_kept_of (interactions_in s) kept k) (sym e) ∙ passes)).1)

-- it is as before where the same is kept of the connector
pub weight-same : (atoms : List AtomDefinition) (states : List Local) (all : List Interaction) (kept later : ℕ → Bool) (k : ℕ) → ((n : ℕ) → is_of_connector all k n ≡ true → later n ≡ kept n)
    → weight_of atoms states all later k ≡ weight_of atoms states all kept k
weight-same atoms states all kept later k same =
    ap length (same-choices atoms states (is_kept_of all later k) (is_kept_of all kept k) 0 all (λ m i _. at (0 + m) (is_of_connector all k (0 + m)) refl))
  where
    at : (n : ℕ) (own : Bool) → is_of_connector all k n ≡ own → is_kept_of all later k n ≡ is_kept_of all kept k n
    at n true is = ap (λ b. b && is_of_connector all k n) (same n is)
    at n false is = and_right (later n) (is_of_connector all k n) is ∙ sym (and_right (kept n) (is_of_connector all k n) is)

-- ---- the sum of all

-- how many interactions are of connectors before one
abbrev before_count : List Interaction → ℕ → ℕ
before_count [] k = 0
before_count (i ∷ is) k = (cond (nat_lt i.connector k) 1 0) + before_count is k

one-more : (c k : ℕ) → (cond (nat_lt c (suc k)) 1 0) ≡ (cond (nat_lt c k) 1 0) + (cond (c == k) 1 0)
one-more c k =
    ⊎_elim
    (λ same. ap (λ b. cond b 1 0) (lt-ltb c (suc k) (omega (arith, same))) ∙ sym (ap (λ b. cond b 1 0 + cond (c == k) 1 0) (le-ltb c k (omega (arith, same))) ∙ ap (λ b. 0 + cond b 1 0) (eq-eqb c k same)))
    (λ other. ⊎_elim
    (λ less. ap (λ b. cond b 1 0) (lt-ltb c (suc k) (omega (arith, less))) ∙ sym (ap (λ b. cond b 1 0 + cond (c == k) 1 0) (lt-ltb c k less) ∙ ap (λ b. 1 + cond b 1 0) (ne_eqb c k other)))
    (λ past. ap (λ b. cond b 1 0) (le-ltb c (suc k) (omega (arith, past, other))) ∙ sym (ap (λ b. cond b 1 0 + cond (c == k) 1 0) (le-ltb c k past) ∙ ap (λ b. 0 + cond b 1 0) (ne_eqb c k other)))
    (cases_lt c k))
    (cases_eq c k)

before-next : (xs : List Interaction) (k : ℕ) → before_count xs (suc k) ≡ before_count xs k + own_count xs k
before-next [] k = refl
before-next (x ∷ xs) k = omega (arith, one-more x.connector k, before-next xs k)

before-all : (xs : List Interaction) (k : ℕ) → before_count xs k ≤ length xs
before-all [] k = omega arith
before-all (x ∷ xs) k = omega (arith, one (nat_lt x.connector k), before-all xs k)
  where
    one : (b : Bool) → cond b 1 0 ≤ 1
    one true = omega arith
    one false = omega arith

sum-from : (bound : ℕ) (all : List Interaction) (ws : List ℕ) (k : ℕ) → ((j : ℕ) → slice_index_or ws j 0 ≤ own_count all (k + j) * bound) → sum_of ws + before_count all k * bound ≤ before_count all (k + length ws) * bound
sum-from bound all [] k each = let e : k + 0 ≡ k = omega arith in omega (arith, ap (λ n. before_count all n * bound) e)
sum-from bound all (w ∷ ws) k each =
    let start : k + 0 ≡ k = omega arith in
    let end : suc k + length ws ≡ k + suc (length ws) = omega arith in
    let later = sum-from bound all ws (suc k) (λ j. let e : k + suc j ≡ suc k + j = omega arith in omega (arith, each (suc j), ap (λ n. own_count all n * bound) e)) in
    omega (arith, each 0, ap (λ n. own_count all n * bound) start, ap (λ n. before_count all n * bound) end, ap (λ n. n * bound) (before-next all k), later)

-- so all together are few
pub few-together : (s : System) (w : Weights) → AreSums w → AreBounded (interactions_in s) w.of_connectors → w.total ≤ 2 ^ 122
few-together s w sums bounded =
    let sum = sum-from (2 ^ 112) (interactions_in s) w.of_connectors 0 (λ j. let e : 0 + j ≡ j = omega arith in omega (arith, bounded j, ap (λ n. own_count (interactions_in s) n * 2 ^ 112) e)) in
    omega (arith, sums.total, sum, before-all (interactions_in s) (0 + length w.of_connectors), few-interactions s)

-- one that is set is bounded too
pub bounded-set : (all : List Interaction) (ws : List ℕ) (connector weight : ℕ) → connector < length ws → weight ≤ own_count all connector * 2 ^ 112 → AreBounded all ws → AreBounded all (slice_set ws connector weight)
bounded-set all ws connector weight within few each k =
    ⊎_elim
    (λ same. omega (arith, few, ap (λ n. own_count all n * 2 ^ 112) same, ap (λ n. slice_index_or (slice_set ws connector weight) n 0) same, get_or-set_same ws connector weight 0 within))
    (λ other. omega (arith, each k, get_or-set_other ws connector k weight 0 other))
    (cases_eq k connector)
