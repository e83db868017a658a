-- The choices of interactions that stand in the order of their connectors, connector by connector.
use Rattle.std.proofs.Common.{◌≡◌, ℕ, zero, suc, ◌+◌, ◌-◌, ◌==◌, ◌<◌, ◌≤◌, refl, sym, ◌∙◌, ap, subst, List, [], ◌∷◌, ◌++◌, length, nat_lt, arith, Bool, true, false, cond, not, ◌&&◌, ◌||◌, append_assoc, ⊎_elim}
use Rattle.std.specs.Prelude.{Some, slice_get, slice_index_or}
use Rattle.std.specs.Option.{option_map_or}
use Rattle.std.proofs.lemmas.Bool.{and_parts, cases_eq, cases_lt, eq-eqb, ne_eqb, ltb-false, le-ltb, lt-ltb, not-true}
use Rattle.petri_atom.specs.Definition.{AtomDefinition}
use Rattle.petri_atom.specs.Local.{Local}
use Rattle.plant_model.specs.Choice.{ChoiceDefinition, Interaction, choices_of, flat_from}
use Rattle.plant_model.specs.ConnectorRows.{AreByConnector, is_before}
use Rattle.plant_model.proofs.Combinations.{slice_get-left, slice_get-right}
use Rattle.step_core.specs.ChoicesIn.{choices_in, choices_where}
use Rattle.step_core.specs.Weights.{AreWeights, choices_of_connector, is_kept_of, sum_from, weight_of}
use Rattle.step_core.proofs.Weighed.{IsSplit, same-choices}

-- ---- two sets, of which one stands behind the other

-- the test of nothing
abbrev pub never : ℕ → Bool
never n = false

module _ (atoms : List AtomDefinition) (states : List Local) where
  pub none-never : (n : ℕ) (xs : List Interaction) → flat_from (choices_where atoms states never) n xs ≡ []
  none-never n [] = refl
  none-never n (x ∷ xs) = none-never (suc n) xs

  -- behind each interaction of the other set none of the one comes
  abbrev pub IsBehind : (ℕ → Bool) → (ℕ → Bool) → ℕ → List Interaction → Type 0
  IsBehind one other n xs = (m k : ℕ) (i j : Interaction) → m ≤ k → slice_get xs m ≡ Some i → slice_get xs k ≡ Some j → other (n + m) ≡ true → one (n + k) ≡ false

  abbrev pub AreSplit : (ℕ → Bool) → (ℕ → Bool) → (ℕ → Bool) → ℕ → List Interaction → Type 0
  AreSplit one other both n xs = (m : ℕ) (i : Interaction) → slice_get xs m ≡ Some i → IsSplit (one (n + m)) (other (n + m)) (both (n + m))

  -- then the choices of both are those of the one and behind them those of the other
  pub choices-split : (one other both : ℕ → Bool) (n : ℕ) (xs : List Interaction) → AreSplit one other both n xs → IsBehind one other n xs
      → flat_from (choices_where atoms states both) n xs ≡ flat_from (choices_where atoms states one) n xs ++ flat_from (choices_where atoms states other) n xs
  choices-split one other both n [] split behind = refl
  choices-split one other both n (x ∷ xs) split behind =
      each
      (choices-split one other both (suc n) xs
      (λ m i there. let e : n + suc m ≡ suc n + m = omega arith in subst (λ k. IsSplit (one k) (other k) (both k)) e (split (suc m) i there))
      (λ m k i j order first second inside.
      let e : n + suc m ≡ suc n + m = omega arith in
      let f : n + suc k ≡ suc n + k = omega arith in
      ap one (sym f) ∙ behind (suc m) (suc k) i j (omega (arith, order)) first second (ap other e ∙ inside)))
      (other n) refl
    where
      start : n + 0 ≡ n
      start = omega arith

      here : IsSplit (one n) (other n) (both n)
      here = subst (λ k. IsSplit (one k) (other k) (both k)) start (split 0 x refl)

      or-false : (b : Bool) → (b || false) ≡ b
      or-false true = refl
      or-false false = refl

      each : flat_from (choices_where atoms states both) (suc n) xs ≡ flat_from (choices_where atoms states one) (suc n) xs ++ flat_from (choices_where atoms states other) (suc n) xs
          → (b : Bool) → other n ≡ b
          → flat_from (choices_where atoms states both) n (x ∷ xs) ≡ flat_from (choices_where atoms states one) n (x ∷ xs) ++ flat_from (choices_where atoms states other) n (x ∷ xs)
      each later true its =
          let none : (m : ℕ) (i : Interaction) → slice_get (x ∷ xs) m ≡ Some i → one (n + m) ≡ false = λ m i there. behind 0 m x i (omega arith) refl there (ap other start ∙ its) in
          same-choices atoms states both other n (x ∷ xs) (λ m i there. (split m i there).0 ∙ ap (λ b. b || other (n + m)) (none m i there)) ∙
          sym (ap (λ ys. ys ++ flat_from (choices_where atoms states other) n (x ∷ xs)) (same-choices atoms states one never n (x ∷ xs) none ∙ none-never n (x ∷ xs)))
      each later false its =
          let as_one : both n ≡ one n = here.0 ∙ ap (λ b. one n || b) its ∙ or-false (one n) in
          ap (λ b. cond b (choices_of atoms states x) [] ++ flat_from (choices_where atoms states both) (suc n) xs) as_one ∙
          ap (λ ys. choices_where atoms states one n x ++ ys) later ∙
          sym (append_assoc (choices_where atoms states one n x) (flat_from (choices_where atoms states one) (suc n) xs) (flat_from (choices_where atoms states other) (suc n) xs)) ∙
          ap (λ b. (choices_where atoms states one n x ++ flat_from (choices_where atoms states one) (suc n) xs) ++ (cond b (choices_of atoms states x) [] ++ flat_from (choices_where atoms states other) (suc n) xs)) (sym its)

-- ---- the connectors from one on

-- those interactions of a set that are of no connector before one
abbrev pub is_kept_from : List Interaction → (ℕ → Bool) → ℕ → ℕ → Bool
is_kept_from interactions kept connector n = kept n && not (is_before interactions connector n)

one-less : (kept : Bool) (c k : ℕ) → IsSplit (kept && (c == k)) (kept && not (nat_lt c (suc k))) (kept && not (nat_lt c k))
one-less false c k = (refl, refl)
one-less true c k =
    ⊎_elim
    (λ is. (
      ap not (le-ltb c k (omega (arith, is))) ∙ sym (ap (λ b. b || not (nat_lt c (suc k))) (eq-eqb c k is)),
      ap (λ b. (c == k) && not b) (lt-ltb c (suc k) (omega (arith, is))) ∙ ap (λ b. b && false) (eq-eqb c k is),
    ))
    (λ other. ⊎_elim
    (λ less. (
      ap not (lt-ltb c k less) ∙ sym (ap (λ b. b || not (nat_lt c (suc k))) (ne_eqb c k other) ∙ ap not (lt-ltb c (suc k) (omega (arith, less)))),
      ap (λ b. b && not (nat_lt c (suc k))) (ne_eqb c k other),
    ))
    (λ past. (
      ap not (le-ltb c k past) ∙ sym (ap (λ b. b || not (nat_lt c (suc k))) (ne_eqb c k other) ∙ ap not (le-ltb c (suc k) (omega (arith, past, other)))),
      ap (λ b. b && not (nat_lt c (suc k))) (ne_eqb c k other),
    ))
    (cases_lt c k))
    (cases_eq c k)

module _ (atoms : List AtomDefinition) (states : List Local) (all : List Interaction) (kept : ℕ → Bool) where
  abbrev pub from_connector : ℕ → List ChoiceDefinition
  from_connector k = choices_in atoms states all (is_kept_from all kept k)

  -- all are from the first connector on
  pub from-first : from_connector 0 ≡ choices_in atoms states all kept
  from-first =
      same-choices atoms states (is_kept_from all kept 0) kept 0 all
      (λ m i there. let e : 0 + m ≡ m = omega arith in ap (is_kept_from all kept 0) e ∙ at m i there ∙ ap kept (sym e))
    where
      at : (m : ℕ) (i : Interaction) → slice_get all m ≡ Some i → is_kept_from all kept 0 m ≡ kept m
      at m i there =
          ap (λ o. kept m && not (option_map_or (λ j. nat_lt j.connector 0) o false)) there ∙ ap (λ b. kept m && not b) (le-ltb i.connector 0 (omega arith)) ∙ always (kept m)
        where
          always : (b : Bool) → (b && true) ≡ b
          always true = refl
          always false = refl

  -- none is behind the last
  pub from-past : (k : ℕ) → ((n : ℕ) (i : Interaction) → slice_get all n ≡ Some i → i.connector < k) → from_connector k ≡ []
  from-past k below =
      same-choices atoms states (is_kept_from all kept k) never 0 all
      (λ m i there. let e : 0 + m ≡ m = omega arith in ap (is_kept_from all kept k) e ∙ at m i there) ∙ none-never atoms states 0 all
    where
      at : (m : ℕ) (i : Interaction) → slice_get all m ≡ Some i → is_kept_from all kept k m ≡ false
      at m i there =
          ap (λ o. kept m && not (option_map_or (λ j. nat_lt j.connector k) o false)) there ∙ ap (λ b. kept m && not b) (lt-ltb i.connector k (below m i there)) ∙ nothing (kept m)
        where
          nothing : (b : Bool) → (b && false) ≡ false
          nothing true = refl
          nothing false = refl

  -- a connector past the last has none
  pub weight-past : (k : ℕ) → ((n : ℕ) (i : Interaction) → slice_get all n ≡ Some i → i.connector < k) → weight_of atoms states all kept k ≡ 0
  weight-past k below =
      ap length
      (same-choices atoms states (is_kept_of all kept k) never 0 all
      (λ m i there. let e : 0 + m ≡ m = omega arith in ap (is_kept_of all kept k) e ∙ at m i there) ∙ none-never atoms states 0 all)
    where
      at : (m : ℕ) (i : Interaction) → slice_get all m ≡ Some i → is_kept_of all kept k m ≡ false
      at m i there =
          ap (λ o. kept m && option_map_or (λ j. j.connector == k) o false) there ∙ ap (λ b. kept m && b) (ne_eqb i.connector k (λ is. absurd (omega (arith, is, below m i there)))) ∙ nothing (kept m)
        where
          nothing : (b : Bool) → (b && false) ≡ false
          nothing true = refl
          nothing false = refl

  module _ (listed : AreByConnector all) (k : ℕ) where
    split-at : (m : ℕ) (i : Interaction) → slice_get all m ≡ Some i → IsSplit (is_kept_of all kept k m) (is_kept_from all kept (suc k) m) (is_kept_from all kept k m)
    split-at m i there =
        subst (λ o. IsSplit (kept m && option_map_or (λ j. j.connector == k) o false) (kept m && not (option_map_or (λ j. nat_lt j.connector (suc k)) o false)) (kept m && not (option_map_or (λ j. nat_lt j.connector k) o false)))
        (sym there) (one-less (kept m) i.connector k)

    behind : (m l : ℕ) (i j : Interaction) → m ≤ l → slice_get all m ≡ Some i → slice_get all l ≡ Some j → is_kept_from all kept (suc k) m ≡ true → is_kept_of all kept k l ≡ false
    behind m l i j order first second inside =
        let outside : nat_lt i.connector (suc k) ≡ false =
        not-true (nat_lt i.connector (suc k)) (sym (ap (λ o. not (option_map_or (λ x. nat_lt x.connector (suc k)) o false)) first) ∙ (and_parts (kept m) (not (is_before all (suc k) m)) inside).1) in
        let later : suc k ≤ i.connector = ltb-false i.connector (suc k) outside in
        let rise : i.connector ≤ j.connector = listed.rising m l i j order first second in
        ap (λ o. kept l && option_map_or (λ x. x.connector == k) o false) second ∙ ap (λ b. kept l && b) (ne_eqb j.connector k (λ is. absurd (omega (arith, is, later, rise)))) ∙ nothing (kept l)
      where
        nothing : (b : Bool) → (b && false) ≡ false
        nothing true = refl
        nothing false = refl

    -- those of a connector stand before those of the later ones
    pub from-next : from_connector k ≡ choices_of_connector atoms states all kept k ++ from_connector (suc k)
    from-next =
        choices-split atoms states (is_kept_of all kept k) (is_kept_from all kept (suc k)) (is_kept_from all kept k) 0 all
        (λ m i there. let e : m ≡ 0 + m = omega arith in subst (λ n. IsSplit (is_kept_of all kept k n) (is_kept_from all kept (suc k) n) (is_kept_from all kept k n)) e (split-at m i there))
        (λ m l i j order first second inside.
        let e : 0 + m ≡ m = omega arith in
        let f : 0 + l ≡ l = omega arith in
        ap (is_kept_of all kept k) f ∙ behind m l i j order first second (ap (is_kept_from all kept (suc k)) (sym e) ∙ inside))

    -- an entry of the connector, and one behind its own
    pub entry-of : (place : ℕ) → place < weight_of atoms states all kept k → slice_get (from_connector k) place ≡ slice_get (choices_of_connector atoms states all kept k) place
    entry-of place inside = ap (λ ys. slice_get ys place) from-next ∙ slice_get-left (choices_of_connector atoms states all kept k) (from_connector (suc k)) place inside

    pub entry-past : (place : ℕ) → weight_of atoms states all kept k ≤ place → slice_get (from_connector k) place ≡ slice_get (from_connector (suc k)) (place - weight_of atoms states all kept k)
    entry-past place past =
        let at : place ≡ weight_of atoms states all kept k + (place - weight_of atoms states all kept k) = omega (arith, past) in
        ap (λ ys. slice_get ys place) from-next ∙ ap (slice_get (choices_of_connector atoms states all kept k ++ from_connector (suc k))) at ∙
        slice_get-right (choices_of_connector atoms states all kept k) (from_connector (suc k)) (place - weight_of atoms states all kept k)

  -- an entry behind the connectors of a sum
  module _ (listed : AreByConnector all) (weights : List ℕ) (are : AreWeights atoms states all kept weights) where
    pub entry-past-some : (k count place : ℕ) → sum_from weights k count ≤ place → slice_get (from_connector k) place ≡ slice_get (from_connector (k + count)) (place - sum_from weights k count)
    entry-past-some k zero place past =
        let same : k ≡ k + 0 = omega arith in
        let whole : place ≡ place - 0 = omega arith in
        ap (λ n. slice_get (from_connector n) place) same ∙ ap (slice_get (from_connector (k + 0))) whole
    entry-past-some k (suc count) place past =
        let one = are k in
        let rest = sum_from weights (suc k) count in
        let end : suc k + count ≡ k + suc count = omega arith in
        let left : (place - weight_of atoms states all kept k) - rest ≡ place - (slice_index_or weights k 0 + rest) = omega (arith, one) in
        entry-past listed k place (omega (arith, one, past)) ∙
        entry-past-some (suc k) count (place - weight_of atoms states all kept k) (omega (arith, one, past)) ∙
        ap (λ n. slice_get (from_connector n) ((place - weight_of atoms states all kept k) - rest)) end ∙
        ap (slice_get (from_connector (k + suc count))) left
