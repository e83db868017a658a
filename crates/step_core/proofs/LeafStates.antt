-- What the leaves of connectors offer, as the bits of words.
use Rattle.std.proofs.Common.{◌≡◌, ℕ, ◌+◌, ◌≤◌, refl, sym, ◌∙◌, ap, List, length, replicate, get_or, nat_lt, Bool, true, false, not, ◌&&◌, arith, ⊎_elim}
use Rattle.std.specs.Prelude.{Option, Some, None, slice_get, slice_index_or}
use Rattle.std.specs.Option.{option_map_or}
use Rattle.std.proofs.lemmas.Bool.{and_left, and_right, cases_eq, cases_lt, le-ltb, lt-ltb}
use Rattle.std.proofs.lemmas.List.{get_or_past, get_or-replicate, length-replicate}
use Rattle.std.proofs.lemmas.Nat.{pow_pos}
use Rattle.std.proofs.lemmas.Option.{slice_get-get_or, slice_get_past}
use Rattle.petri_atom.specs.Local.{Local}
use Rattle.petri_atom.proofs.Sets.{has-above}
use Rattle.connector_tree.specs.Masks.{is_set}
use Rattle.connector_tree.specs.Tree.{leaves}
use Rattle.connector_tree.specs.declared.tree.Port.{Port}
use Rattle.plant_model.specs.Choice.{is_offered_port}
use Rattle.plant_model.specs.ConnectorRows.{IsOff}
use Rattle.plant_model.specs.Plant.{PlantDefinition, WireDefinition}
use Rattle.step_core.specs.EnabledTransitions.{AreCounted, AreOffered}
use Rattle.step_core.specs.Leaves.{AreLeaves, count_of, is_leaf_where, is_none}
use Rattle.step_core.specs.declared.leaves.Leaves.{Leaves}
use Rattle.step_core.proofs.Judging.{counted-moves}
use Rattle.step_core.proofs.Offering.{offered-told}

-- ---- leaves that offer nothing

twice : (b : Bool) → b ≡ not (not b)
twice true = refl
twice false = refl

-- by what atoms offer in a state, the words have the bits of the leaves that offer nothing
pub off-of : (plant : PlantDefinition) (states : List Local) (sets : List ℕ) (counts : List (List ℕ)) (l : Leaves) → length states ≡ length plant.atoms
    → AreOffered plant.atoms states sets → AreCounted plant.atoms sets counts → AreLeaves plant.wires counts l
    → (k : ℕ) → IsOff plant.atoms plant.wires states k (slice_index_or l.off k 0)
off-of plant states sets counts l as_many offered counted right k leaf = right.off k leaf ∙ each (slice_get plant.wires k)
  where
    none : (p : Port) → is_none (count_of counts p) ≡ not (is_offered_port plant.atoms states p)
    none p =
        twice (is_none (count_of counts p)) ∙
        ap not (offered-told plant.atoms states p (count_of counts p) (counted-moves plant.atoms states sets counts as_many offered counted p))

    inside : (o : Option Port) → option_map_or (λ p. is_none (count_of counts p)) o false ≡ option_map_or (λ p. not (is_offered_port plant.atoms states p)) o false
    inside None = refl
    inside (Some p) = none p

    each : (o : Option WireDefinition) → option_map_or (λ w. option_map_or (λ p. is_none (count_of counts p)) (slice_get (leaves w.connector) leaf) false) o false
        ≡ option_map_or (λ w. option_map_or (λ p. not (is_offered_port plant.atoms states p)) (slice_get (leaves w.connector) leaf) false) o false
    each None = refl
    each (Some w) = inside (slice_get (leaves w.connector) leaf)

-- ---- the words of one connector after the other

-- words of zeros have no bit
pub no-bits : (count k leaf : ℕ) → is_set (get_or (replicate count 0) k 0) leaf ≡ false
no-bits count k leaf =
    ap (λ w. is_set w leaf)
    (⊎_elim (λ within. get_or-replicate count k 0 0 within) (λ past. get_or_past (replicate count 0) k 0 (omega (arith, past, length-replicate {A = ℕ} count 0))) (cases_lt k count)) ∙
    has-above 0 0 leaf (pow_pos 0) (omega arith)

module _ (wires : List WireDefinition) (counts : List (List ℕ)) (test : ℕ → Bool) where
  abbrev is_right : ℕ → ℕ → Bool
  is_right k leaf = is_leaf_where test wires counts k leaf

  pub no-connector : (count k leaf : ℕ) → is_set (get_or (replicate count 0) k 0) leaf ≡ (nat_lt k 0 && is_right k leaf)
  no-connector count k leaf = no-bits count k leaf ∙ sym (and_left (nat_lt k 0) (is_right k leaf) (le-ltb k 0 (omega arith)))

  module _ (n : ℕ) (w : WireDefinition) (there : slice_get wires n ≡ Some w) (old new : ℕ → ℕ → Bool)
      (so_far : (k leaf : ℕ) → old k leaf ≡ (nat_lt k n && is_right k leaf))
      (here : (leaf : ℕ) (p : Port) → slice_get (leaves w.connector) leaf ≡ Some p → new n leaf ≡ test (count_of counts p))
      (others : (k leaf : ℕ) → (k ≡ n → length (leaves w.connector) ≤ leaf) → new k leaf ≡ old k leaf) where
    at-port : (leaf : ℕ) (o : Option Port) → slice_get (leaves w.connector) leaf ≡ o → is_right n leaf ≡ option_map_or (λ p. test (count_of counts p)) o false
    at-port leaf o found =
        ap (λ x. option_map_or (λ (v : WireDefinition). option_map_or (λ p. test (count_of counts p)) (slice_get (leaves v.connector) leaf) false) x false) there ∙
        ap (λ x. option_map_or (λ p. test (count_of counts p)) x false) found

    its-leaf : (leaf : ℕ) → new n leaf ≡ is_right n leaf
    its-leaf leaf =
        ⊎_elim
        (λ within.
        let found = slice_get-get_or (leaves w.connector) leaf (record { atom = 0; port = 0 }) within in
        here leaf (get_or (leaves w.connector) leaf (record { atom = 0; port = 0 })) found ∙ sym (at-port leaf _ found))
        (λ past.
        others n leaf (λ same. past) ∙ so_far n leaf ∙ and_left (nat_lt n n) (is_right n leaf) (le-ltb n n (omega arith)) ∙
        sym (at-port leaf None (slice_get_past (leaves w.connector) leaf past)))
        (cases_lt leaf (length (leaves w.connector)))

    below-more : (k : ℕ) → (k ≡ n → ⊥) → nat_lt k (n + 1) ≡ nat_lt k n
    below-more k other =
        ⊎_elim
        (λ below. lt-ltb k (n + 1) (omega (arith, below)) ∙ sym (lt-ltb k n below))
        (λ past. le-ltb k (n + 1) (omega (arith, past, other)) ∙ sym (le-ltb k n past))
        (cases_lt k n)

    pub next-connector : (k leaf : ℕ) → new k leaf ≡ (nat_lt k (n + 1) && is_right k leaf)
    next-connector k leaf =
        ⊎_elim
        (λ same.
        ap (λ j. new j leaf) same ∙ its-leaf leaf ∙ ap (λ j. is_right j leaf) (sym same) ∙
        sym (ap (λ b. b && is_right k leaf) (lt-ltb k (n + 1) (omega (arith, same)))))
        (λ other. others k leaf (λ same. absurd (other same)) ∙ so_far k leaf ∙ ap (λ b. b && is_right k leaf) (sym (below-more k other)))
        (cases_eq k n)

  pub all-connectors : (n : ℕ) → length wires ≤ n → (new : ℕ → ℕ → Bool) → ((k leaf : ℕ) → new k leaf ≡ (nat_lt k n && is_right k leaf)) → (k leaf : ℕ) → new k leaf ≡ is_right k leaf
  all-connectors n past new so_far k leaf =
      so_far k leaf ∙
      ⊎_elim
      (λ below. ap (λ b. b && is_right k leaf) (lt-ltb k n below))
      (λ from.
      let none : is_right k leaf ≡ false =
      ap (λ x. option_map_or (λ (v : WireDefinition). option_map_or (λ p. test (count_of counts p)) (slice_get (leaves v.connector) leaf) false) x false) (slice_get_past wires k (omega (arith, past, from))) in
      and_right (nat_lt k n) (is_right k leaf) none ∙ sym none)
      (cases_lt k n)
