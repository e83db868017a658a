-- A value that is written at some leaves of some connectors, one after the other.
use Rattle.std.proofs.Common.{◌≡◌, ℕ, ◌+◌, ◌<◌, ◌≤◌, refl, sym, ◌∙◌, ap, List, Bool, true, false, cond, ◌&&◌, eqb, arith, ⊎_elim}
use Rattle.std.specs.Prelude.{Some, slice_get}
use Rattle.std.proofs.lemmas.Bool.{and_from, and_left, and_right, cases_eq, eq-eqb, ne_eqb}
use Rattle.std.proofs.lemmas.Option.{same_Some}
use Rattle.connector_tree.specs.declared.tree.Port.{Port}
use Rattle.plant_model.specs.declared.reach.ConnectorLeaf.{ConnectorLeaf}

-- the place is that of one leaf of one connector
abbrev is_place : ℕ → ℕ → ℕ → ℕ → Bool
is_place connector leaf k j = eqb k connector && eqb j leaf

is-place : (connector leaf k j : ℕ) → k ≡ connector → j ≡ leaf → is_place connector leaf k j ≡ true
is-place connector leaf k j same its = and_from (eqb k connector) (eqb j leaf) (eq-eqb k connector same) (eq-eqb j leaf its)

no-place : (connector leaf k j : ℕ) → ((k ≡ connector) × (j ≡ leaf) → ⊥) → is_place connector leaf k j ≡ false
no-place connector leaf k j other =
    ⊎_elim
    (λ same. and_right (eqb k connector) (eqb j leaf) (ne_eqb j leaf (λ its. other (same, its))))
    (λ differs. and_left (eqb k connector) (eqb j leaf) (ne_eqb k connector differs))
    (cases_eq k connector)

either : (b value : Bool) → cond b value value ≡ value
either true value = refl
either false value = refl

-- one more write
module _ (connector leaf : ℕ) (value : Bool) (old new : ℕ → ℕ → Bool) (wrote : (k j : ℕ) → new k j ≡ cond (is_place connector leaf k j) value (old k j)) where
  pub wrote-here : (k j : ℕ) → k ≡ connector → j ≡ leaf → new k j ≡ value
  wrote-here k j same its = wrote k j ∙ ap (λ b. cond b value (old k j)) (is-place connector leaf k j same its)

  pub kept-there : (k j : ℕ) → ((k ≡ connector) × (j ≡ leaf) → ⊥) → new k j ≡ old k j
  kept-there k j other = wrote k j ∙ ap (λ b. cond b value (old k j)) (no-place connector leaf k j other)

-- ---- one value at the first leaves of a list

-- the first of the leaves have the value, and all others what they had
pub record IsWritten (leaves : List ConnectorLeaf) (count : ℕ) (value : Bool) (old new : ℕ → ℕ → Bool) : Type 0 where
  pub here : (n : ℕ) (l : ConnectorLeaf) → n < count → slice_get leaves n ≡ Some l → new l.connector l.leaf ≡ value
  pub others : (k j : ℕ) → ((n : ℕ) (l : ConnectorLeaf) → n < count → slice_get leaves n ≡ Some l → (l.connector ≡ k) × (l.leaf ≡ j) → ⊥) → new k j ≡ old k j

pub none-written : (leaves : List ConnectorLeaf) (value : Bool) (old : ℕ → ℕ → Bool) → IsWritten leaves 0 value old old
none-written leaves value old = record { here = λ n l below there. absurd (omega arith); others = λ k j none. refl }

pub one-written : (leaves : List ConnectorLeaf) (count : ℕ) (value : Bool) (old so_far new : ℕ → ℕ → Bool) (at : ConnectorLeaf) → slice_get leaves count ≡ Some at
    → ((k j : ℕ) → new k j ≡ cond (is_place at.connector at.leaf k j) value (so_far k j)) → IsWritten leaves count value old so_far → IsWritten leaves (count + 1) value old new
one-written leaves count value old so_far new at found wrote before = record { here = here; others = others }
  where
    one : (l : ConnectorLeaf) → at ≡ l → new l.connector l.leaf ≡ value
    one l same = wrote-here at.connector at.leaf value so_far new wrote l.connector l.leaf (ap (λ (x : ConnectorLeaf). x.connector) (sym same)) (ap (λ (x : ConnectorLeaf). x.leaf) (sym same))

    earlier : (n : ℕ) (l : ConnectorLeaf) → n < count → slice_get leaves n ≡ Some l → new l.connector l.leaf ≡ value
    earlier n l below there =
        wrote l.connector l.leaf ∙ ap (cond (is_place at.connector at.leaf l.connector l.leaf) value) (before.here n l below there) ∙
        either (is_place at.connector at.leaf l.connector l.leaf) value

    here : (n : ℕ) (l : ConnectorLeaf) → n < count + 1 → slice_get leaves n ≡ Some l → new l.connector l.leaf ≡ value
    here n l below there =
        ⊎_elim
        (λ same. one l (same_Some at l (sym found ∙ ap (slice_get leaves) (sym same) ∙ there)))
        (λ other. earlier n l (omega (arith, below, other)) there)
        (cases_eq n count)

    others : (k j : ℕ) → ((n : ℕ) (l : ConnectorLeaf) → n < count + 1 → slice_get leaves n ≡ Some l → (l.connector ≡ k) × (l.leaf ≡ j) → ⊥) → new k j ≡ old k j
    others k j none =
        kept-there at.connector at.leaf value so_far new wrote k j (λ its. none count at (omega arith) found (sym its.0, sym its.1)) ∙
        before.others k j (λ n l below. none n l (omega (arith, below)))

-- ---- a value for each of the first leaves of one connector, which have these ports

-- the first of the leaves of the connector have the value of their port, and all others what they had
pub record AreWritten (ports : List Port) (connector count : ℕ) (value : Port → Bool) (old new : ℕ → ℕ → Bool) : Type 0 where
  pub here : (leaf : ℕ) (p : Port) → leaf < count → slice_get ports leaf ≡ Some p → new connector leaf ≡ value p
  pub others : (k leaf : ℕ) → (k ≡ connector → count ≤ leaf) → new k leaf ≡ old k leaf

pub no-leaf-written : (ports : List Port) (connector : ℕ) (value : Port → Bool) (old : ℕ → ℕ → Bool) → AreWritten ports connector 0 value old old
no-leaf-written ports connector value old = record { here = λ leaf p below there. absurd (omega (arith, below)); others = λ k leaf past. refl }

pub one-leaf-written : (ports : List Port) (connector count : ℕ) (value : Port → Bool) (old so_far new : ℕ → ℕ → Bool) (p : Port) → slice_get ports count ≡ Some p
    → ((k j : ℕ) → new k j ≡ cond (is_place connector count k j) (value p) (so_far k j)) → AreWritten ports connector count value old so_far → AreWritten ports connector (count + 1) value old new
one-leaf-written ports connector count value old so_far new at found wrote before = record { here = here; others = others }
  where
    here : (leaf : ℕ) (p : Port) → leaf < count + 1 → slice_get ports leaf ≡ Some p → new connector leaf ≡ value p
    here leaf p below there =
        ⊎_elim
        (λ same. wrote-here connector count (value at) so_far new wrote connector leaf refl same ∙ ap value (same_Some at p (sym found ∙ ap (slice_get ports) (sym same) ∙ there)))
        (λ other. kept-there connector count (value at) so_far new wrote connector leaf (λ its. other its.1) ∙ before.here leaf p (omega (arith, below, other)) there)
        (cases_eq leaf count)

    others : (k leaf : ℕ) → (k ≡ connector → count + 1 ≤ leaf) → new k leaf ≡ old k leaf
    others k leaf past =
        kept-there connector count (value at) so_far new wrote k leaf (λ its. absurd (omega (arith, its.1, past its.0))) ∙
        before.others k leaf (λ same. omega (arith, past same))
