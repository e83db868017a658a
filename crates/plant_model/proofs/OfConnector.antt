-- An interaction is possible exactly where it is in no row of a leaf that offers nothing, and in no row of a clause that is 0.
use Rattle.std.proofs.Common.{◌≡◌, ⊎_elim, ℕ, zero, suc, ◌+◌, ◌==◌, ◌<◌, ◌≤◌, ◌^◌, refl, sym, ◌∙◌, ap, subst, List, [], ◌∷◌, length, map, Contains, arith, Bool, true, false, cond, not, ◌&&◌, ◌||◌}
use Rattle.std.specs.Prelude.{Option, Some, None, slice_get}
use Rattle.std.specs.List.{list_all}
use Rattle.std.specs.FinSet.{contains}
use Rattle.std.specs.Option.{option_map_or}
use Rattle.std.proofs.lemmas.Bool.{and_from, and_parts, cases_Bool, cases_lt, eq-eqb, eqb-true, false≢true, true≢false}
use Rattle.std.proofs.lemmas.Option.{none-some, same_Some, slice_get_past, slice_get_within}
use Rattle.petri_atom.specs.Expression.{is_true, value_of}
use Rattle.petri_atom.specs.Local.{Local}
use Rattle.petri_atom.proofs.Markings.{same_answer}
use Rattle.connector_tree.specs.Masks.{chosen, is_set, ports_of}
use Rattle.connector_tree.specs.Tree.{leaves}
use Rattle.connector_tree.specs.declared.tree.Port.{Port}
use Rattle.plant_model.specs.BoundExpressions.{AreGuarding, clause_holds, clause_of, has_all}
use Rattle.plant_model.specs.Values.{value_there}
use Rattle.plant_model.specs.Choice.{Interaction, is_offered_port, is_possible, is_possible_at, passes_guards, plant_interactions}
use Rattle.plant_model.specs.ConnectorRows.{AreRowsOf, is_leaf_off, is_of_connector, is_in_row}
use Rattle.plant_model.specs.Laws.{IsInteractionOf}
use Rattle.plant_model.specs.Plant.{PlantDefinition, WireDefinition}
use Rattle.plant_model.specs.Rules.{fault_of}
use Rattle.plant_model.specs.declared.bound_expressions.BoundExpressions.{BoundExpressions}
use Rattle.plant_model.specs.declared.bound_expressions.Clause.{Clause}
use Rattle.plant_model.specs.declared.connector_rows.ConnectorRows.{ConnectorRows}
use Rattle.plant_model.proofs.Membership.{all-in, entry-in, from-map, here, here-or-later, in-entry, later, to-map}
use Rattle.plant_model.proofs.OfInteractions.{interaction-of}
use Rattle.plant_model.proofs.Pushed.{some-at}

-- ---- lists

-- where each element passes, all do
pub all-from : {X : Type 0} (f : X → Bool) (xs : List X) → ((x : X) → Contains xs x → f x ≡ true) → list_all f xs ≡ true
all-from f [] each = refl
all-from f (x ∷ xs) each = and_from (f x) (list_all f xs) (each x (here x xs)) (all-from f xs (λ y at. each y (later x xs y at)))

-- the leaves of a mask are those at its bits
pub to-chosen : (mask j : ℕ) (ps : List Port) (k : ℕ) (p : Port) → slice_get ps k ≡ Some p → is_set mask (j + k) ≡ true → Contains (chosen mask j ps) p
to-chosen mask j [] k p at set = absurd (none-some p at)
to-chosen mask j (q ∷ qs) zero p at set =
    let e : j + zero ≡ j = omega arith in
    let its : is_set mask j ≡ true = ap (is_set mask) (sym e) ∙ set in
    subst (λ b. Contains (cond b (q ∷ chosen mask (j + 1) qs) (chosen mask (j + 1) qs)) p) (sym its)
    (subst (Contains (q ∷ chosen mask (j + 1) qs)) (same_Some q p at) (here q (chosen mask (j + 1) qs)))
to-chosen mask j (q ∷ qs) (suc k) p at set =
    let e : j + suc k ≡ j + 1 + k = omega arith in
    each (to-chosen mask (j + 1) qs k p at (ap (is_set mask) (sym e) ∙ set)) (is_set mask j)
  where
    each : Contains (chosen mask (j + 1) qs) p → (b : Bool) → Contains (cond b (q ∷ chosen mask (j + 1) qs) (chosen mask (j + 1) qs)) p
    each behind true = later q (chosen mask (j + 1) qs) p behind
    each behind false = behind

pub chosen-at : (mask j : ℕ) (ps : List Port) (p : Port) → Contains (chosen mask j ps) p → (k : ℕ) × (slice_get ps k ≡ Some p) × (is_set mask (j + k) ≡ true)
chosen-at mask j [] p at = absurd (omega (arith, at.1))
chosen-at mask j (q ∷ qs) p at = each (chosen-at mask (j + 1) qs p) (is_set mask j) refl at
  where
    next : (k : ℕ) × (slice_get qs k ≡ Some p) × (is_set mask (j + 1 + k) ≡ true) → (k : ℕ) × (slice_get (q ∷ qs) k ≡ Some p) × (is_set mask (j + k) ≡ true)
    next found =
        let e : j + suc found.0 ≡ j + 1 + found.0 = omega arith in
        (suc found.0, found.1, ap (is_set mask) e ∙ found.2)

    each : (Contains (chosen mask (j + 1) qs) p → (k : ℕ) × (slice_get qs k ≡ Some p) × (is_set mask (j + 1 + k) ≡ true)) → (b : Bool) → is_set mask j ≡ b → Contains (cond b (q ∷ chosen mask (j + 1) qs) (chosen mask (j + 1) qs)) p
        → (k : ℕ) × (slice_get (q ∷ qs) k ≡ Some p) × (is_set mask (j + k) ≡ true)
    each behind true told in_it =
        let e : j + zero ≡ j = omega arith in
        ⊎_elim
        (λ is. (zero, ap Some is, ap (is_set mask) e ∙ told))
        (λ more. next (behind more))
        (here-or-later q (chosen mask (j + 1) qs) p in_it)
    each behind false told in_it = next (behind in_it)

-- ---- an interaction of a connector, by the connector's rows

module _ (plant : PlantDefinition) (valid : fault_of plant ≡ None) (bound : List BoundExpressions) (guarding : AreGuarding plant.atoms plant.wires bound)
    (connector : ℕ) (w : WireDefinition) (b : BoundExpressions) (at_wire : slice_get plant.wires connector ≡ Some w) (at_bound : slice_get bound connector ≡ Some b)
    (all : List Interaction) (listed : all ≡ plant_interactions plant) (rows : ConnectorRows) (right : AreRowsOf all connector (length (leaves w.connector)) b.clauses.items rows)
    (states : List Local) (n : ℕ) (i : Interaction) (there : slice_get all n ≡ Some i) (its : i.connector ≡ connector) (small : i.mask < 2 ^ 16) where
  abbrev ports : List Port
  ports = leaves w.connector

  abbrev holds : Clause → Bool
  holds clause = is_true (value_of (value_there states) (clause_of clause).value)

  is : IsInteractionOf plant i
  is = interaction-of plant valid i (entry-in (plant_interactions plant) n i (ap (λ xs. slice_get xs n) (sym listed) ∙ there))

  wire : is.wire ≡ w
  wire = same_Some is.wire w (sym is.there ∙ ap (slice_get plant.wires) its ∙ at_wire)

  to-mask : (p : Port) → Contains i.ports p → Contains (chosen i.mask 0 ports) p
  to-mask p at = subst (λ (v : WireDefinition). Contains (ports_of v.connector i.mask) p) wire ((is.of_mask p).0 at)

  from-mask : (p : Port) → Contains (chosen i.mask 0 ports) p → Contains i.ports p
  from-mask p at = (is.of_mask p).1 (subst (λ (v : WireDefinition). Contains (ports_of v.connector i.mask) p) (sym wire) at)

  -- its row of a leaf that is there has it where the leaf takes part
  in-leaf-row : (leaf : ℕ) → leaf < length ports → is_in_row rows.on_leaf.items n leaf ≡ is_set i.mask leaf
  in-leaf-row leaf within =
      right.on_leaf leaf n within ∙
      ap (λ o. option_map_or (λ j. j.connector == connector && is_set j.mask leaf) o false) there ∙
      ap (λ x. x && is_set i.mask leaf) (eq-eqb i.connector connector its)

  row-within : (leaf : ℕ) → is_in_row rows.on_leaf.items n leaf ≡ true → leaf < length ports
  row-within leaf inside =
      ⊎_elim (λ within. within)
      (λ past. absurd (false≢true (sym (ap (λ o. option_map_or (λ row. contains row n) o false) (slice_get_past rows.on_leaf.items leaf (omega (arith, past, right.leaves)))) ∙ inside)))
      (cases_lt leaf (length ports))

  at-leaf : (leaf : ℕ) (p : Port) → slice_get ports leaf ≡ Some p → is_leaf_off plant.atoms plant.wires states connector leaf ≡ not (is_offered_port plant.atoms states p)
  at-leaf leaf p at =
      ap (λ o. option_map_or (λ (v : WireDefinition). option_map_or (λ q. not (is_offered_port plant.atoms states q)) (slice_get (leaves v.connector) leaf) false) o false) at_wire ∙
      ap (λ o. option_map_or (λ q. not (is_offered_port plant.atoms states q)) o false) at

  -- where each of its ports is offered, it is in no row of a leaf that offers nothing
  pub offered-no-row : list_all (is_offered_port plant.atoms states) i.ports ≡ true → (leaf : ℕ) → is_in_row rows.on_leaf.items n leaf ≡ true → is_leaf_off plant.atoms plant.wires states connector leaf ≡ false
  offered-no-row offered leaf inside =
      let within = row-within leaf inside in
      let found = some-at ports leaf within in
      let e : 0 + leaf ≡ leaf = omega arith in
      let set : is_set i.mask (0 + leaf) ≡ true = ap (is_set i.mask) e ∙ sym (in-leaf-row leaf within) ∙ inside in
      at-leaf leaf found.0 found.1 ∙
      ap not (all-in (is_offered_port plant.atoms states) i.ports offered found.0 (from-mask found.0 (to-chosen i.mask 0 ports leaf found.0 found.1 set)))

  -- and the other way round
  pub no-row-offered : ((leaf : ℕ) → is_leaf_off plant.atoms plant.wires states connector leaf ≡ true → is_in_row rows.on_leaf.items n leaf ≡ false) → list_all (is_offered_port plant.atoms states) i.ports ≡ true
  no-row-offered none = all-from (is_offered_port plant.atoms states) i.ports (λ p at. each p (chosen-at i.mask 0 ports p (to-mask p at)))
    where
      each : (p : Port) → (k : ℕ) × (slice_get ports k ≡ Some p) × (is_set i.mask (0 + k) ≡ true) → is_offered_port plant.atoms states p ≡ true
      each p found =
          let k : ℕ = found.0 in
          let e : k ≡ 0 + k = omega arith in
          ⊎_elim (λ yes_. yes_)
          (λ no. absurd (false≢true (
          sym (none k (at-leaf k p found.1 ∙ ap not no)) ∙ in-leaf-row k (slice_get_within ports k p found.1) ∙ ap (is_set i.mask) e ∙ found.2)))
          (cases_Bool (is_offered_port plant.atoms states p))

  -- its guards are those of the connector's clauses that apply to it
  guards-of : passes_guards plant.atoms plant.wires states i ≡ list_all (clause_holds states i.mask) (map clause_of b.clauses.items)
  guards-of =
      sym (guarding states i.mask i.connector small) ∙
      ap (λ o. option_map_or (λ (r : BoundExpressions). list_all (clause_holds states i.mask) (map clause_of r.clauses.items)) o true) (ap (slice_get bound) its ∙ at_bound)

  in-clause-row : (k : ℕ) (clause : Clause) → slice_get b.clauses.items k ≡ Some clause → is_in_row rows.under_clause.items n k ≡ has_all i.mask clause.leaves
  in-clause-row k clause at =
      right.under_clause k n clause at ∙
      ap (λ o. option_map_or (λ j. j.connector == connector && has_all j.mask clause.leaves) o false) there ∙
      ap (λ x. x && has_all i.mask clause.leaves) (eq-eqb i.connector connector its)

  -- where its guards pass, it is in no row of a clause that is 0
  pub guards-no-row : passes_guards plant.atoms plant.wires states i ≡ true → (k : ℕ) (clause : Clause) → slice_get b.clauses.items k ≡ Some clause → is_in_row rows.under_clause.items n k ≡ true → holds clause ≡ true
  guards-no-row passes k clause at inside =
      let each : clause_holds states i.mask (clause_of clause) ≡ true =
      all-in (clause_holds states i.mask) (map clause_of b.clauses.items) (sym guards-of ∙ passes) (clause_of clause) (to-map clause_of b.clauses.items clause (entry-in b.clauses.items k clause at)) in
      sym (ap (λ x. not x || holds clause) (sym (in-clause-row k clause at) ∙ inside)) ∙ each

  -- and the other way round
  pub no-row-guards : ((k : ℕ) (clause : Clause) → slice_get b.clauses.items k ≡ Some clause → is_in_row rows.under_clause.items n k ≡ true → holds clause ≡ true) → passes_guards plant.atoms plant.wires states i ≡ true
  no-row-guards true_where =
      guards-of ∙ all-from (clause_holds states i.mask) (map clause_of b.clauses.items) (λ x at. each x (from-map clause_of b.clauses.items x at))
    where
      one : (clause : Clause) (k : ℕ) → slice_get b.clauses.items k ≡ Some clause → clause_holds states i.mask (clause_of clause) ≡ true
      one clause k at =
          ⊎_elim
          (λ applies. ap (λ x. not x || holds clause) applies ∙ true_where k clause at (in-clause-row k clause at ∙ applies))
          (λ apart. ap (λ x. not x || holds clause) apart)
          (cases_Bool (has_all i.mask clause.leaves))

      each : (x : _) → (clause : Clause) × Contains b.clauses.items clause × (clause_of clause ≡ x) → clause_holds states i.mask x ≡ true
      each x found =
          let place = in-entry b.clauses.items found.0 found.1 in
          ap (clause_holds states i.mask) (sym found.2) ∙ one found.0 place.0 place.1

  possible-here : is_possible_at plant.atoms plant.wires states all n ≡ is_possible plant.atoms plant.wires states i
  possible-here = ap (λ o. option_map_or (is_possible plant.atoms plant.wires states) o false) there

  -- it is possible exactly where both are so
  pub possible-no-row : is_possible_at plant.atoms plant.wires states all n ≡ true
      → ((leaf : ℕ) → is_in_row rows.on_leaf.items n leaf ≡ true → is_leaf_off plant.atoms plant.wires states connector leaf ≡ false)
      × ((k : ℕ) (clause : Clause) → slice_get b.clauses.items k ≡ Some clause → is_in_row rows.under_clause.items n k ≡ true → holds clause ≡ true)
  possible-no-row possible =
      let parts = and_parts (list_all (is_offered_port plant.atoms states) i.ports) (passes_guards plant.atoms plant.wires states i) (sym possible-here ∙ possible) in
      (offered-no-row parts.0, guards-no-row parts.1)

  pub no-row-possible : ((leaf : ℕ) → is_leaf_off plant.atoms plant.wires states connector leaf ≡ true → is_in_row rows.on_leaf.items n leaf ≡ false)
      → ((k : ℕ) (clause : Clause) → slice_get b.clauses.items k ≡ Some clause → is_in_row rows.under_clause.items n k ≡ true → holds clause ≡ true)
      → is_possible_at plant.atoms plant.wires states all n ≡ true
  no-row-possible none_off none_zero =
      possible-here ∙
      and_from (list_all (is_offered_port plant.atoms states) i.ports) (passes_guards plant.atoms plant.wires states i) (no-row-offered none_off) (no-row-guards none_zero)

  -- so a set is right at it that has it exactly where it is in no row of a leaf that offers nothing, and in none of a clause that is 0
  pub possible-by-rows : (has : Bool)
      → (((leaf : ℕ) → is_leaf_off plant.atoms plant.wires states connector leaf ≡ true → is_in_row rows.on_leaf.items n leaf ≡ false)
      → ((k : ℕ) (clause : Clause) → slice_get b.clauses.items k ≡ Some clause → is_in_row rows.under_clause.items n k ≡ true → holds clause ≡ true)
      → has ≡ true)
      → ((leaf : ℕ) → is_leaf_off plant.atoms plant.wires states connector leaf ≡ true → is_in_row rows.on_leaf.items n leaf ≡ true → has ≡ false)
      → ((k : ℕ) (clause : Clause) → slice_get b.clauses.items k ≡ Some clause → is_in_row rows.under_clause.items n k ≡ true → holds clause ≡ false → has ≡ false)
      → has ≡ is_possible_at plant.atoms plant.wires states all n
  possible-by-rows has put blocked forbidden =
      same_answer has (is_possible_at plant.atoms plant.wires states all n) forth back
    where
      forth : has ≡ true → is_possible_at plant.atoms plant.wires states all n ≡ true
      forth inside =
          no-row-possible
          (λ leaf off. ⊎_elim (λ its_row. absurd (false≢true (sym (blocked leaf off its_row) ∙ inside))) (λ no. no) (cases_Bool (is_in_row rows.on_leaf.items n leaf)))
          (λ k clause at its_row. ⊎_elim (λ yes_. yes_) (λ no. absurd (false≢true (sym (forbidden k clause at its_row no) ∙ inside))) (cases_Bool (holds clause)))

      back : is_possible_at plant.atoms plant.wires states all n ≡ true → has ≡ true
      back possible =
          let none = possible-no-row possible in
          put
          (λ leaf off. ⊎_elim (λ its_row. absurd (true≢false (sym off ∙ none.0 leaf its_row))) (λ no. no) (cases_Bool (is_in_row rows.on_leaf.items n leaf)))
          none.1

-- ---- each interaction is of one connector

module _ (plant : PlantDefinition) (valid : fault_of plant ≡ None) where
  -- it is one of the plant's
  pub has-connector : (n : ℕ) → n < length (plant_interactions plant) → (k : ℕ) × (k < length plant.wires) × (is_of_connector (plant_interactions plant) k n ≡ true)
  has-connector n within =
      let found = some-at (plant_interactions plant) n within in
      let is = interaction-of plant valid found.0 (entry-in (plant_interactions plant) n found.0 found.1) in (
        found.0.connector,
        slice_get_within plant.wires found.0.connector is.wire is.there,
        ap (λ o. option_map_or (λ i. i.connector == found.0.connector) o false) found.1 ∙ eq-eqb found.0.connector found.0.connector refl,
      )

  -- and no other
  pub one-connector : (n j k : ℕ) → is_of_connector (plant_interactions plant) j n ≡ true → is_of_connector (plant_interactions plant) k n ≡ true → j ≡ k
  one-connector n j k first second = each (slice_get (plant_interactions plant) n) refl
    where
      each : (o : Option Interaction) → slice_get (plant_interactions plant) n ≡ o → j ≡ k
      each None none = absurd (false≢true (sym (ap (λ o. option_map_or (λ i. i.connector == j) o false) none) ∙ first))
      each (Some i) some =
          sym (eqb-true i.connector j (sym (ap (λ o. option_map_or (λ x. x.connector == j) o false) some) ∙ first)) ∙
          eqb-true i.connector k (sym (ap (λ o. option_map_or (λ x. x.connector == k) o false) some) ∙ second)

  -- past the last interaction none is possible
  pub none-possible : (states : List Local) (n : ℕ) → length (plant_interactions plant) ≤ n → is_possible_at plant.atoms plant.wires states (plant_interactions plant) n ≡ false
  none-possible states n past = ap (λ o. option_map_or (is_possible plant.atoms plant.wires states) o false) (slice_get_past (plant_interactions plant) n past)
