-- What is found of wires says of guards and transfers what the wires say.
use Rattle.std.proofs.Common.{◌≡◌, ℕ, ℤ, ◌<◌, ◌++◌, ◌==◌, ◌&&◌, refl, sym, ◌∙◌, ap, cond, List, [], ◌∷◌, map, Bool, true, false, arith, lit<, ⊎_elim}
use Rattle.std.specs.Prelude.{Option, Some, None, bit_or, filter, find, is_some, nat_lt, slice_get, option_map, if◌then◌else◌}
use Rattle.std.specs.Int.Bits.{or_zero_r}
use Rattle.std.specs.List.{list_all}
use Rattle.std.specs.Option.{option_map_or}
use Rattle.std.proofs.lemmas.Bool.{and_from, and_parts, cases_Bool, eqb-true, false≢true, lt-ltb}
use Rattle.std.proofs.lemmas.List.{map-append}
use Rattle.std.proofs.lemmas.List.Elements.{filter-append}
use Rattle.std.proofs.lemmas.Option.{same_Some, slice_get-map}
use Rattle.petri_atom.specs.Definition.{AtomDefinition}
use Rattle.petri_atom.specs.Expression.{number, value_of}
use Rattle.petri_atom.specs.Local.{Local}
use Rattle.petri_atom.specs.declared.state.TheConstants.{MAX_EXPORTS}
use Rattle.connector_tree.specs.Tree.{leaves}
use Rattle.connector_tree.specs.declared.tree.Port.{Port}
use Rattle.plant_model.specs.Exports.{guards_hold}
use Rattle.plant_model.specs.Plant.{WireDefinition}
use Rattle.plant_model.specs.BoundExpressions.{DeliveryDefinition, InputDefinition, clause_of, clause_holds, delivery_by, delivery_with, deliveries_in, deliveries_with, input_by, inputs_of, leaf_bit, given_for, has_all, has_target, is_for, value_for, bound_of, bound_by, AreGuarding, AreDelivering}
use Rattle.plant_model.specs.Firing.{handed}
use Rattle.plant_model.specs.Step.{delivered_by, nothing_delivered, transfers_with}
use Rattle.plant_model.specs.Values.{value_there}
use Rattle.plant_model.specs.declared.bound_expressions.BoundExpressions.{BoundExpressions}
use Rattle.plant_model.specs.declared.wire.Input.{Input}
use Rattle.plant_model.proofs.Resolving.{clauses-found, given-found}
use Rattle.plant_model.proofs.ValueRows.{four-values}

-- ---- deliveries that have a target

-- the first that passes a test passes each test that it implies
first-of-some : {X : Type 0} (p q : X → Bool) (xs : List X) → ((x : X) → p x ≡ true → q x ≡ true) → find p (filter q xs) ≡ find p xs
first-of-some p q [] implied = refl
first-of-some p q (x ∷ xs) implied =
    ⊎_elim
    (λ yes_. ap (λ b. find p (cond b (x ∷ filter q xs) (filter q xs))) yes_ ∙ ap (λ o. cond (p x) (Some x) o) (first-of-some p q xs implied))
    (λ no.
    let fails : p x ≡ false = ⊎_elim (λ passes. absurd (false≢true (sym no ∙ implied x passes))) (λ fails. fails) (cases_Bool (p x)) in
    ap (λ b. find p (cond b (x ∷ filter q xs) (filter q xs))) no ∙ first-of-some p q xs implied ∙ sym (ap (λ b. cond b (Some x) (find p xs)) fails))
    (cases_Bool (q x))

-- a delivery to an exported variable of an atom has that target
is-for-target : (atom export : ℕ) (d : DeliveryDefinition) → export < 4 → is_for atom export d ≡ true → has_target d ≡ true
is-for-target atom export d low its =
    let parts = and_parts (d.export == export) (option_map_or (λ a. a == atom) d.atom false) its in
    and_from (nat_lt d.export 4) (is_some d.atom) (lt-ltb d.export 4 (omega (arith, low, eqb-true d.export export parts.0))) (known d.atom parts.1)
  where
    known : (o : Option ℕ) → option_map_or (λ a. a == atom) o false ≡ true → is_some o ≡ true
    known None none = absurd (false≢true none)
    known (Some a) some = refl

-- those without one give nothing
with-targets : (states : List Local) (mask atom : ℕ) (ds : List DeliveryDefinition) → given_for states (filter has_target ds) mask atom ≡ given_for states ds mask atom
with-targets states mask atom ds = four-values (at 0 (lit< tt)) (at 1 (lit< tt)) (at 2 (lit< tt)) (at 3 (lit< tt))
  where
    at : (export : ℕ) → export < 4 → value_for states (filter has_target ds) mask atom export ≡ value_for states ds mask atom export
    at export low =
        ap (option_map (λ d. value_of (value_there states) d.value))
        (first-of-some (λ d. has_all mask d.leaves && is_for atom export d) has_target ds
        (λ d passes. is-for-target atom export d low (and_parts (has_all mask d.leaves) (is_for atom export d) passes).1))

-- ---- inputs

-- the values that come in are delivered as transfers of these values, of those that have a target
module _ (atoms : List AtomDefinition) (ports : List Port) where
  pub inputs-found : (inputs : List Input) (values : List ℤ) → deliveries_with (map (input_by ports) inputs) values ≡ filter has_target (map (delivery_by atoms ports) (handed inputs values))
  inputs-found [] values = refl
  inputs-found (i ∷ is) [] = refl
  inputs-found (i ∷ is) (v ∷ vs) = each (nat_lt i.target.export MAX_EXPORTS) (slice_get ports i.target.leaf) (inputs-found is vs)
    where
      leaf : ℕ
      leaf = i.target.leaf

      made : Option Port → DeliveryDefinition
      made o = record { leaves = bit_or (leaf_bit leaf) 0; atom = option_map (λ p. p.atom) o; export = i.target.export; value = number v }

      found : Bool → Option Port → Option InputDefinition
      found b o = if b then option_map (λ p. record { leaves = leaf_bit leaf; atom = p.atom; export = i.target.export }) o else None

      each : (b : Bool) (o : Option Port) → deliveries_with (map (input_by ports) is) vs ≡ filter has_target (map (delivery_by atoms ports) (handed is vs)) → deliveries_with (found b o ∷ map (input_by ports) is) (v ∷ vs) ≡ (if b && is_some (option_map (λ (p : Port). p.atom) o) then made o ∷ filter has_target (map (delivery_by atoms ports) (handed is vs)) else filter has_target (map (delivery_by atoms ports) (handed is vs)))
      each false o rest = rest
      each true None rest = rest
      each true (Some p) rest =
          ap (λ n. record { leaves = n; atom = Some p.atom; export = i.target.export; value = number v } ∷ deliveries_with (map (input_by ports) is) vs) (sym (or_zero_r (leaf_bit leaf))) ∙ ap (λ ds. made (Some p) ∷ ds) rest

-- ---- wires

module _ (atoms : List AtomDefinition) (wires : List WireDefinition) (all : List BoundExpressions) (found : map bound_of all ≡ map (bound_by atoms) wires) where
  at-wire : (n : ℕ) → option_map bound_of (slice_get all n) ≡ option_map (bound_by atoms) (slice_get wires n)
  at-wire n = sym (slice_get-map bound_of all n) ∙ ap (λ rs. slice_get rs n) found ∙ slice_get-map (bound_by atoms) wires n

  pub guarding-found : AreGuarding atoms wires all
  guarding-found states mask n small = each (slice_get all n) (slice_get wires n) (at-wire n)
    where
      each : (r : Option BoundExpressions) (o : Option WireDefinition) → option_map bound_of r ≡ option_map (bound_by atoms) o → option_map_or (λ r. list_all (clause_holds states mask) (map clause_of r.clauses.items)) r true ≡ option_map_or (λ w. guards_hold atoms states (leaves w.connector) mask w.guards) o true
      each None None same = refl
      each None (Some w) same = absurd (false≢true (ap is_some same))
      each (Some r) None same = absurd (false≢true (sym (ap is_some same)))
      each (Some r) (Some w) same =
          ap (λ d. list_all (clause_holds states mask) d.clauses) (same_Some (bound_of r) (bound_by atoms w) same) ∙
          clauses-found mask small atoms (leaves w.connector) states w.guards

  pub delivering-found : AreDelivering atoms wires all
  delivering-found states values mask n atom small = each (slice_get all n) (slice_get wires n) (at-wire n)
    where
      each : (r : Option BoundExpressions) (o : Option WireDefinition) → option_map bound_of r ≡ option_map (bound_by atoms) o → option_map_or (λ r. given_for states (deliveries_in r.deliveries ++ deliveries_with (inputs_of r.inputs.items) values) mask atom) r nothing_delivered ≡ option_map_or (λ w. delivered_by atoms states (leaves w.connector) (transfers_with w values) mask atom) o nothing_delivered
      each None None same = refl
      each None (Some w) same = absurd (false≢true (ap is_some same))
      each (Some r) None same = absurd (false≢true (sym (ap is_some same)))
      each (Some r) (Some w) same =
          let by = delivery_by atoms (leaves w.connector) in
          ap (λ d. given_for states (d.deliveries ++ deliveries_with d.inputs values) mask atom) (same_Some (bound_of r) (bound_by atoms w) same) ∙
          ap (λ ds. given_for states (filter has_target (map by w.transfers) ++ ds) mask atom) (inputs-found atoms (leaves w.connector) w.inputs values) ∙
          ap (λ ds. given_for states ds mask atom) (sym (ap (filter has_target) (map-append by w.transfers (handed w.inputs values)) ∙ filter-append has_target (map by w.transfers) (map by (handed w.inputs values)))) ∙
          with-targets states mask atom (map by (transfers_with w values)) ∙
          given-found mask small atoms (leaves w.connector) states (transfers_with w values) atom
