-- Values that come in, after what the transfers give.
use Rattle.std.proofs.Common.{◌≡◌, ◌≤◌, ◌-◌, ℕ, ℤ, suc, arith, drop, get_or, length, map, take, ◌==◌, ◌&&◌, Bool, true, false, cond, refl, sym, ◌∙◌, ap, List, [], ◌∷◌, ◌++◌}
use Rattle.std.specs.Prelude.{Option, None, Some, option_map, slice_get, if◌then◌else◌}
use Rattle.std.proofs.lemmas.Bool.{and_parts, eqb-true}
use Rattle.std.proofs.lemmas.List.{append-nil, append_assoc, take_all}
use Rattle.petri_atom.specs.Local.{Local, Row, given}
use Rattle.plant_model.specs.BoundExpressions.{DeliveryDefinition, InputDefinition, deliveries_with, delivery_with, given_for, has_all, input_of, inputs_of, is_for}
use Rattle.plant_model.specs.Delivery.{AreDelivered, IsGiven}
use Rattle.plant_model.specs.declared.bound_input.BoundInput.{BoundInput}
use Rattle.plant_model.specs.declared.choice.Move.{Move}
use Rattle.plant_model.proofs.ValueRows.{given-behind, passed-behind}

and_no : (b : Bool) → (b && false) ≡ false
and_no true = refl
and_no false = refl

-- where one of two fails, it fails beside a third
beside : (a b c : Bool) → (a && c) ≡ false → (a && (b && c)) ≡ false
beside true b c fails = ap (λ x. b && x) fails ∙ and_no b
beside false b c fails = refl

module _ (states : List Local) (ds : List DeliveryDefinition) (mask : ℕ) (i : InputDefinition) (value : ℤ) where
  abbrev it : DeliveryDefinition
  it = delivery_with i value

  -- what an atom gets, where it is the input's, and where it is not
  changed : (atom : ℕ) (b : Bool) → (i.atom == atom) ≡ b → has_all mask i.leaves ≡ true → (if b then given i.export value (given_for states ds mask atom) else given_for states ds mask atom) ≡ given_for states (ds ++ it ∷ []) mask atom
  changed atom true its told =
      sym (given-behind states ds mask it atom (ap Some (eqb-true i.atom atom its)) told)
  changed atom false its told =
      sym (passed-behind states ds mask it atom
      (λ e. ap (λ b. b && is_for atom e it) told ∙ ap (λ b. i.export == e && b) its ∙ and_no (i.export == e)))

  -- a value comes in at the moves, where its input applies, and where it does not
  module _ (moves : List Move) (old new : List Row) (so_far : AreDelivered moves (given_for states ds mask) old) where
    pub comes-in : has_all mask i.leaves ≡ true → IsGiven moves (λ other. i.atom == other) i.export value old new → AreDelivered moves (given_for states (ds ++ it ∷ []) mask) new
    comes-in told done place m there first =
        done place m (given_for states ds mask m.atom) there first (so_far place m there first) ∙
        ap Some (changed m.atom (i.atom == m.atom) refl told)

    pub stays-out : has_all mask i.leaves ≡ false → new ≡ old → AreDelivered moves (given_for states (ds ++ it ∷ []) mask) new
    stays-out told same place m there first =
        ap (λ row. slice_get row place) same ∙ so_far place m there first ∙
        ap Some (sym (passed-behind states ds mask it m.atom (λ e. ap (λ b. b && is_for m.atom e it) told)))

  -- and for one atom
  pub added : (atom : ℕ) (old new : Row) → (has_all mask i.leaves && i.atom == atom) ≡ true → new ≡ given i.export value old → old ≡ given_for states ds mask atom → new ≡ given_for states (ds ++ it ∷ []) mask atom
  added atom old new told done so_far =
      let parts = and_parts (has_all mask i.leaves) (i.atom == atom) told in
      done ∙ ap (given i.export value) so_far ∙ sym (given-behind states ds mask it atom (ap Some (eqb-true i.atom atom parts.1)) parts.0)

  pub not-added : (atom : ℕ) (old new : Row) → (has_all mask i.leaves && i.atom == atom) ≡ false → new ≡ old → old ≡ given_for states ds mask atom → new ≡ given_for states (ds ++ it ∷ []) mask atom
  not-added atom old new told same so_far =
      same ∙ so_far ∙ sym (passed-behind states ds mask it atom (λ e. beside (has_all mask i.leaves) (i.export == e) (i.atom == atom) told))

-- the values that come in, the first of them and then the others
pub one-more : (ds : List DeliveryDefinition) (o : Option InputDefinition) (is : List (Option InputDefinition)) (v : ℤ) (vs : List ℤ) → (ds ++ deliveries_with (o ∷ []) (v ∷ [])) ++ deliveries_with is vs ≡ ds ++ deliveries_with (o ∷ is) (v ∷ vs)
one-more ds None is v vs = ap (λ xs. xs ++ deliveries_with is vs) (append-nil ds)
one-more ds (Some i) is v vs = append_assoc ds (delivery_with i v ∷ []) (deliveries_with is vs)

-- where nothing comes in
pub none-comes : (ds : List DeliveryDefinition) (is : List (Option InputDefinition)) → ds ≡ ds ++ deliveries_with is []
none-comes ds [] = sym (append-nil ds)
none-comes ds (i ∷ is) = sym (append-nil ds)

-- the same of inputs as they are kept, where the first of both lists is read
pub first-and-later : (ds : List DeliveryDefinition) (inputs : List (Option BoundInput)) (values : List ℤ) (input : Option BoundInput) (value other : ℤ) → 1 ≤ length inputs → input ≡ get_or inputs 0 input → 1 ≤ length values → value ≡ get_or values 0 other
    → (ds ++ deliveries_with (option_map input_of input ∷ []) (value ∷ [])) ++ deliveries_with (inputs_of (take (length inputs - 1) (drop 1 inputs))) (take (length values - 1) (drop 1 values)) ≡ ds ++ deliveries_with (inputs_of inputs) values
first-and-later ds [] values input value other some first least is = absurd (omega (arith, some))
first-and-later ds (x ∷ xs) [] input value other some first least is = absurd (omega (arith, least))
first-and-later ds (x ∷ xs) (v ∷ vs) input value other some first least is =
    ap (λ o. (ds ++ deliveries_with (option_map input_of o ∷ []) (value ∷ [])) ++ deliveries_with (inputs_of (take (length (x ∷ xs) - 1) xs)) (take (length (v ∷ vs) - 1) vs)) first ∙
    ap (λ z. (ds ++ deliveries_with (option_map input_of x ∷ []) (z ∷ [])) ++ deliveries_with (inputs_of (take (length (x ∷ xs) - 1) xs)) (take (length (v ∷ vs) - 1) vs)) is ∙
    ap (λ is. (ds ++ deliveries_with (option_map input_of x ∷ []) (v ∷ [])) ++ deliveries_with (inputs_of is) (take (length (v ∷ vs) - 1) vs)) (take_all (length (x ∷ xs) - 1) xs (omega arith)) ∙
    ap (λ zs. (ds ++ deliveries_with (option_map input_of x ∷ []) (v ∷ [])) ++ deliveries_with (inputs_of xs) zs) (take_all (length (v ∷ vs) - 1) vs (omega arith)) ∙
    one-more ds (option_map input_of x) (inputs_of xs) v vs
