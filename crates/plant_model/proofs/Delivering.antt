-- What the deliveries that are found of the wires give to an atom is what a choice delivers to it.
use Rattle.std.proofs.Common.{◌≡◌, ◌<◌, ◌≤◌, ◌^◌, ◌∙◌, ◌++◌, ℕ, ap, sym, refl, List, length, get_or}
use Rattle.std.specs.Prelude.{slice_get}
use Rattle.std.specs.Option.{option_map_or}
use Rattle.std.proofs.lemmas.Option.{slice_get_read, slice_get_past}
use Rattle.petri_atom.specs.Local.{Local}
use Rattle.connector_tree.specs.Tree.{leaves}
use Rattle.plant_model.specs.BoundExpressions.{deliveries_in, deliveries_with, given_for, inputs_of}
use Rattle.plant_model.specs.Firing.{FiringDefinition}
use Rattle.plant_model.specs.Step.{delivered_by, nothing_delivered, transfer, transfers_with}
use Rattle.plant_model.specs.System.{plant_of}
use Rattle.plant_model.specs.declared.bound_expressions.BoundExpressions.{BoundExpressions}
use Rattle.plant_model.specs.declared.system.System.{System}

module _ (system : System) (states : List Local) (c : FiringDefinition) (small : c.mask < 2 ^ 16) (n : ℕ) (its : n ≡ c.connector) (atom : ℕ) where
  -- what is found of the wire with the choice's number, as far as it is there
  read : option_map_or (λ r. given_for states (deliveries_in r.deliveries ++ deliveries_with (inputs_of r.inputs.items) c.inputs) c.mask atom) (slice_get system.bound.items n) nothing_delivered ≡ transfer (plant_of system) states c atom
  read =
      system.delivering states c.inputs c.mask n atom small ∙
      ap (λ k. option_map_or (λ w. delivered_by (plant_of system).atoms states (leaves w.connector) (transfers_with w c.inputs) c.mask atom) (slice_get (plant_of system).wires k) nothing_delivered) its

  pub given-there : (all : List BoundExpressions) → all ≡ system.bound.items → (r : BoundExpressions) → n < length all → r ≡ get_or all n r
      → given_for states (deliveries_in r.deliveries ++ deliveries_with (inputs_of r.inputs.items) c.inputs) c.mask atom ≡ transfer (plant_of system) states c atom
  given-there all are r within here =
      sym (ap (λ o. option_map_or (λ r. given_for states (deliveries_in r.deliveries ++ deliveries_with (inputs_of r.inputs.items) c.inputs) c.mask atom) o nothing_delivered) (slice_get_read all (length all) n r refl within here)) ∙
      ap (λ rs. option_map_or (λ r. given_for states (deliveries_in r.deliveries ++ deliveries_with (inputs_of r.inputs.items) c.inputs) c.mask atom) (slice_get rs n) nothing_delivered) are ∙ read

  pub given-past : (all : List BoundExpressions) → all ≡ system.bound.items → length all ≤ n → nothing_delivered ≡ transfer (plant_of system) states c atom
  given-past all are past =
      sym (ap (λ o. option_map_or (λ r. given_for states (deliveries_in r.deliveries ++ deliveries_with (inputs_of r.inputs.items) c.inputs) c.mask atom) o nothing_delivered) (slice_get_past all n past)) ∙
      ap (λ rs. option_map_or (λ r. given_for states (deliveries_in r.deliveries ++ deliveries_with (inputs_of r.inputs.items) c.inputs) c.mask atom) (slice_get rs n) nothing_delivered) are ∙ read
