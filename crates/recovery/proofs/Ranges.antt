-- The states of a plant, and what a device is formatted for, are in the ranges of the format.
use Rattle.std.proofs.Common.{◌≡◌, ◌≤◌, ℕ, true, List, length, map, slice_get, None, Some, sym, ◌∙◌, ap, arith}
use Rattle.std.specs.List.{list_all}
use Rattle.std.proofs.lemmas.List.{length-map}
use Rattle.std.proofs.lemmas.Option.{slice_get_within}
use Rattle.petri_atom.specs.Atom.{definition_of}
use Rattle.petri_atom.specs.declared.atom.Atom.{Atom}
use Rattle.petri_atom.specs.Definition.{AtomDefinition, is_well_formed}
use Rattle.petri_atom.specs.Local.{Local}
use Rattle.petri_atom.specs.declared.state.TheConstants.{MAX_VARIABLES}
use Rattle.record_codec.specs.Identity.{IsIdentity}
use Rattle.record_codec.specs.declared.layout.TheConstants.{DIGEST, LEAST_RING, MOST_RING, MOST_VARIABLES}
use Rattle.plant_model.specs.Fitting.{AllFit, IsOf}
use Rattle.plant_model.specs.Laws.{IsWithinLimits}
use Rattle.plant_model.specs.Plant.{PlantDefinition}
use Rattle.plant_model.specs.Rules.{fault_of}
use Rattle.plant_model.proofs.Membership.{all-in, entry-in}
use Rattle.plant_model.proofs.OfInteractions.{within-limits}
use Rattle.plant_core.proofs.Noted.{few_variables}
use Rattle.plant_image.proofs.ByAtoms.{element_at}

-- a state that fits a well-formed atom has room in a body
pub few_values : (plant : PlantDefinition) (states : List Local) → list_all is_well_formed plant.atoms ≡ true → IsOf plant states → AllFit plant states → (atom : ℕ) (state : Local) → slice_get states atom ≡ Some state
    → length state.values ≤ MOST_VARIABLES
few_values plant states formed of_plant fits atom state at =
    let there = element_at plant.atoms atom (omega (arith, slice_get_within states atom state at, of_plant)) in
    let few : length there.0.variables ≤ MAX_VARIABLES = few_variables there.0 (all-in is_well_formed plant.atoms formed there.0 (entry-in plant.atoms atom there.0 there.1)) in
    omega (arith, few, (fits atom there.0 state there.1 at).variables)

-- what a device is formatted for is in its ranges
pub identity_in_range : (plant : PlantDefinition) (atoms : List Atom) (digest : List ℕ) (ring : ℕ) → fault_of plant ≡ None → map definition_of atoms ≡ plant.atoms → LEAST_RING ≤ ring → ring ≤ MOST_RING → length digest ≡ DIGEST
    → IsIdentity (record { atoms = length atoms; ring = ring; digest = digest })
identity_in_range plant atoms digest ring valid of_plant from to long =
    let limits : IsWithinLimits plant = within-limits plant valid in
    let many : length atoms ≡ length plant.atoms = sym (length-map atoms definition_of) ∙ ap (λ (l : List AtomDefinition). length l) of_plant in
    record {
      some_atom = omega (arith, limits.some_atom, many);
      atoms_within = omega (arith, limits.atoms, many);
      ring_from = from;
      ring_within = to;
      digest_len = long;
    }
