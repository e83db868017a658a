-- What is wrong with an image by the cells that are read is what is wrong with it by all of its cells.
use Rattle.std.proofs.Common.{◌≡◌, ◌≢◌, ◌∙◌, sym, ap, refl, arith, ℕ, ◌+◌, ◌*◌, ◌≤◌, ◌<◌, ◌==◌, nat_lt, Bool, true, false, not, List, [], ◌∷◌, length, take, Option, Some, None, Result, Ok, Err}
use Rattle.std.specs.Prelude.{IfOk, IfSome}
use Rattle.std.specs.Option.{option_and_then, option_map_or}
use Rattle.std.proofs.lemmas.Bool.{eqb-true, ltb-true, ltb-false, not-false}
use Rattle.std.proofs.lemmas.List.{get_or-take, take_all}
use Rattle.disk_model.specs.Cells.{Cell, cell, cells_in, seen_cells}
use Rattle.disk_model.specs.DiskState.{DiskState, size_of}
use Rattle.disk_model.specs.Moments.{seen_length}
use Rattle.disk_model.specs.declared.cells.TheConstants.{BODY}
use Rattle.record_codec.specs.Identity.{IdentityFields, identity_in}
use Rattle.record_codec.specs.Ring.{device_cells, identity_cell}
use Rattle.record_codec.specs.declared.layout.TheConstants.{MOST_ATOMS, MOST_RING, VERSION}
use Rattle.record_codec.proofs.Identities.{held_identity_is_spelled}
use Rattle.plant_model.specs.Plant.{PlantDefinition}
use Rattle.plant_model.specs.Rules.{first_of, first_fault_in}
use Rattle.plant_model.specs.System.{plant_of, digest_of}
use Rattle.plant_model.specs.declared.system.System.{System}
use Rattle.plant_image.specs.Contents.{contents_of, identity_held, ring_held}
use Rattle.plant_image.specs.Faults.{atom_fault, base_fault, cell_bytes, fault_of, fault_where, first_cell_fault, first_fault, identity_fault, is_for, leading_fault, records_fault}
use Rattle.plant_image.specs.declared.fault.ImageFault.{ImageFault}
use Rattle.plant_image.specs.declared.fault.ImageFault.TheVariants.{WrongSize, OtherSystem}
use Rattle.plant_image.proofs.AtomSlots.{no_first, no_later, not_wrong}
use Rattle.plant_image.proofs.KeptCells.{identity_same}
use Rattle.image_inspection.specs.Inspected.{inspected_cells, most_cells}
use Rattle.image_inspection.specs.Verdicts.{IsAsBooted, verdict_on}
use Rattle.image_inspection.specs.declared.ending.InspectionEnding.{InspectionEnding}
use Rattle.image_inspection.specs.declared.verdict.Verdict.{Verdict}

-- an identity that a body holds has a ring of no more than the most
ring-within : (body : List ℕ) (identity : IdentityFields) → identity_in body ≡ Some identity → identity.ring ≤ MOST_RING
unfolding identity_in
ring-within body identity held = (held_identity_is_spelled VERSION body identity held).in_range.ring_within

-- and so has any device
ring-most : (cells : List Cell) → ring_held cells ≤ MOST_RING
ring-most cells = by_cell (cell cells identity_cell)
  where
    by_value : (body : List ℕ) (o : Option IdentityFields) → identity_in body ≡ o → option_map_or (λ (identity : IdentityFields). identity.ring) o 0 ≤ MOST_RING
    by_value body None is = omega arith
    by_value body (Some identity) is = ring-within body identity is

    by_cell : (c : Cell) → option_map_or (λ (identity : IdentityFields). identity.ring) (option_and_then identity_in c) 0 ≤ MOST_RING
    by_cell None = omega arith
    by_cell (Some body) = by_value body (identity_in body) refl

-- a device that is no larger than its first cell tells has no more cells than an image has at most
no-more : (atoms : ℕ) (digest : List ℕ) (bytes : ℕ) (cells : List Cell) → atoms ≤ MOST_ATOMS → identity_fault atoms digest bytes cells ≡ None → cells_in cell_bytes bytes ≤ most_cells
no-more atoms digest bytes cells few none =
    let second = no_later (fault_where (nat_lt bytes cell_bytes) WrongSize) _ none in
    let third = no_later (first_cell_fault (cell cells identity_cell)) _ second in
    let fourth = no_later (fault_where (not (option_map_or (is_for atoms digest) (identity_held cells) false)) OtherSystem) _ third in
    let right : not (bytes == cell_bytes * device_cells atoms (ring_held cells)) ≡ false =
    not_wrong (not (bytes == cell_bytes * device_cells atoms (ring_held cells))) WrongSize (no_first _ None fourth) in
    let told : bytes ≡ cell_bytes * device_cells atoms (ring_held cells) = eqb-true bytes (cell_bytes * device_cells atoms (ring_held cells)) (not-false _ right) in
    let ring : ring_held cells ≤ MOST_RING = ring-most cells in
    omega arith

-- if a first part has a fault, what comes after it does not count
first-alone : {F : Type 0} (found a b later other : Option F) → found ≢ None → first_of (first_of found a) later ≡ first_of (first_of found b) other
first-alone None a b later other some = absurd (some refl)
first-alone (Some fault) a b later other some = refl

-- if something is wrong by the first cell, that is found
same-fault : (plant : PlantDefinition) (digest : List ℕ) (bytes : ℕ) (cells others : List Cell)
    → identity_fault (length plant.atoms) digest bytes others ≡ identity_fault (length plant.atoms) digest bytes cells → identity_fault (length plant.atoms) digest bytes cells ≢ None
    → fault_of plant digest bytes cells ≡ fault_of plant digest bytes others
same-fault plant digest bytes cells others same some =
    first-alone (identity_fault (length plant.atoms) digest bytes cells) (behind cells) (behind others) (leading_fault plant (contents_of (length plant.atoms) cells)) (leading_fault plant (contents_of (length plant.atoms) others)) some
    ∙ ap (λ (o : Option ImageFault). first_of (first_of o (behind others)) (leading_fault plant (contents_of (length plant.atoms) others))) (sym same)
  where
    -- what is wrong after the first cell
    behind : List Cell → Option ImageFault
    behind found = first_fault (base_fault found ∷ first_fault_in (atom_fault found) 0 plant.atoms ∷ records_fault plant found ∷ [])

-- what is wrong by the cells that are read is what is wrong by all
read-alike : (plant : PlantDefinition) (digest : List ℕ) (bytes : ℕ) (all : List Cell) → length plant.atoms ≤ MOST_ATOMS → length all ≡ cells_in cell_bytes bytes
    → fault_of plant digest bytes (take most_cells all) ≡ fault_of plant digest bytes all
read-alike plant digest bytes all few long = by_test (nat_lt most_cells (length all)) refl
  where
    first : cell (take most_cells all) identity_cell ≡ cell all identity_cell
    first = get_or-take most_cells all identity_cell None (omega arith)

    too_many : most_cells < length all → identity_fault (length plant.atoms) digest bytes (take most_cells all) ≢ None
    too_many more none = let most = no-more (length plant.atoms) digest bytes (take most_cells all) few none in absurd (omega arith)

    by_test : (t : Bool) → nat_lt most_cells (length all) ≡ t → fault_of plant digest bytes (take most_cells all) ≡ fault_of plant digest bytes all
    by_test false is = ap (fault_of plant digest bytes) (take_all most_cells all (ltb-false most_cells (length all) is))
    by_test true is = same-fault plant digest bytes (take most_cells all) all
        (sym (identity_same all (take most_cells all) first (length plant.atoms) digest bytes)) (too_many (ltb-true most_cells (length all) is))

-- so the verdict on a device tells what a boot answers
pub as-booted : (plant : Option System) (s : DiskState) (result : Result Verdict InspectionEnding) → IfSome plant (λ system. length (plant_of system).atoms ≤ MOST_ATOMS)
    → IfOk result (λ v. v ≡ verdict_on plant (size_of s) (inspected_cells s)) → IfOk result (IsAsBooted plant s)
as-booted plant s (Err ending) few is = tt
as-booted None s (Ok v) few is = tt
as-booted (Some system) s (Ok v) few is = ap (λ (w : Verdict). w.fault) is ∙ read-alike (plant_of system) (digest_of system) (size_of s) (seen_cells (BODY + 1) s) few (seen_length (BODY + 1) s)
