use Rattle.std.proofs.Common.{◌≡◌, ◌+◌, ◌*◌, ℕ, List, [], ◌∷◌, length, Ok, Err, is_err, true, false, sym, ◌∙◌, ap, subst, arith}
use Rattle.std.proofs.lemmas.Result.{err_from_is_err_and}
use Rattle.petri_atom.specs.Local.{Local}
use Rattle.disk_model.specs.declared.cells.TheConstants.{BODY}
use Rattle.disk_model.specs.DiskState.{CountsTwo, CountsUpTo, DiskState, size_of}
use Rattle.disk_model.specs.Cells.{EmptyOrNew, Filled, Leaves}
use Rattle.disk_model.specs.Counting.{up_to_more, up_to_then, up_to_two}
use Rattle.disk_model.specs.Moments.{on_ok}
use Rattle.record_codec.specs.Base.{base_bytes}
use Rattle.record_codec.specs.Bytes.{padded}
use Rattle.record_codec.specs.Identity.{IdentityFields, IsIdentity, identity_bytes}
use Rattle.plant_model.specs.Plant.{PlantDefinition}
use Rattle.plant_model.specs.System.{digest_of, plant_of}
use Rattle.plant_image.specs.Standing.{identity_for}
use Rattle.recovery.specs.Writing.{HasWritten, IsBlank, IsWriting}
use Rattle.recovery.proofs.Ranges.{few_values}
use Rattle.recovery.proofs.WrittenCells.{base_leaves, first_closed, has_written, identity_leaves, slots_still, states_leave, unformatted_leaves}
use Rattle.recovery.proofs.writing.write_cells.Goals as goal

-- counts of setting one cell, if it went well and if not
ok_counts : (old new : DiskState) → CountsTwo true old new → CountsUpTo false 2 old new
ok_counts old new counts = up_to_two {V = ℕ} {E = ℕ} (Ok 0) old new counts

err_counts : (old new : DiskState) → CountsTwo false old new → CountsUpTo true 2 old new
err_counts old new counts = up_to_two {V = ℕ} {E = ℕ} (Err 0) old new counts

pub returns-in_err-set-clause-counts : goal.returns-in_err-set-clause-counts
returns-in_err-set-clause-counts g c =
    let old : DiskState = c.args.cells.now in
    let blank : DiskState = c.empty_cells.new.cells in
    let new : DiskState = c.set.new.self in
    let atoms : ℕ = length (plant_of c.args.system.now).atoms in
    let p = err_from_is_err_and c.from_residual-in_err-set.result c.from_residual-in_err-set.ensures.1 in
    rw p.1 (up_to_more true (2 + 2) (6 + 3 * atoms) old new (omega arith) (up_to_then true 2 2 old blank new c.in_ok-empty_cells.ensures.counts (err_counts blank new c.in_err-set.ensures.counts)))

pub returns-in_err-set-clause-stops : goal.returns-in_err-set-clause-stops
returns-in_err-set-clause-stops g c keeps =
    let states : List Local = c.args.states.now in
    let counts : List ℕ = c.args.counts.now in
    let number : ℕ = c.args.number in
    let old : DiskState = c.args.cells.now in
    let blank : DiskState = c.empty_cells.new.cells in
    let new : DiskState = c.set.new.self in
    let plant : PlantDefinition = plant_of c.args.system.now in
    let digest : List ℕ = digest_of c.args.system.now in
    let body : List ℕ = c.to_body.result in
    let run : Leaves (BODY + 1) (EmptyOrNew (BODY + 1) blank (1 ∷ []) (body ∷ [])) blank new = subst (λ (k : ℕ). Leaves (BODY + 1) (EmptyOrNew (BODY + 1) blank (k ∷ []) (body ∷ [])) blank new) c.base_cell.ensures (c.set.ensures.leaves (c.in_ok-empty_cells.ensures.counts.keeps ∙ keeps)) in
    base_leaves plant digest c.args.ring states counts number old blank new (c.in_ok-empty_cells.ensures.blank keeps) body (unformatted_leaves plant digest c.args.ring states counts number old blank (c.in_ok-empty_cells.ensures.stops keeps)) run

pub store_states-requires-clause-values : goal.store_states-requires-clause-values
store_states-requires-clause-values g c =
    few_values (plant_of c.args.system.now) c.args.states.now c.keeps_its_rules.ensures.atoms c.requires.room.of_plant c.requires.room.fits

pub store_states-requires-clause-empty : goal.store_states-requires-clause-empty
store_states-requires-clause-empty g c keeps atom below =
    let blank : DiskState = c.empty_cells.new.cells in
    let based : DiskState = c.set.new.self in
    let body : List ℕ = c.to_body.result in
    let keeps_blank : blank.keeps ≡ true = sym c.in_ok-set.ensures.counts.keeps ∙ keeps in
    let filled : Filled (BODY + 1) (1 ∷ []) (body ∷ []) blank based = subst (λ (k : ℕ). Filled (BODY + 1) (k ∷ []) (body ∷ []) blank based) c.base_cell.ensures (c.in_ok-set.ensures.filled keeps_blank) in
    slots_still blank based body (c.in_ok-empty_cells.ensures.blank (sym c.in_ok-empty_cells.ensures.counts.keeps ∙ keeps_blank)) filled atom

pub returns-in_err-store_states-clause-counts : goal.returns-in_err-store_states-clause-counts
returns-in_err-store_states-clause-counts g c =
    let old : DiskState = c.args.cells.now in
    let blank : DiskState = c.empty_cells.new.cells in
    let based : DiskState = c.set.new.self in
    let new : DiskState = c.store_states.new.cells in
    let states : List Local = c.args.states.now in
    let atoms : ℕ = length (plant_of c.args.system.now).atoms in
    let many : length states ≡ atoms = c.requires.room.of_plant in
    let p = err_from_is_err_and c.from_residual-in_err-store_states.result c.from_residual-in_err-store_states.ensures.1 in
    rw p.1 (up_to_more true (2 + 2 + 3 * length states) (6 + 3 * atoms) old new (omega arith)
    (up_to_then true (2 + 2) (3 * length states) old based new (up_to_then false 2 2 old blank based c.in_ok-empty_cells.ensures.counts (ok_counts blank based c.in_ok-set.ensures.counts)) c.in_err-store_states.ensures.counts))

pub returns-in_err-store_states-clause-stops : goal.returns-in_err-store_states-clause-stops
returns-in_err-store_states-clause-stops g c keeps =
    let states : List Local = c.args.states.now in
    let counts : List ℕ = c.args.counts.now in
    let number : ℕ = c.args.number in
    let old : DiskState = c.args.cells.now in
    let blank : DiskState = c.empty_cells.new.cells in
    let based : DiskState = c.set.new.self in
    let plant : PlantDefinition = plant_of c.args.system.now in
    let digest : List ℕ = digest_of c.args.system.now in
    let ring : ℕ = c.args.ring in
    let body : List ℕ = c.to_body.result in
    let is : IsBlank blank = c.in_ok-empty_cells.ensures.blank keeps in
    let keeps_blank : blank.keeps ≡ true = c.in_ok-empty_cells.ensures.counts.keeps ∙ keeps in
    let run : Leaves (BODY + 1) (EmptyOrNew (BODY + 1) blank (1 ∷ []) (body ∷ [])) blank based = subst (λ (k : ℕ). Leaves (BODY + 1) (EmptyOrNew (BODY + 1) blank (k ∷ []) (body ∷ [])) blank based) c.base_cell.ensures (c.set.ensures.leaves keeps_blank) in
    let filled : Filled (BODY + 1) (1 ∷ []) (body ∷ []) blank based = subst (λ (k : ℕ). Filled (BODY + 1) (k ∷ []) (body ∷ []) blank based) c.base_cell.ensures (c.in_ok-set.ensures.filled keeps_blank) in
    states_leave plant digest ring states counts number old blank based is body filled c.store_states.new.cells
    (base_leaves plant digest ring states counts number old blank based is body (unformatted_leaves plant digest ring states counts number old blank (c.in_ok-empty_cells.ensures.stops keeps)) run)
    (c.store_states.ensures.stops (c.in_ok-set.ensures.counts.keeps ∙ keeps_blank))

-- the base is set
filled_base : (g : _) (c : goal.After-set-2 g) → c.empty_cells.new.cells.keeps ≡ true → Filled (BODY + 1) (1 ∷ []) (c.to_body.result ∷ []) c.empty_cells.new.cells c.set.new.self
filled_base g c keeps = subst (λ (k : ℕ). Filled (BODY + 1) (k ∷ []) (c.to_body.result ∷ []) c.empty_cells.new.cells c.set.new.self) c.base_cell.ensures (c.in_ok-set.ensures.filled keeps)

-- its body is that of the base after the number
spelled_base : (g : _) (c : goal.After-set-2 g) → c.to_body.result ≡ padded BODY (base_bytes (c.args.number + 1))
spelled_base g c = c.to_body.ensures.spelled ∙ ap (λ (n : ℕ). padded BODY (base_bytes n)) c.new.ensures

-- and the body of the first cell that of what the device is formatted for
spelled_identity : (g : _) (c : goal.After-set-2 g) → c.to_body-2.result ≡ padded BODY (identity_bytes (identity_for (plant_of c.args.system.now) (digest_of c.args.system.now) c.args.ring))
spelled_identity g c = c.to_body-2.ensures.spelled ∙ ap (λ (i : IdentityFields). padded BODY (identity_bytes i)) c.identity_for.ensures.value

in_range : (g : _) (c : goal.After-set-2 g) → IsIdentity (identity_for (plant_of c.args.system.now) (digest_of c.args.system.now) c.args.ring)
in_range g c = subst IsIdentity c.identity_for.ensures.value c.identity_for.ensures.in_range

same_size : (g : _) (c : goal.After-set-2 g) → size_of c.store_states.new.cells ≡ size_of c.args.cells.now
same_size g c = c.in_ok-store_states.ensures.counts.size ∙ c.in_ok-set.ensures.counts.size ∙ c.in_ok-empty_cells.ensures.counts.size

pub set-requires-2-clause-closed : goal.set-requires-2-clause-closed
set-requires-2-clause-closed g c keeps =
    let blank : DiskState = c.empty_cells.new.cells in
    let based : DiskState = c.set.new.self in
    let body : List ℕ = c.to_body.result in
    let keeps_based : based.keeps ≡ true = sym c.in_ok-store_states.ensures.counts.keeps ∙ keeps in
    let keeps_blank : blank.keeps ≡ true = sym c.in_ok-set.ensures.counts.keeps ∙ keeps_based in
    let filled : Filled (BODY + 1) (1 ∷ []) (body ∷ []) blank based = subst (λ (k : ℕ). Filled (BODY + 1) (k ∷ []) (body ∷ []) blank based) c.base_cell.ensures (c.in_ok-set.ensures.filled keeps_blank) in
    first_closed blank based c.store_states.new.cells body (length c.args.states.now) c.args.states.now c.args.counts.now c.args.number (c.in_ok-empty_cells.ensures.blank (sym c.in_ok-empty_cells.ensures.counts.keeps ∙ keeps_blank)) filled
    (c.in_ok-store_states.ensures.stored keeps_based)

pub returns-clause-counts : goal.returns-clause-counts
returns-clause-counts g c =
    let old : DiskState = c.args.cells.now in
    let blank : DiskState = c.empty_cells.new.cells in
    let based : DiskState = c.set.new.self in
    let stored : DiskState = c.store_states.new.cells in
    let new : DiskState = c.set-2.new.self in
    let states : List Local = c.args.states.now in
    let atoms : ℕ = length (plant_of c.args.system.now).atoms in
    let many : length states ≡ atoms = c.requires.room.of_plant in
    up_to_more (is_err c.set-2.result) (2 + 2 + 3 * length states + 2) (6 + 3 * atoms) old new (omega arith)
    (up_to_then (is_err c.set-2.result) (2 + 2 + 3 * length states) 2 old stored new
    (up_to_then false (2 + 2) (3 * length states) old based stored (up_to_then false 2 2 old blank based c.in_ok-empty_cells.ensures.counts (ok_counts blank based c.in_ok-set.ensures.counts)) c.in_ok-store_states.ensures.counts)
    (up_to_two c.set-2.result stored new c.set-2.ensures.counts))

pub returns-clause-stops : goal.returns-clause-stops
returns-clause-stops g c keeps =
    let counts : List ℕ = c.args.counts.now in
    let number : ℕ = c.args.number in
    let old : DiskState = c.args.cells.now in
    let blank : DiskState = c.empty_cells.new.cells in
    let based : DiskState = c.set.new.self in
    let stored : DiskState = c.store_states.new.cells in
    let new : DiskState = c.set-2.new.self in
    let plant : PlantDefinition = plant_of c.args.system.now in
    let digest : List ℕ = digest_of c.args.system.now in
    let ring : ℕ = c.args.ring in
    let states : List Local = c.args.states.now in
    let body : List ℕ = c.to_body.result in
    let is : IsBlank blank = c.in_ok-empty_cells.ensures.blank keeps in
    let keeps_blank : blank.keeps ≡ true = c.in_ok-empty_cells.ensures.counts.keeps ∙ keeps in
    let keeps_based : based.keeps ≡ true = c.in_ok-set.ensures.counts.keeps ∙ keeps_blank in
    let keeps_stored : stored.keeps ≡ true = c.in_ok-store_states.ensures.counts.keeps ∙ keeps_based in
    let filled : Filled (BODY + 1) (1 ∷ []) (body ∷ []) blank based = filled_base g c keeps_blank in
    let run : Leaves (BODY + 1) (EmptyOrNew (BODY + 1) blank (1 ∷ []) (body ∷ [])) blank based = subst (λ (k : ℕ). Leaves (BODY + 1) (EmptyOrNew (BODY + 1) blank (k ∷ []) (body ∷ [])) blank based) c.base_cell.ensures (c.set.ensures.leaves keeps_blank) in
    let before : Leaves (BODY + 1) (IsWriting plant digest states number old) old stored = states_leave plant digest ring states counts number old blank based is body filled stored
    (base_leaves plant digest ring states counts number old blank based is body (unformatted_leaves plant digest ring states counts number old blank (c.in_ok-empty_cells.ensures.stops keeps)) run)
    (c.store_states.ensures.stops keeps_based) in
    identity_leaves plant digest ring states counts number old blank based is body filled stored c.requires.room (c.in_ok-store_states.ensures.stored keeps_based) (spelled_base g c) new c.to_body-2.result
    (in_range g c) (spelled_identity g c) c.requires.sized (same_size g c) before (c.set-2.ensures.leaves keeps_stored)

pub returns-clause-written : goal.returns-clause-written
returns-clause-written g c keeps =
    let counts : List ℕ = c.args.counts.now in
    let number : ℕ = c.args.number in
    let old : DiskState = c.args.cells.now in
    let blank : DiskState = c.empty_cells.new.cells in
    let based : DiskState = c.set.new.self in
    let stored : DiskState = c.store_states.new.cells in
    let new : DiskState = c.set-2.new.self in
    let plant : PlantDefinition = plant_of c.args.system.now in
    let digest : List ℕ = digest_of c.args.system.now in
    let ring : ℕ = c.args.ring in
    let states : List Local = c.args.states.now in
    let is : IsBlank blank = c.in_ok-empty_cells.ensures.blank keeps in
    let keeps_blank : blank.keeps ≡ true = c.in_ok-empty_cells.ensures.counts.keeps ∙ keeps in
    let keeps_based : based.keeps ≡ true = c.in_ok-set.ensures.counts.keeps ∙ keeps_blank in
    let keeps_stored : stored.keeps ≡ true = c.in_ok-store_states.ensures.counts.keeps ∙ keeps_based in
    on_ok c.set-2.result (Filled (BODY + 1) (0 ∷ []) (c.to_body-2.result ∷ []) stored new) (HasWritten plant digest ring states counts number new)
    (has_written plant digest ring states counts number old blank based is c.to_body.result (filled_base g c keeps_blank) stored c.requires.room (c.in_ok-store_states.ensures.stored keeps_based) (spelled_base g c) new c.to_body-2.result
    (in_range g c) (spelled_identity g c) c.requires.sized (same_size g c) c.set-2.ensures.counts.size)
    (c.set-2.ensures.filled keeps_stored)
