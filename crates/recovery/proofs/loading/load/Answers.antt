use Rattle.std.proofs.Common.{◌≡◌, ◌<◌, ◌≤◌, ◌-◌, ◌^◌, ◌/◌, ℕ, List, length, min, take, sym, ◌∙◌, ap, subst, arith}
use Rattle.std.proofs.lemmas.List.{length-map}
use Rattle.std.proofs.lemmas.Result.{IfOk-weaker}
use Rattle.disk_model.specs.Cells.{Cell, cells_in, seen_cells}
use Rattle.disk_model.specs.DiskState.{DiskState, size_of}
use Rattle.disk_model.specs.Moments.{seen_length}
use Rattle.petri_atom.specs.Atom.{definition_of}
use Rattle.record_codec.specs.Ring.{device_cells}
use Rattle.record_codec.specs.declared.layout.TheConstants.{MOST_RING}
use Rattle.plant_model.specs.System.{plant_of}
use Rattle.plant_image.specs.Faults.{cell_bytes}
use Rattle.recovery.proofs.PartlyLoaded.{taken}
use Rattle.recovery.proofs.loading.load.Goals as goal

pub load_cells-requires-clause-inside : goal.load_cells-requires-clause-inside
load_cells-requires-clause-inside g c =
    let bytes : ℕ = size_of (g.C.ReadAsToday.state c.args.cells.now) in
    let told : c.args.bytes / cell_bytes ≤ cells_in g.C.ReadAsToday.bytes_of_cell bytes =
    subst (λ (n : ℕ). n / cell_bytes ≤ cells_in g.C.ReadAsToday.bytes_of_cell bytes) (sym c.requires) (g.met.C.ReadAsToday.no_more bytes) in
    omega (arith, told, c.min.ensures)

pub returns-clause-loaded : goal.returns-clause-loaded
returns-clause-loaded g c keeps =
    let size : ℕ = g.C.ReadAsToday.bytes_of_cell in
    let old : DiskState = g.C.ReadAsToday.state c.args.cells.now in
    let given : List Cell = seen_cells size old in
    let atoms : ℕ = length (plant_of c.args.system.now).atoms in
    let few : length c.atoms.result.now ≡ atoms = sym (length-map c.atoms.result.now definition_of) ∙ ap length c.atoms.ensures in
    let all : List Cell = g.C.ReadAsToday.todays atoms given in
    let long : c.args.bytes / cell_bytes < device_cells atoms MOST_RING → length all ≡ c.args.bytes / cell_bytes = λ less.
    let told : c.args.bytes / cell_bytes ≡ cells_in size (size_of old) =
    subst (λ (n : ℕ). n / cell_bytes < 2 ^ 54 - 1 → n / cell_bytes ≡ cells_in size (size_of old)) (sym c.requires) (g.met.C.ReadAsToday.exact (size_of old)) (omega (arith, less, c.keeps_its_rules.ensures.few)) in
    g.met.C.ReadAsToday.as_many atoms given ∙ seen_length size old ∙ sym told in
    let most : c.device_cells-most.result ≡ device_cells atoms MOST_RING = c.device_cells-most.ensures ∙ ap (λ (n : ℕ). device_cells n MOST_RING) few in
    let count : c.min.result ≡ min (device_cells atoms MOST_RING) (c.args.bytes / cell_bytes) = c.min.ensures ∙ ap (λ (n : ℕ). min n (c.args.bytes / cell_bytes)) most in
    IfOk-weaker c.load_cells.result _ _
    (λ list is. is ∙ ap (λ (n : ℕ). take c.min.result (g.C.ReadAsToday.todays n given)) few ∙ taken (device_cells atoms MOST_RING) (c.args.bytes / cell_bytes) c.min.result all long count)
    (c.load_cells.ensures.loaded keeps)
