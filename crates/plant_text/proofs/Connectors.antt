-- What a line says of a connector, and of how it is written.
use Rattle.std.proofs.Common.{◌≡◌, ◌∙◌, sym, ap, refl, ℕ, List, Result, Ok, Err}
use Rattle.std.specs.Prelude.{OnOk, OnErr}
use Rattle.petri_atom.specs.Expression.{Tree}
use Rattle.petri_atom.specs.Definition.{AtomDefinition}
use Rattle.connector_tree.specs.Tree as connectors
use Rattle.connector_tree.specs.Tree.{leaves}
use Rattle.connector_tree.specs.declared.tree.Port.{Port}
use Rattle.plant_model.specs.Plant.{TransferDefinition, WireDefinition}
use Rattle.plant_model.specs.declared.wire.Export.{Export}
use Rattle.plant_words.specs.declared.line_fault.LineFault.{LineFault}
use Rattle.connector_tree.specs.Tokens.{tokens_of}
use Rattle.connector_tree.proofs.TokenLeaves.{ports-tree}
use Rattle.connector_lines.specs.Exports.{variable_in}
use Rattle.connector_lines.specs.Rows.{guards_with, transfers_with, guard_row, transfer_row}
use Rattle.plant_text.specs.Text.{WireText, wire_text_of}
use Rattle.plant_text.specs.Names.{atom_number, export_named}
use Rattle.plant_words.specs.Reading.{◌>>=◌}
use Rattle.plant_words.specs.declared.line_kind.WirePart.TheVariants.{Guard, Transfer}
use Rattle.plant_text.specs.Rows.{wire_part_row}

-- how a connector is written, if there is one
abbrev written : Result WireDefinition LineFault → Result WireText LineFault
written (Ok w) = Ok (wire_text_of w)
written (Err fault) = Err fault

-- guard clauses are those of the connector and of how it is written
guards_written : (w : WireDefinition) (read : Result (List (Tree Export)) LineFault) →
    (read >>= λ guards. Ok (record (wire_text_of w) { guards = guards })) ≡ written (read >>= λ guards. Ok (record w { guards = guards }))
guards_written w (Ok guards) = refl
guards_written w (Err fault) = refl

-- the same of transfers
transfers_written : (w : WireDefinition) (read : Result (List TransferDefinition) LineFault) →
    (read >>= λ transfers. Ok (record (wire_text_of w) { transfers = transfers })) ≡ written (read >>= λ transfers. Ok (record w { transfers = transfers }))
transfers_written w (Ok transfers) = refl
transfers_written w (Err fault) = refl

-- a line `guard` says the same of a connector and of how it is written
guard_written : (atoms : List AtomDefinition) (words : List (List ℕ)) (w : WireDefinition) →
    wire_part_row Guard atoms words (wire_text_of w) ≡ written (guard_row (atom_number atoms) (export_named atoms) words w)
guard_written atoms words w =
    ap (λ (ports : List Port). guards_with (variable_in (atom_number atoms) (export_named atoms) ports) words w.guards >>= λ guards. Ok (record (wire_text_of w) { guards = guards })) (ports-tree w.connector) ∙
    guards_written w (guards_with (variable_in (atom_number atoms) (export_named atoms) (leaves w.connector)) words w.guards)

-- a line `move` says the same of a connector and of how it is written
transfer_written : (atoms : List AtomDefinition) (words : List (List ℕ)) (w : WireDefinition) →
    wire_part_row Transfer atoms words (wire_text_of w) ≡ written (transfer_row (atom_number atoms) (export_named atoms) words w)
transfer_written atoms words w =
    ap (λ (ports : List Port). transfers_with (variable_in (atom_number atoms) (export_named atoms) ports) words w.transfers >>= λ transfers. Ok (record (wire_text_of w) { transfers = transfers })) (ports-tree w.connector) ∙
    transfers_written w (transfers_with (variable_in (atom_number atoms) (export_named atoms) (leaves w.connector)) words w.transfers)

-- what a line `guard` makes of a connector
pub guard_made : (atoms : List AtomDefinition) (words : List (List ℕ)) (w made : WireDefinition) → guard_row (atom_number atoms) (export_named atoms) words w ≡ Ok made → wire_part_row Guard atoms words (wire_text_of w) ≡ Ok (wire_text_of made)
guard_made atoms words w made says = guard_written atoms words w ∙ ap written says

-- the fault of a line `guard`
pub guard_refused : (atoms : List AtomDefinition) (words : List (List ℕ)) (w : WireDefinition) (fault : LineFault) → guard_row (atom_number atoms) (export_named atoms) words w ≡ Err fault → wire_part_row Guard atoms words (wire_text_of w) ≡ Err fault
guard_refused atoms words w fault says = guard_written atoms words w ∙ ap written says

-- what a line `move` makes of a connector
pub transfer_made : (atoms : List AtomDefinition) (words : List (List ℕ)) (w made : WireDefinition) → transfer_row (atom_number atoms) (export_named atoms) words w ≡ Ok made → wire_part_row Transfer atoms words (wire_text_of w) ≡ Ok (wire_text_of made)
transfer_made atoms words w made says = transfer_written atoms words w ∙ ap written says

-- the fault of a line `move`
pub transfer_refused : (atoms : List AtomDefinition) (words : List (List ℕ)) (w : WireDefinition) (fault : LineFault) → transfer_row (atom_number atoms) (export_named atoms) words w ≡ Err fault → wire_part_row Transfer atoms words (wire_text_of w) ≡ Err fault
transfer_refused atoms words w fault says = transfer_written atoms words w ∙ ap written says

-- the tree of what was read, or another one where nothing was
abbrev tree_after : connectors.Tree → Result WireDefinition LineFault → connectors.Tree
tree_after before (Ok w) = w.connector
tree_after before (Err fault) = before

-- a connector with guard clauses that were read has the tree that it had
guards_keep_the_tree : (w made : WireDefinition) (read : Result (List (Tree Export)) LineFault) → (read >>= λ guards. Ok (record w { guards = guards })) ≡ Ok made → made.connector ≡ w.connector
guards_keep_the_tree w made (Ok guards) says = sym (ap (tree_after w.connector) says)
guards_keep_the_tree w made (Err fault) says = sym (ap (tree_after w.connector) says)

-- the same of transfers
transfers_keep_the_tree : (w made : WireDefinition) (read : Result (List TransferDefinition) LineFault) → (read >>= λ transfers. Ok (record w { transfers = transfers })) ≡ Ok made → made.connector ≡ w.connector
transfers_keep_the_tree w made (Ok transfers) says = sym (ap (tree_after w.connector) says)
transfers_keep_the_tree w made (Err fault) says = sym (ap (tree_after w.connector) says)

-- the name of what was read, or another one where nothing was
abbrev name_after : List ℕ → Result WireDefinition LineFault → List ℕ
name_after before (Ok w) = w.name
name_after before (Err fault) = before

-- a connector with guard clauses that were read has the name that it had
guards_keep_the_name : (w made : WireDefinition) (read : Result (List (Tree Export)) LineFault) → (read >>= λ guards. Ok (record w { guards = guards })) ≡ Ok made → made.name ≡ w.name
guards_keep_the_name w made (Ok guards) says = sym (ap (name_after w.name) says)
guards_keep_the_name w made (Err fault) says = sym (ap (name_after w.name) says)

-- the same of transfers
transfers_keep_the_name : (w made : WireDefinition) (read : Result (List TransferDefinition) LineFault) → (read >>= λ transfers. Ok (record w { transfers = transfers })) ≡ Ok made → made.name ≡ w.name
transfers_keep_the_name w made (Ok transfers) says = sym (ap (name_after w.name) says)
transfers_keep_the_name w made (Err fault) says = sym (ap (name_after w.name) says)

-- after a line `guard`, with or without a fault, the tree is as it was
pub guard_same_tree : (atoms : List AtomDefinition) (words : List (List ℕ)) (w made : WireDefinition) (result : Result (Unit {0}) LineFault) →
    OnOk result (guard_row (atom_number atoms) (export_named atoms) words w ≡ Ok made) → OnErr result (made ≡ w) → (wire_text_of made).tree ≡ (wire_text_of w).tree
guard_same_tree atoms words w made (Ok done) added unchanged =
    ap tokens_of (guards_keep_the_tree w made (guards_with (variable_in (atom_number atoms) (export_named atoms) (leaves w.connector)) words w.guards) added)
guard_same_tree atoms words w made (Err fault) added unchanged = ap (λ (x : WireDefinition). tokens_of x.connector) unchanged

-- the same of a line `move`
pub transfer_same_tree : (atoms : List AtomDefinition) (words : List (List ℕ)) (w made : WireDefinition) (result : Result (Unit {0}) LineFault) →
    OnOk result (transfer_row (atom_number atoms) (export_named atoms) words w ≡ Ok made) → OnErr result (made ≡ w) → (wire_text_of made).tree ≡ (wire_text_of w).tree
transfer_same_tree atoms words w made (Ok done) added unchanged =
    ap tokens_of (transfers_keep_the_tree w made (transfers_with (variable_in (atom_number atoms) (export_named atoms) (leaves w.connector)) words w.transfers) added)
transfer_same_tree atoms words w made (Err fault) added unchanged = ap (λ (x : WireDefinition). tokens_of x.connector) unchanged

-- after a line `guard`, with or without a fault, the name is as it was
pub guard_same_name : (atoms : List AtomDefinition) (words : List (List ℕ)) (w made : WireDefinition) (result : Result (Unit {0}) LineFault) →
    OnOk result (guard_row (atom_number atoms) (export_named atoms) words w ≡ Ok made) → OnErr result (made ≡ w) → (wire_text_of made).name ≡ (wire_text_of w).name
guard_same_name atoms words w made (Ok done) added unchanged =
    guards_keep_the_name w made (guards_with (variable_in (atom_number atoms) (export_named atoms) (leaves w.connector)) words w.guards) added
guard_same_name atoms words w made (Err fault) added unchanged = ap (λ (x : WireDefinition). x.name) unchanged

-- after a line `move`, with or without a fault, the name is as it was
pub transfer_same_name : (atoms : List AtomDefinition) (words : List (List ℕ)) (w made : WireDefinition) (result : Result (Unit {0}) LineFault) →
    OnOk result (transfer_row (atom_number atoms) (export_named atoms) words w ≡ Ok made) → OnErr result (made ≡ w) → (wire_text_of made).name ≡ (wire_text_of w).name
transfer_same_name atoms words w made (Ok done) added unchanged =
    transfers_keep_the_name w made (transfers_with (variable_in (atom_number atoms) (export_named atoms) (leaves w.connector)) words w.transfers) added
transfer_same_name atoms words w made (Err fault) added unchanged = ap (λ (x : WireDefinition). x.name) unchanged
