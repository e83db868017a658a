-- Where atoms and connectors stand by their names.
use Rattle.std.proofs.Common.{◌≡◌, ◌∙◌, sym, ap, ℕ, List, map, position, Result, Ok, Err, OnOk}
use Rattle.std.proofs.lemmas.List.{map-set, set-get_or}
use Rattle.std.specs.Prelude.{slice_set, slice_index_or, OnErr}
use Rattle.petri_atom.specs.Definition.{AtomDefinition}
use Rattle.petri_atom.specs.Name.{is_same_text}
use Rattle.atom_lines.specs.Draft.{drafted}
use Rattle.atom_lines.specs.declared.draft.AtomDraft.{AtomDraft}
use Rattle.plant_words.specs.declared.line_fault.LineFault.{LineFault}
use Rattle.atom_lines.proofs.Growing.{Grows}
use Rattle.plant_words.proofs.Positions.{position_of_mapped}
use Rattle.plant_text.specs.Index.{names_of_atoms, names_of_wires}
use Rattle.plant_text.specs.Names.{atom_number, wire_number}
use Rattle.plant_text.specs.Parts.{wire_listed}
use Rattle.plant_text.specs.Text.{WireText}
use Rattle.plant_text.specs.declared.listed.ListedWire.{ListedWire}

-- an atom stands where its name does
pub place_of_atom : (drafts : List AtomDraft) (names : List (List ℕ)) (name : List ℕ) → names ≡ names_of_atoms drafts → position (λ known. is_same_text known name) names ≡ atom_number (map drafted drafts) name
place_of_atom drafts names name named =
    ap (λ (list : List (List ℕ)). position (λ known. is_same_text known name) list) named
    ∙ sym (position_of_mapped (λ (d : AtomDraft). (drafted d).name) (λ known. is_same_text known name) drafts)
    ∙ position_of_mapped drafted (λ (a : AtomDefinition). is_same_text a.name name) drafts

-- a connector stands where its name does
pub place_of_wire : (wires : List ListedWire) (names : List (List ℕ)) (name : List ℕ) → names ≡ names_of_wires wires → position (λ known. is_same_text known name) names ≡ wire_number (map wire_listed wires) name
place_of_wire wires names name named =
    ap (λ (list : List (List ℕ)). position (λ known. is_same_text known name) list) named
    ∙ sym (position_of_mapped (λ (w : ListedWire). (wire_listed w).name) (λ known. is_same_text known name) wires)
    ∙ position_of_mapped wire_listed (λ (w : WireText). is_same_text w.name name) wires

-- where the last of a list becomes another with the same name, the names stay
pub names_stay : {X : Type 0} (name_of : X → List ℕ) (list : List X) (place : ℕ) (last changed : X) → last ≡ slice_index_or list place last → name_of changed ≡ name_of last → map name_of (slice_set list place changed) ≡ map name_of list
names_stay name_of list place last changed read same =
    map-set name_of list place changed
    ∙ ap (λ name. slice_set (map name_of list) place name) same
    ∙ sym (map-set name_of list place last)
    ∙ ap (λ x. map name_of (slice_set list place x)) read
    ∙ ap (map name_of) (set-get_or list place last)

-- after a line of an atom, with or without a fault, the name is as it was
pub same_name_after : (row : Result AtomDefinition LineFault) (a grown : AtomDefinition) (result : Result (Unit {0}) LineFault) → OnOk result (row ≡ Ok grown) → OnErr result (grown ≡ a) → (row ≡ Ok grown → Grows a grown) → grown.name ≡ a.name
same_name_after row a grown (Ok done) added unchanged grows = (grows added).name
same_name_after row a grown (Err fault) added unchanged grows = ap (λ (b : AtomDefinition). b.name) unchanged
