-- A text is that of one plant at most.
use Rattle.std.proofs.Common.{◌≡◌, ap, refl, ℕ, List, [], ◌∷◌, map, Result, Ok}
use Rattle.plant_model.specs.Plant.{WireDefinition, PlantDefinition}
use Rattle.connector_tree.proofs.OneTree.{one_tree}
use Rattle.plant_text.specs.Meaning.{meaning}
use Rattle.plant_text.specs.Text.{WireText, PlantText, wire_text_of, text_of}
use Rattle.plant_text.specs.declared.fault.PlantFault.{PlantFault}

same_first : (first first' : WireText) (rest rest' : List WireText) → first ∷ rest ≡ first' ∷ rest' → first ≡ first'
same_first first first' rest rest' same = cc

same_rest : (first first' : WireText) (rest rest' : List WireText) → first ∷ rest ≡ first' ∷ rest' → rest ≡ rest'
same_rest first first' rest rest' same = cc

-- connectors that are written alike are the same
one_wire : (one other : WireDefinition) → wire_text_of one ≡ wire_text_of other → one ≡ other
one_wire one other same = λ i. record {
  name = (same i).name;
  connector = one_tree one.connector other.connector (ap (λ w. w.tree) same) i;
  guards = (same i).guards;
  transfers = (same i).transfers;
  inputs = (same i).inputs;
}

one_row : (one other : List WireDefinition) → map wire_text_of one ≡ map wire_text_of other → one ≡ other
one_row [] [] same = refl
one_row [] (w ∷ ws) same = absurd (cc)
one_row (v ∷ vs) [] same = absurd (cc)
one_row (v ∷ vs) (w ∷ ws) same =
    let first = one_wire v w (same_first (wire_text_of v) (wire_text_of w) (map wire_text_of vs) (map wire_text_of ws) same) in
    let rest = one_row vs ws (same_rest (wire_text_of v) (wire_text_of w) (map wire_text_of vs) (map wire_text_of ws) same) in
    λ i. first i ∷ rest i

-- plants that are written alike are the same
pub one_plant : (one other : PlantDefinition) → text_of one ≡ text_of other → one ≡ other
one_plant one other same = λ i. record {
  atoms = (same i).atoms;
  wires = one_row one.wires other.wires (ap (λ (plant : PlantText). plant.wires) same) i;
  rules = (same i).rules;
}

same_plant : (one other : PlantText) (read : Result PlantText PlantFault) → read ≡ Ok one → read ≡ Ok other → one ≡ other
same_plant one other read is means = cc

-- a text means one plant
pub one_meaning : (text : List ℕ) (one other : PlantDefinition) → meaning text ≡ Ok (text_of one) → meaning text ≡ Ok (text_of other) → one ≡ other
one_meaning text one other is means = one_plant one other (same_plant (text_of one) (text_of other) (meaning text) is means)
