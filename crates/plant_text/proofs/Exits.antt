-- What a function says of its result if memory ran out, and whether one more connector may come.
use Rattle.std.proofs.Common.{◌≡◌, ◌≢◌, ◌∙◌, sym, ap, ℕ, Bool, ◌+◌, List, length, map, Result, Ok, Err}
use Rattle.std.specs.Prelude.{nat_le, IfErr}
use Rattle.std.specs.Result.{IsErrAnd}
use Rattle.plant_model.specs.declared.limits.TheConstants.{MAX_INTERACTIONS}
use Rattle.connector_tree.specs.TokenMeaning.{interactions_in}
use Rattle.plant_text.specs.Fault.{of_no_line}
use Rattle.plant_words.specs.Reading.{check}
use Rattle.plant_text.specs.Rows.{has_room}
use Rattle.plant_text.specs.Interactions.{interactions_of}
use Rattle.plant_text.specs.Parts.{wire_listed}
use Rattle.plant_text.specs.Text.{WireText}
use Rattle.plant_text.specs.declared.listed.ListedWire.{ListedWire}
use Rattle.plant_text.specs.declared.fault.Fault.{Fault}
use Rattle.plant_text.specs.declared.fault.Fault.TheVariants.{Limit, Memory}
use Rattle.plant_text.specs.declared.fault.PlantFault.{PlantFault}

-- want of memory says nothing of a text
pub found_without_memory : {A : Type 0} (result : Result A PlantFault) (Said : PlantFault → Type 0) → IsErrAnd result (λ told. told ≡ of_no_line Memory) → IfErr result (λ told. told ≢ of_no_line Memory → Said told)
found_without_memory (Ok x) Said left = tt
found_without_memory (Err told) Said left = λ other. absurd (other left)

-- whether a plant may have the interactions of one more connector
pub room_for_more : (wires : List ListedWire) (lent : List ListedWire) (wire : ListedWire) (made : WireText) (count : ℕ) (room : Bool) (end : Result (Unit {0}) Fault) →
    lent ≡ wires → wire_listed wire ≡ made → count ≡ length wire.masks.items → room ≡ nat_le (length (interactions_of (map wire_listed lent)) + count) MAX_INTERACTIONS → end ≡ check room Limit →
    check (has_room (map wire_listed wires) made.tree) Limit ≡ end
room_for_more wires lent wire made count room end same is counted tested told =
    let more : length (interactions_in made.tree) ≡ count = ap (λ (w : WireText). length (interactions_in w.tree)) (sym is) ∙ ap length (sym wire.all) ∙ sym counted in
    ap (λ n. check (nat_le (length (interactions_of (map wire_listed wires)) + n) MAX_INTERACTIONS) Limit) more
    ∙ ap (λ (list : List ListedWire). check (nat_le (length (interactions_of (map wire_listed list)) + count) MAX_INTERACTIONS) Limit) (sym same)
    ∙ ap (λ b. check b Limit) (sym tested) ∙ sym told
